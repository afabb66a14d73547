-- The program that mounts a node's files at a folder: when it is started, and what is told of it.
use Rattle.std.specs.Prelude.{◌≡◌, ℕ, ◌+◌, ◌*◌, ◌-◌, ◌<◌, ◌≤◌, min, Bool, true, false, List, ◌++◌, codes, Option, Some, None}
use Rattle.std.specs.Fmt.{decimal}
use Rattle.lf_base.specs.Faults.{one_more}
use Rattle.node_settings.specs.declared.settings.MountSettings.{MountSettings}
use Rattle.node_objects.specs.Breaking.{reason}
use Rattle.node_objects.specs.Lines.{shown}
use Rattle.node_objects.specs.Making.{TakesBack}
use Rattle.node_objects.specs.declared.mounter.ProgramEnd.{ProgramEnd}
use Rattle.node_objects.specs.declared.mounter.ProgramEnd.TheVariants as ends
use Rattle.node_objects.specs.declared.mounter.ProgramNews.{ProgramNews}
use Rattle.node_objects.specs.declared.mounter.ProgramNews.TheVariants as news
use Rattle.node_mount.specs.declared.mount_keeper.MountKeeper.{MountKeeper}
use Rattle.node_mount.specs.declared.notes.Note.{Note}
use Rattle.node_mount.specs.declared.notes.NoteKind.TheVariants as kinds

-- ---- when it is started

-- one that does not run is started, and one that runs is looked at
abbrev pub IsAsked : (runs : Bool) → ProgramNews → Type 0
IsAsked false news.Started = Unit {0}
IsAsked false (news.NotStarted why) = Unit {0}
IsAsked true news.Runs = Unit {0}
IsAsked true (news.Ended end) = Unit {0}
IsAsked runs came = ⊥

-- whether it runs then
abbrev pub runs_after : ProgramNews → Bool
runs_after news.Started = true
runs_after (news.NotStarted why) = false
runs_after news.Runs = true
runs_after (news.Ended end) = false

-- how many milliseconds are waited then: a second, and where it ended or was not started one more for each time before, to a minute
abbrev pub wait_of : ProgramNews → (tries : ℕ) → ℕ
wait_of news.Started tries = 1000
wait_of (news.NotStarted why) tries = 1000 + 1000 * min tries 59
wait_of news.Runs tries = 1000
wait_of (news.Ended end) tries = 1000 + 1000 * min tries 59

-- those times, counted anew once it is seen running
abbrev pub tries_after : ProgramNews → (tries : ℕ) → ℕ
tries_after news.Started tries = tries
tries_after (news.NotStarted why) tries = one_more tries
tries_after news.Runs tries = 0
tries_after (news.Ended end) tries = one_more tries

-- A PROGRAM IS KEPT RUNNING at a moment: nothing is done while it is waited, else it is asked once, and this came of it
abbrev pub Keeps : {N : Type 0} → (N → Option (List ProgramNews)) → (old new : MountKeeper N) → (now : ℕ) → Option ProgramNews → Type 0
Keeps told old new now None = (now - old.last < old.wait) × (new ≡ old)
Keeps told old new now (Some came) = (old.wait ≤ now - old.last) × IsAsked old.runs came × TakesBack came (told old.mounter) (told new.mounter)
    × (new ≡ record old { mounter = new.mounter; runs = runs_after came; last = now; wait = wait_of came old.tries; tries = tries_after came old.tries })

-- ---- what is told of it

abbrev pub program_name : Option (List ℕ) → List ℕ
program_name None = codes "litefs-fuse"
program_name (Some program) = program

abbrev pub mount_front : MountSettings → List ℕ
mount_front mount = codes "mount at " ++ shown mount.dir ++ codes " by " ++ shown (program_name mount.program) ++ codes ": "

abbrev pub end_words : ProgramEnd → List ℕ
end_words (ends.Status status) = codes "ended with status " ++ (shown (decimal status) ++ codes ", is started again")
end_words (ends.Signal signal) = codes "ended by signal " ++ (shown (decimal signal) ++ codes ", is started again")

abbrev pub news_words : ProgramNews → List ℕ
news_words news.Started = codes "started"
news_words (news.NotStarted why) = codes "cannot start" ++ shown (reason why)
news_words news.Runs = codes "runs"
news_words (news.Ended end) = end_words end

-- WHAT IS NOTED of it: nothing of a program that runs
abbrev pub mount_note : (front : List ℕ) → ProgramNews → Option Note
mount_note front news.Started = Some (record { kind = kinds.Mounts; line = front ++ news_words news.Started })
mount_note front (news.NotStarted why) = Some (record { kind = kinds.Unmounts; line = front ++ news_words (news.NotStarted why) })
mount_note front news.Runs = None
mount_note front (news.Ended end) = Some (record { kind = kinds.Unmounts; line = front ++ news_words (news.Ended end) })

-- ---- the program of a node

-- one that was not started yet, for this folder: it is due
pub record IsNewKeeper {N : Type 0} (mount : MountSettings) (keeper : MountKeeper N) : Type 0 where
  pub front : keeper.front ≡ mount_front mount
  pub waits : keeper.wait ≡ 0
  pub runs : keeper.runs ≡ false
  pub tries : keeper.tries ≡ 0

-- A NODE HAS ITS FILES MOUNTED where its settings name a folder, and there
abbrev pub Mounts : {N : Type 0} → Option MountSettings → Option (MountKeeper N) → Type 0
Mounts None None = Unit {0}
Mounts None (Some keeper) = ⊥
Mounts (Some mount) None = ⊥
Mounts (Some mount) (Some keeper) = IsNewKeeper mount keeper
