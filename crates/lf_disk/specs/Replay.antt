-- What a record of calls makes of a folder.
use Rattle.std.specs.Prelude.{Bool, true, false, List, [], ◌∷◌, length, None, if◌then◌else◌}
use Rattle.lf_disk.specs.declared.record.Call.{Call}
use Rattle.lf_disk.specs.declared.record.Change.{Change}
use Rattle.lf_disk.specs.declared.record.Change.TheVariants.{Write, Cut, Sync, Rename, Remove}
use Rattle.lf_disk.specs.Folder.{Folder, with_file, with_write, with_length, renamed, Same}
use Rattle.lf_disk.specs.Change.{Step, Perhaps, Renames, TearsFile, CropsFile, SetsFile}

-- the folder after a change
abbrev pub changed : Change → Folder → Folder
changed (Write name at piece) f = with_write name at piece f
changed (Cut name len) f = with_length name len f
changed (Sync name) f = f
changed (Rename from to) f = renamed from to f
changed (Remove name) f = with_file name None f

-- the step was taken where the call was done, and else perhaps
abbrev pub TakenIf : Bool → Step → Step
TakenIf true step = step
TakenIf false step = Perhaps step

-- what a crash makes of a folder that it could leave before the call, where the files read so
abbrev pub CrashStep : Call → Folder → Step
CrashStep call seen = crash call.change
  where
    crash : Change → Step
    crash (Write name at piece) = TearsFile name at (length piece)
    crash (Cut name len) = CropsFile name len
    crash (Sync name) = TakenIf call.done (SetsFile name (seen name))
    crash (Rename from to) = TakenIf call.done (Renames from to)
    crash (Remove name) = TakenIf call.done (SetsFile name None)

-- what the files read as, and what a crash may leave
pub record State : Type 1 where
  pub seen : Folder
  pub leaves : Folder → Type 0

-- nothing is pending
abbrev pub at_rest : Folder → State
at_rest f = record { seen = f; leaves = Same f }

-- what the files read as after a call; one that failed is not seen
abbrev pub shown_after : Call → Folder → Folder
shown_after call f = if call.done then changed call.change f else f

-- the state after a call; a crash may show one that failed
abbrev pub after : State → Call → State
after s call = record {
  seen = shown_after call s.seen;
  leaves = λ c. (d : Folder) × s.leaves d × CrashStep call s.seen d c;
}

-- the state after these calls, the oldest first
abbrev pub replay : State → List Call → State
replay s [] = s
replay s (call ∷ calls) = replay (after s call) calls
