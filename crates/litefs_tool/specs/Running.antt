-- `run`: a program under the lock of a database, by one dial of a node's file socket.
use Rattle.std.specs.Prelude.{◌≡◌, ℕ, List, [], codes, Option, Result, Ok, Err}
use Rattle.lf_base.specs.Dials.{Dial, IsFailed, IsHungUp, TellsMore, TellsNone}
use Rattle.lf_base.specs.declared.link.Link.{Ghosts as LinkGhosts}
use Rattle.lf_base.specs.declared.source.Failed.{Failed}
use Rattle.lf_base.specs.declared.status.Status.{Status}
use Rattle.lf_base.specs.declared.status.Status.TheVariants as status
use Rattle.node_objects.specs.Making.{NetworkRose, TakesBack, TellsBy}
use Rattle.node_objects.specs.declared.counts.Counts.{Counts}
use Rattle.node_objects.specs.declared.returned.Returned.{Returned}
use Rattle.node_objects.specs.declared.returned.Returned.TheVariants as returned
use Rattle.run_child.specs.Course.{Ends}
use Rattle.run_child.specs.Starts.{Book}
use Rattle.run_child.specs.Talk.{place}
use Rattle.run_child.specs.declared.child_end.ChildEnd.{ChildEnd}
use Rattle.run_child.specs.declared.child_end.ChildEnd.TheVariants as ends
use Rattle.litefs_tool.specs.declared.task.Task.{Task}

-- so many bytes of a link are read at most
abbrev pub byte_limit : ℕ
byte_limit = 1099511627776

-- A RUN OVER A LINK, which was new when it was dialed and was hung up behind the run. The run went and ended as each of its ends says; the
-- maker's count of the network rose where the link had failed, and the others stayed
pub record RanOver {T L : Type 0} (l : LinkGhosts L) (dials : T → Option (List Dial)) (task : Task) (before dialer : T) (counts counts_after : Counts)
    (book book_after : Book) (end : ChildEnd) : Type 0 where
  pub link : L
  pub link_after : L
  pub room : ℕ
  pub sound : l.faults link ≡ 0
  pub unread : TellsNone (l.given link)
  pub unwritten : TellsNone (l.taken link)
  pub went : Ends task.name task.words (place l link byte_limit) (place l link_after room) book book_after end
  pub hung_up : TellsMore (IsHungUp (l.given link_after) (l.taken link_after) (l.left link_after) (l.faults link_after)) (dials before) (dials dialer)
  pub cause : TellsBy NetworkRose (l.faults link_after) counts counts_after

-- the dial failed, and no program was started
pub record IsUndialed {T : Type 0} (dials : T → Option (List Dial)) (before dialer : T) (counts counts_after : Counts) (book book_after : Book) : Type 0 where
  pub told : TellsMore IsFailed (dials before) (dials dialer)
  pub cause : NetworkRose counts counts_after
  pub unstarted : book_after ≡ book

-- by how a run ended, or where it was not dialed
abbrev pub RanBy : {T L : Type 0} → LinkGhosts L → (T → Option (List Dial)) → Task → (before dialer : T) → (counts counts_after : Counts)
    → (book book_after : Book) → Result ChildEnd Failed → Type 0
RanBy l dials task before dialer counts counts_after book book_after (Ok end) = RanOver l dials task before dialer counts counts_after book book_after end
RanBy l dials task before dialer counts counts_after book book_after (Err failed) = IsUndialed dials before dialer counts counts_after book book_after

-- THE DIALER CAME BACK, which has dialed once more, and that went so
pub record ChildBack {D F H T S L : Type 0} (l : LinkGhosts L) (dials : T → Option (List Dial)) (old new : Option (List (Returned D F H T S)))
    (counts counts_after : Counts) (book book_after : Book) (task : Task) (end : Result ChildEnd Failed) : Type 0 where
  pub before : T
  pub dialer : T
  pub back : TakesBack (returned.Dialer dialer) old new
  pub went : RanBy l dials task before dialer counts counts_after book book_after end

-- the status of a run's end, and the name of what is refused
abbrev pub status_of_child : ChildEnd → Status
status_of_child (ends.Ended number) = status.Program number
status_of_child ends.NotStarted = status.NotStarted
status_of_child (ends.Refused errno) = status.LockRefused
status_of_child ends.ReadFault = status.NetworkFault
status_of_child ends.WriteFault = status.NetworkFault
status_of_child ends.BadMessage = status.InputRefused
status_of_child ends.Turns = status.Limit
status_of_child ends.NoMemory = status.NoMemory

abbrev pub name_of_child : ChildEnd → List ℕ
name_of_child ends.BadMessage = codes "BadReply"
name_of_child _ = []

-- the same where it may not have been dialed
abbrev pub status_of_run : Result ChildEnd Failed → Status
status_of_run (Ok end) = status_of_child end
status_of_run (Err failed) = status.NetworkFault

abbrev pub name_of_run : Result ChildEnd Failed → List ℕ
name_of_run (Ok end) = name_of_child end
name_of_run (Err failed) = []

-- WHAT `run` COMES TO: its status is that of its end, the program's where one has ended
pub record ChildOutcome (Back : Result ChildEnd Failed → Type 0) (ended : Status) (name : List ℕ) : Type 0 where
  pub end : Result ChildEnd Failed
  pub back : Back end
  pub status_is : ended ≡ status_of_run end
  pub name_is : name ≡ name_of_run end
