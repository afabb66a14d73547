-- How a run goes, and how it ends.
use Rattle.std.specs.Prelude.{◌≡◌, ℕ, List, Option}
use Rattle.lf_base.specs.Faults.{Rose}
use Rattle.fuse_msgs.specs.declared.reply.Reply.TheVariants as reply
use Rattle.run_child.specs.declared.child_end.ChildEnd.{ChildEnd}
use Rattle.run_child.specs.declared.child_end.ChildEnd.TheVariants as ends
use Rattle.run_child.specs.Requests.{destroy, init, last_three, look_up, open_file, release, take_lock, unlock}
use Rattle.run_child.specs.Started.{TellsOne, TellsSame}
use Rattle.run_child.specs.Starts.{Book}
use Rattle.run_child.specs.Talk.{Asked, Place, Stopped, Wrote}

-- the lock's file was found at this node
pub record IsFound (name : List ℕ) (node : ℕ) (old new : Place) : Type 0 where
  pub begun : Place
  pub size : ℕ
  pub first : Asked init reply.Init old begun
  pub second : Asked (look_up name) (reply.Entry node size) begun new

-- and opened as this handle
pub record IsOpened (name : List ℕ) (node fh : ℕ) (old new : Place) : Type 0 where
  pub found : Place
  pub before : IsFound name node old found
  pub third : Asked (open_file node) (reply.Opened fh) found new

-- THE LOCK WAS GRANTED: the first four requests were each written and answered, in order, the last by the grant
pub record IsGranted (name : List ℕ) (node fh : ℕ) (old new : Place) : Type 0 where
  pub opened : Place
  pub before : IsOpened name node fh old opened
  pub fourth : Asked (take_lock node fh) reply.Empty opened new

-- a starter may be asked wherever the lock was granted
abbrev pub StartsUnder : List ℕ → Place → (Option (List ℕ) → Type 0) → Type 0
StartsUnder name old may_start = (node fh : ℕ) (locked : Place) → IsGranted name node fh old locked → may_start locked.taken

-- one of the first four requests has no answer but an error, and those before it were answered
pub data StopsEarly (name : List ℕ) (old new : Place) (end : ChildEnd) : Type 0 where
  at_init : Stopped init old new end → StopsEarly name old new end
  at_look_up : (p : Place) → Asked init reply.Init old p → Stopped (look_up name) p new end → StopsEarly name old new end
  at_open : (node : ℕ) (p : Place) → IsFound name node old p → Stopped (open_file node) p new end → StopsEarly name old new end
  at_lock : (node fh : ℕ) (p : Place) → IsOpened name node fh old p → Stopped (take_lock node fh) p new end → StopsEarly name old new end

-- the last three requests were written, or a front of them where the link failed
abbrev pub Closes : ℕ → ℕ → Place → Place → Type 0
Closes node fh old new = Wrote (last_three node fh) old new

-- THE PROGRAM WAS STARTED UNDER THE LOCK, once, with these words, and ended with this status; then the session was closed
pub record RanUnderLock (name : List ℕ) (words : List (List ℕ)) (status : ℕ) (old new : Place) (book book_now : Book) : Type 0 where
  pub node : ℕ
  pub fh : ℕ
  pub locked : Place
  pub granted : IsGranted name node fh old locked
  pub started : TellsOne book.starts book_now.starts (record { words = words; gave = status })
  pub well : book_now.faults ≡ book.faults
  pub closed : Closes node fh locked new

-- the lock was granted, and the program could not be started
pub record FailedUnderLock (name : List ℕ) (old new : Place) (book book_now : Book) : Type 0 where
  pub node : ℕ
  pub fh : ℕ
  pub locked : Place
  pub granted : IsGranted name node fh old locked
  pub started : TellsSame book.starts book_now.starts
  pub failed : Rose book.faults book_now.faults
  pub closed : Closes node fh locked new

-- no program was started, and none was tried
pub record NoneStarted (name : List ℕ) (end : ChildEnd) (old new : Place) (book book_now : Book) : Type 0 where
  pub stopped : StopsEarly name old new end
  pub same : book_now ≡ book

-- EACH END WITH ITS CAUSE
abbrev pub Ends : List ℕ → List (List ℕ) → Place → Place → Book → Book → ChildEnd → Type 0
Ends name words old new book book_now (ends.Ended status) = RanUnderLock name words status old new book book_now
Ends name words old new book book_now ends.NotStarted = FailedUnderLock name old new book book_now
Ends name words old new book book_now end = NoneStarted name end old new book book_now
