-- What the parts of the journal with a call in store keep.
use Rattle.std.specs.Prelude.{◌≡◌, ◌≤◌, Some, IsSome}
use Rattle.file_view.specs.JournalState.{JournalState, HasRoom, reach}
use Rattle.file_view.specs.declared.journal.JournalCall.{JournalCall}
use Rattle.file_view.specs.declared.journal.holding.Journal.TheInside.{Inside}

-- the state that the parts stand for
abbrev pub state_of : Inside → JournalState
state_of j = record { file = j.file.file; waiting = j.waiting }

-- a call that waits is of a file, within the limit, and takes no memory
pub record IsKept (j : Inside) : Type 0 where
  pub there : (c : JournalCall) → j.waiting ≡ Some c → IsSome j.file.file
  pub short : (c : JournalCall) → j.waiting ≡ Some c → reach c ≤ 268435456
  pub room : (c : JournalCall) → j.waiting ≡ Some c → HasRoom j.file c
