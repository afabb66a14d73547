-- Why no message could be read, of an input that ends inside one and of one that begins none.
use Rattle.std.specs.Prelude.{Bool, true, ◌≡◌, ℕ, List, Option, Result, Ok, Err, IfSome}
use Rattle.std.specs.Io.KnownBytes.{IsAtEnd}
use Rattle.lf_base.specs.Faults.{Rose}
use Rattle.lf_base.specs.declared.session_end.SessionEnd.{SessionEnd}
use Rattle.lf_base.specs.declared.session_end.SessionEnd.TheVariants as ends
use Rattle.link_session.specs.declared.unread.Unread.{Unread}
use Rattle.link_session.specs.declared.unread.Unread.TheVariants as unread
use Rattle.link_session.specs.Reading.{IsUnread, IsCut, IsReadOn}

-- the end of a session whose next message could not be read
abbrev pub end_of : Unread → SessionEnd
end_of unread.Ended = ends.Closed
end_of unread.Cut = ends.BadMessage
end_of unread.Broken = ends.BadMessage
end_of unread.ReadFault = ends.ReadFault
end_of unread.Turns = ends.Turns
end_of unread.NoMemory = ends.NoMemory

abbrev pub ended : {T : Type 0} → Result T Unread → Result T SessionEnd
ended (Ok x) = Ok x
ended (Err why) = Err (end_of why)

-- why no message could be read of this text; and what became of the count of faults
abbrev pub LeavesUnread : {T : Type 0} → Bool → (List ℕ → Type 0) → (List ℕ → Type 0) → Option (List ℕ) → Option (List ℕ) → ℕ → ℕ → ℕ → Result T Unread → Type 0
LeavesUnread memory Partial Broken text left before now turns (Ok _) = now ≡ before
LeavesUnread memory Partial Broken text left before now turns (Err unread.Ended) = IsAtEnd text × IsAtEnd left × (now ≡ before)
LeavesUnread memory Partial Broken text left before now turns (Err unread.Cut) = IsCut Partial text left × (now ≡ before)
LeavesUnread memory Partial Broken text left before now turns (Err unread.Broken) = IfSome text Broken × (now ≡ before)
LeavesUnread memory Partial Broken text left before now turns (Err unread.ReadFault) = IsUnread Partial text left × Rose before now
LeavesUnread memory Partial Broken text left before now turns (Err unread.Turns) = IsUnread Partial text left × (turns ≡ 0) × (now ≡ before)
LeavesUnread memory Partial Broken text left before now turns (Err unread.NoMemory) = (memory ≡ true) × IsReadOn text left × (now ≡ before)
