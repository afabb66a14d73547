-- How a request is asked.
use Rattle.std.specs.Prelude.{◌==◌, Bool, false}
use Rattle.fuse_msgs.specs.declared.request.Op.{Op}
use Rattle.fuse_msgs.specs.declared.request.Op.TheVariants as op
use Rattle.turn_desk.specs.declared.history.Entry.{Entry}
use Rattle.link_session.specs.Asking.{Manner}
use Rattle.link_session.specs.Stands.{Asker}
use Rattle.node_core.specs.declared.ask.Ask.{Ask}
use Rattle.node_core.specs.declared.answer.Answer.{Answer}
use Rattle.node_core.specs.declared.answer.Answer.TheVariants as answer
use Rattle.node_core.specs.Moments.{ask_at}
use Rattle.file_session.specs.declared.serving.Tries.{Tries}
use Rattle.file_session.specs.declared.serving.Tries.TheVariants as tries

-- a SETLKW waits for its lock, every other request is asked once
abbrev pub tries_of : Op → Tries
tries_of (op.Setlkw fh owner start end kind) = tries.UntilGranted
tries_of _ = tries.Once

-- whether the answer means: ask again. It does where the lock is held by another, EAGAIN
abbrev pub is_again : Tries → Answer → Bool
is_again tries.UntilGranted (answer.Refuse number) = number.0 == 11
is_again _ _ = false

-- what the node was asked, and what it answered
abbrev pub FileEntry : Type 0
FileEntry = Entry Ask Answer

abbrev pub manner : Asker → Op → Manner Ask Answer
manner who asked = record { may = who.may; at_moment = ask_at; again = is_again (tries_of asked); caller = who.caller }
