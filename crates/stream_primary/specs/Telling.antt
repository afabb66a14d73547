-- What a node's answer is to a follower, and how it stands then.
use Rattle.std.specs.Prelude.{ℕ, Bool, true, false, List, [], ◌++◌, None, if◌then◌else◌}
use Rattle.lf_base.specs.declared.pos.Pos.{Pos}
use Rattle.node_core.specs.declared.answer.Answer.{Answer}
use Rattle.node_core.specs.declared.answer.Answer.TheVariants as answer
use Rattle.node_core.specs.declared.whereabouts.Whereabouts.{Whereabouts}
use Rattle.node_core.specs.declared.refusal.Refusal.TheVariants as refusal
use Rattle.stream_wire.specs.declared.frame.Frame.TheVariants as frame
use Rattle.stream_wire.specs.Frame.{frame_text}
use Rattle.stream_wire.specs.Writing.{reply_head}
use Rattle.stream_primary.specs.declared.standing.Sent.{Sent}
use Rattle.stream_primary.specs.declared.standing.Sent.TheVariants as sent
use Rattle.stream_primary.specs.declared.standing.Standing.{Standing}
use Rattle.stream_primary.specs.Refusing.{refused_reply}

-- the stream goes on with this answer: a file, a drop, or that the follower is level
abbrev pub goes_on : Answer → Bool
goes_on (answer.Item ltx after) = true
goes_on answer.Gone = true
goes_on (answer.Level pos) = true
goes_on _ = false

-- the head of the reply, which has no length, where it was not written before
abbrev pub opening : Sent → List ℕ
opening sent.Nothing = reply_head 200 None
opening _ = []

-- that the follower is level is sent once
abbrev pub ready_frame : List ℕ → Sent → Pos → List ℕ
ready_frame name sent.Ready pos = []
ready_frame name _ pos = frame_text (frame.Ready name pos)

-- the frame that an answer is
abbrev pub frame_for : List ℕ → Sent → Answer → List ℕ
frame_for name sent (answer.Item ltx after) = frame_text (frame.Ltx name ltx)
frame_for name sent answer.Gone = frame_text (frame.Drop name)
frame_for name sent (answer.Level pos) = ready_frame name sent pos
frame_for name sent _ = []

-- the end of a stream that has begun: an End where the node is no primary any longer, else nothing
abbrev pub end_frame : Answer → List ℕ
end_frame (answer.Refused refusal.NotPrimary) = frame_text frame.End
end_frame _ = []

-- what ends a stream: the reply where none was begun
abbrev pub last_words : Sent → Answer → List ℕ
last_words sent.Nothing given = refused_reply given
last_words _ given = end_frame given

-- THE BYTES that an answer is to a follower of this database
abbrev pub words : List ℕ → Sent → Answer → List ℕ
words name sent given = if goes_on given then opening sent ++ frame_for name sent given else last_words sent given

-- of these the file, which is written from where it stands
abbrev pub file_of : Answer → List ℕ
file_of (answer.Item ltx after) = ltx
file_of _ = []

-- it was sent something
abbrev pub begun : Sent → Sent
begun sent.Ready = sent.Ready
begun _ = sent.Head

-- a follower at this position, of whose last file nothing is said
abbrev pub unsaid : Pos → Whereabouts
unsaid pos = record { pos = pos; last = None }

-- THE NEXT STANDING, behind this answer: behind a drop the follower has nothing. What it said of its last file counts until it was
-- sent something
abbrev pub next : Standing → Answer → Standing
next at (answer.Item ltx after) = record { here = unsaid after; sent = begun at.sent }
next at answer.Gone = record { here = unsaid (record { txid = 0; sum = 0 }); sent = begun at.sent }
next at (answer.Level pos) = record { here = at.here; sent = sent.Ready }
next at _ = at

-- a stream from a position on, before anything was sent
abbrev pub standing_at : Whereabouts → Standing
standing_at from = record { here = from; sent = sent.Nothing }
