-- Bytes that are awaited of a link, and a request that a run may make.
use Rattle.std.specs.Prelude.{◌≡◌, ℕ, ◌<◌, ◌≤◌, List, length, take}
use Rattle.std.specs.Io.KnownBytes.{IsAtEnd}
use Rattle.lf_base.specs.Faults.{Rose}
use Rattle.fuse_msgs.specs.declared.reply.Reply.{Reply}
use Rattle.fuse_msgs.specs.declared.reply.Reply.TheVariants as reply
use Rattle.fuse_msgs.specs.declared.request.Op.{Op}
use Rattle.fuse_msgs.specs.declared.request.Request.{Request}
use Rattle.fuse_msgs.specs.Encoding.{Fits}
use Rattle.run_child.specs.declared.child_end.ChildEnd.{ChildEnd}
use Rattle.run_child.specs.declared.child_end.ChildEnd.TheVariants as ends
use Rattle.run_child.specs.declared.filling.Unfilled.{Unfilled}
use Rattle.run_child.specs.declared.filling.Unfilled.TheVariants as why
use Rattle.run_child.specs.Replies.{TakesBytes, awaited, body_size}
use Rattle.run_child.specs.Talk.{Heard, Place}

-- why no more bytes came
abbrev pub LacksMore : Unfilled → Place → Place → Type 0
LacksMore why.Ended old new = IsAtEnd new.left × (new.faults ≡ old.faults)
LacksMore why.Turns old new = (new.room ≡ 0) × (new.faults ≡ old.faults)
LacksMore why.ReadFault old new = Rose old.faults new.faults

-- only the first bytes of these came
pub record IsFilledPart (bytes : List ℕ) (old new : Place) (cause : Unfilled) : Type 0 where
  pub count : ℕ
  pub short : count < length bytes
  pub heard : Heard (take count bytes) old new
  pub lacks : LacksMore cause old new

-- these bytes are all of a reply, by its length
pub record IsGathered (asked : Op) (bytes : List ℕ) (old new : Place) : Type 0 where
  pub heard : Heard bytes old new
  pub whole : length bytes ≡ awaited asked bytes
  pub well : new.faults ≡ old.faults

-- less than a reply came
pub record IsGatheredPart (asked : Op) (old new : Place) (cause : Unfilled) : Type 0 where
  pub bytes : List ℕ
  pub heard : Heard bytes old new
  pub short : length bytes < awaited asked bytes
  pub lacks : LacksMore cause old new

-- a request whose reply takes no memory and has at most 144 bytes
pub record IsAskable (what : Request) : Type 0 where
  pub fits : Fits what
  pub plain : TakesBytes what.op → ⊥
  pub small : body_size what.op ≤ 128

-- an answer that is no error
abbrev pub IsNoError : Reply → Type 0
IsNoError (reply.Error errno) = ⊥
IsNoError _ = Unit {0}

-- how a run ends whose reply did not come whole
abbrev pub end_of : Unfilled → ChildEnd
end_of why.Ended = ends.BadMessage
end_of why.ReadFault = ends.ReadFault
end_of why.Turns = ends.Turns
