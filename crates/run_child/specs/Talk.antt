-- A request that is sent over a link, and its reply.
use Rattle.std.specs.Prelude.{◌≡◌, ◌≢◌, ◌⊎◌, ℕ, ◌+◌, ◌<◌, List, [], length, take, Option, Ok, Err}
use Rattle.std.specs.Io.KnownBytes.{Appends, Consumes, IsAtEnd, Keeps}
use Rattle.lf_base.specs.Faults.{Rose}
use Rattle.lf_base.specs.declared.link.Link.{Ghosts as LinkGhosts}
use Rattle.fuse_msgs.specs.declared.request.Request.{Request}
use Rattle.fuse_msgs.specs.declared.reply.Reply.{Reply}
use Rattle.fuse_msgs.specs.declared.reply.Reply.TheVariants as reply
use Rattle.fuse_msgs.specs.Encoding.{request_bytes}
use Rattle.run_child.specs.declared.replies.BadReply.{BadReply}
use Rattle.run_child.specs.declared.child_end.ChildEnd.{ChildEnd}
use Rattle.run_child.specs.declared.child_end.ChildEnd.TheVariants as ends
use Rattle.run_child.specs.Replies.{awaited, reading, unique_of}

-- a place in the conversation: the bytes left to read, those written, the link's count of faults, and how many bytes may
-- still be read
pub record Place : Type 0 where
  pub left : Option (List ℕ)
  pub taken : Option (List ℕ)
  pub faults : ℕ
  pub room : ℕ

abbrev pub place : {L : Type 0} → LinkGhosts L → L → ℕ → Place
place l link room = record { left = l.left link; taken = l.taken link; faults = l.faults link; room = room }

-- known bytes grow by a front of the text, which is not all of it
abbrev pub AppendsPart : Option (List ℕ) → Option (List ℕ) → List ℕ → Type 0
AppendsPart old new text = (n : ℕ) × (n < length text) × Appends old new (take n text)

-- the text was written, or a front of it where the link failed
abbrev pub Wrote : List ℕ → Place → Place → Type 0
Wrote text old new =
    Appends old.taken new.taken text ⊎ (AppendsPart old.taken new.taken text × Rose old.faults new.faults)

-- these bytes were read, and each was counted
pub record Heard (bytes : List ℕ) (old new : Place) : Type 0 where
  pub read : Consumes old.left new.left bytes
  pub counted : old.room ≡ new.room + length bytes

-- nothing was written or read
pub record IsStill (old new : Place) : Type 0 where
  pub written : Keeps old.taken new.taken
  pub heard : Heard [] old new

-- the request was written whole, and these bytes were read behind it
pub record Sent (request : Request) (bytes : List ℕ) (old new : Place) : Type 0 where
  pub written : Appends old.taken new.taken (request_bytes request)
  pub heard : Heard bytes old new

-- the bytes are the reply to that request, by its number, and say this
pub record Says (request : Request) (bytes : List ℕ) (answer : Reply) : Type 0 where
  pub numbered : unique_of bytes ≡ request.unique
  pub reads : reading request.op bytes ≡ Ok answer

-- the bytes are no reply to it: by their form, or of another number
pub data IsUnfit (request : Request) (bytes : List ℕ) : Type 0 where
  by_form : (fault : BadReply) → reading request.op bytes ≡ Err fault → IsUnfit request bytes
  by_number : unique_of bytes ≢ request.unique → IsUnfit request bytes

-- the request was written, and its reply read, which says this
pub record Asked (request : Request) (answer : Reply) (old new : Place) : Type 0 where
  pub bytes : List ℕ
  pub sent : Sent request bytes old new
  pub says : Says request bytes answer
  pub well : new.faults ≡ old.faults

-- less than a reply was read
pub record IsWaiting (request : Request) (old new : Place) : Type 0 where
  pub bytes : List ℕ
  pub sent : Sent request bytes old new
  pub short : length bytes < awaited request.op bytes

-- a part of the request was written
pub record IsCutOff (request : Request) (old new : Place) : Type 0 where
  pub written : AppendsPart old.taken new.taken (request_bytes request)
  pub heard : Heard [] old new

-- what was read is no reply to the request, or the input ends inside it
pub data IsMisread (request : Request) (old new : Place) : Type 0 where
  cut : IsWaiting request old new → IsAtEnd new.left → IsMisread request old new
  unfit : (bytes : List ℕ) → Sent request bytes old new → IsUnfit request bytes → IsMisread request old new

-- why a request has no answer but an error
abbrev pub Stopped : Request → Place → Place → ChildEnd → Type 0
Stopped request old new (ends.Refused errno) = Asked request (reply.Error errno) old new
Stopped request old new ends.BadMessage = IsMisread request old new × (new.faults ≡ old.faults)
Stopped request old new ends.Turns = IsWaiting request old new × (new.room ≡ 0) × (new.faults ≡ old.faults)
Stopped request old new ends.ReadFault = IsWaiting request old new × Rose old.faults new.faults
Stopped request old new ends.WriteFault = IsCutOff request old new × Rose old.faults new.faults
Stopped request old new ends.NoMemory = IsStill old new × (new.faults ≡ old.faults)
Stopped request old new (ends.Ended status) = ⊥
Stopped request old new ends.NotStarted = ⊥

-- the bytes of a reply are no answer: they are an error, or unfit
abbrev pub IsJudged : Request → List ℕ → ChildEnd → Type 0
IsJudged request bytes (ends.Refused errno) = Says request bytes (reply.Error errno)
IsJudged request bytes ends.BadMessage = IsUnfit request bytes
IsJudged request bytes end = ⊥
