-- The head of a reply as what is read first.
use Rattle.std.specs.Prelude.{ℕ, List, length, Option, Some, None}
use Rattle.httparse.specs.Grammar.{HasNoResponse}
use Rattle.link_session.specs.declared.stage.Stage.{Stage}
use Rattle.link_session.specs.declared.stage.Stage.TheVariants as stages
use Rattle.stream_wire.specs.Head.{IsResponse, MayTakeResponse}

-- the bytes of a head with this status, and no more
abbrev pub IsHead : ℕ → List ℕ → Type 0
IsHead status bytes = (len : Option ℕ) × IsResponse bytes (length bytes) status len

-- the bytes of some head
abbrev pub IsSomeHead : List ℕ → Type 0
IsSomeHead bytes = (status : ℕ) × IsHead status bytes

-- less than a head, and one can still come
abbrev pub IsHeadPart : List ℕ → Type 0
IsHeadPart bytes = HasNoResponse bytes × MayTakeResponse bytes

-- the bytes of a head so far, and the status of one that is whole
pub record HeadBytes : Type 0 where
  pub held : List ℕ
  pub status : Option ℕ

-- the bytes hold no head, or are one
abbrev pub HoldsHead : Option ℕ → List ℕ → Type 0
HoldsHead None bytes = HasNoResponse bytes
HoldsHead (Some status) bytes = IsHead status bytes

abbrev pub head_stage : Option ℕ → Stage
head_stage None = stages.Open
head_stage (Some status) = stages.Whole
