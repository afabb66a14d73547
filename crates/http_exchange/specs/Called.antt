-- A request by the bytes that a link gave, and what of its body is kept.
use Rattle.std.specs.Prelude.{◌≡◌, ℕ, ◌+◌, ◌<◌, ◌≤◌, List, [], ◌∷◌, ◌++◌, length, take, drop, Option}
use Rattle.std.specs.Io.KnownBytes.{Consumes}
use Rattle.lf_base.specs.declared.session_end.SessionEnd.{SessionEnd}
use Rattle.lf_base.specs.declared.session_end.SessionEnd.TheVariants as ends
use Rattle.httparse.specs.Grammar.{HasNoRequest}
use Rattle.stream_wire.specs.declared.call.Call.{Call}
use Rattle.stream_wire.specs.declared.wire_fault.WireFault.{WireFault}
use Rattle.stream_wire.specs.declared.wire_fault.WireFault.TheVariants as fault
use Rattle.stream_wire.specs.Head.{IsRequest, MayTakeRequest, NeverTakesRequest}
use Rattle.http_exchange.specs.declared.called.Body.{Body}
use Rattle.http_exchange.specs.declared.called.Body.TheVariants as body
use Rattle.http_exchange.specs.declared.called.Called.{Called}
use Rattle.http_exchange.specs.declared.wants.Kept.{Kept}
use Rattle.http_exchange.specs.declared.wants.Kept.TheVariants as kept
use Rattle.http_exchange.specs.Reading.{inside}
use Rattle.http_exchange.specs.declared.wants.Wants.{Ghosts as WantsGhosts}

-- the body of a request whose head has this size
abbrev pub body_in : List ℕ → ℕ → ℕ → List ℕ
body_in bytes size len = take len (drop size bytes)

-- the bytes begin with a request's head of this size, which says a body of this length
abbrev pub HasHead : List ℕ → ℕ → ℕ → Type 0
HasHead bytes size len = (called : Call) × IsRequest bytes size called len

-- less than a head, and one can still come
abbrev pub IsHeadPart : List ℕ → Type 0
IsHeadPart bytes = HasNoRequest bytes × MayTakeRequest bytes

-- less than a request, and one can still come: a part of its head, or its head and a part of its body
pub data IsPart (bytes : List ℕ) : Type 0 where
  in_head : IsHeadPart bytes → IsPart bytes
  in_body : (size len : ℕ) → HasHead bytes size len → length bytes < size + len → IsPart bytes

-- a body of this length is kept
abbrev pub KeepsBody : Kept → ℕ → Type 0
KeepsBody kept.Nothing len = ⊥
KeepsBody (kept.Line limit) len = len ≤ limit
KeepsBody (kept.All limit) len = len ≤ limit

-- it is passed over: nothing of it is wanted, or it is too long for the line that is
abbrev pub PassesOver : Kept → ℕ → Type 0
PassesOver kept.Nothing len = Unit {0}
PassesOver (kept.Line limit) len = limit < len
PassesOver (kept.All limit) len = ⊥

-- it is not read: it is too long to be kept whole
abbrev pub LeavesUnread : Kept → ℕ → Type 0
LeavesUnread (kept.All limit) len = limit < len
LeavesUnread _ len = ⊥

-- what became of the body behind a head of this size that says this length
abbrev pub HasBody : Kept → List ℕ → ℕ → ℕ → Body → Type 0
HasBody kept bytes size len (body.Whole content) = KeepsBody kept len × (size + len ≤ length bytes) × (content ≡ body_in bytes size len)
HasBody kept bytes size len body.Passed = PassesOver kept len × (size + len ≤ length bytes)
HasBody kept bytes size len body.Unread = LeavesUnread kept len

-- A REQUEST WAS READ of a text, and perhaps more behind it: its head, this call, and of its body what is wanted of it
pub record WasCalled {W : Type 0} (w : WantsGhosts W) (wants : W) (text left : Option (List ℕ)) (called : Called) : Type 0 where
  pub bytes : List ℕ
  pub size : ℕ
  pub len : ℕ
  pub head : IsRequest bytes size called.call len
  pub head_is : called.head ≡ take size bytes
  pub body : HasBody (w.keeps wants called.call) bytes size len called.body
  pub read : Consumes text left bytes

-- why a request's head was refused: none that is taken comes; or memory ran out
abbrev pub RefusesHead : List ℕ → SessionEnd → Type 0
RefusesHead bytes ends.BadMessage = NeverTakesRequest bytes
RefusesHead bytes ends.NoMemory = Unit {0}
RefusesHead bytes _ = ⊥

-- the end of a session whose request has a head of this fault
abbrev pub end_by : WireFault → SessionEnd
end_by fault.NoMemory = ends.NoMemory
end_by _ = ends.BadMessage

-- the end of a session whose input ended, or could not be read, behind these bytes of a head
abbrev pub end_behind : List ℕ → SessionEnd → SessionEnd
end_behind [] end = end
end_behind (b ∷ bs) end = inside end

-- behind a request's head a body came, of which this is kept
pub record ReadsBody (kept : Kept) (bytes : List ℕ) (size len : ℕ) (text left : Option (List ℕ)) (body : Body) : Type 0 where
  pub more : List ℕ
  pub has : HasBody kept (bytes ++ more) size len body
  pub read : Consumes text left more
