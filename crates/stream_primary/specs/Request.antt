-- One request over a link, as it was read: its head, the call that the head names, and its body.
use Rattle.std.specs.Prelude.{◌≡◌, ℕ, ◌+◌, ◌≤◌, List, length, take, Option}
use Rattle.std.specs.Io.KnownBytes.{Consumes}
use Rattle.http_exchange.specs.declared.called.Body.{Body}
use Rattle.http_exchange.specs.declared.called.Body.TheVariants as body
use Rattle.http_exchange.specs.declared.called.Called.{Called}
use Rattle.http_exchange.specs.declared.wants.Kept.{Kept}
use Rattle.http_exchange.specs.Called.{PassesOver, body_in}
use Rattle.stream_wire.specs.declared.call.Call.{Call}
use Rattle.stream_wire.specs.Head.{IsRequest}

-- A REQUEST
pub record Request : Type 0 where
  pub head : List ℕ
  pub call : Call
  pub body : List ℕ

-- a whole request was read of a text, and perhaps more behind it
pub record WasRead (text left : Option (List ℕ)) (request : Request) : Type 0 where
  pub bytes : List ℕ
  pub size : ℕ
  pub len : ℕ
  pub names : IsRequest bytes size request.call len
  pub whole : size + len ≤ length bytes
  pub head : request.head ≡ take size bytes
  pub body : request.body ≡ body_in bytes size len
  pub read : Consumes text left bytes

-- of a text a request's head was read, and perhaps more behind it; it names this call, and says a body of this length
pub record WasHeard (text left : Option (List ℕ)) (called : Call) (len : ℕ) : Type 0 where
  pub bytes : List ℕ
  pub size : ℕ
  pub names : IsRequest bytes size called len
  pub read : Consumes text left bytes

-- what came of a body of which so much is kept: it was kept; or it was passed over, since of such a body nothing is kept
abbrev pub CameOf : Kept → List ℕ → Body → Type 0
CameOf kept content (body.Whole bytes) = bytes ≡ content
CameOf kept content body.Passed = PassesOver kept (length content)
CameOf kept content body.Unread = ⊥

-- what came of a request
pub record CameOfRequest (kept : Kept) (request : Request) (called : Called) : Type 0 where
  pub head : called.head ≡ request.head
  pub call : called.call ≡ request.call
  pub body : CameOf kept request.body called.body
