-- The JSON (RFC 8259) of requests to the lease service and of its replies.
use Rattle.std.specs.Prelude.{◌≡◌, ℕ, ◌^◌, ◌<◌, ◌⊎◌, List, codes, Some, IsUtf8}
use Rattle.lf_base.specs.Hex.{hex_digits}
use Rattle.serde_json.specs.Data.{Data, string, number, unsigned, object, Members, no_members, member}
use Rattle.serde_json.specs.Read.{read}
use Rattle.lease_core.specs.declared.lease_ask.LeaseAsk.{LeaseAsk}
use Rattle.lease_core.specs.declared.lease_ask.LeaseAsk.TheVariants as ask
use Rattle.lease_core.specs.declared.lease_reply.LeaseKind.{LeaseKind}
use Rattle.lease_core.specs.declared.lease_reply.LeaseKind.TheVariants as kind
use Rattle.lease_core.specs.declared.lease_reply.LeaseReply.{LeaseReply}
use Rattle.lease_core.specs.declared.lease_reply.LeaseReply.TheVariants as reply
use Rattle.lease_core.specs.declared.body_fault.BodyFault.{BodyFault}
use Rattle.lease_core.specs.declared.body_fault.BodyFault.TheVariants as fault

-- the bytes are JSON of this value, nested at most 127 deep
abbrev pub IsJson : List ℕ → Data → Type 0
IsJson bytes d = IsUtf8 bytes × (read bytes ≡ Some d)

-- ---- requests

-- a node's number is written as 16 hexadecimal digits
abbrev pub node_text : ℕ → Data
node_text node = string (hex_digits 16 node)

-- an operation on a node's term
abbrev pub term_members : List ℕ → ℕ → ℕ → Members
term_members op node term =
    member (codes "node") (node_text node) (member (codes "op") (string op) (member (codes "term") (number (unsigned term)) no_members))

-- the operations on a term
abbrev pub IsTermOp : List ℕ → Type 0
IsTermOp op = (op ≡ codes "renew") ⊎ (op ≡ codes "release")

-- the members of a request, in the order of their keys
abbrev pub ask_members : LeaseAsk → Members
ask_members (ask.Acquire node url host) =
    member (codes "host") (string host) (member (codes "node") (node_text node)
    (member (codes "op") (string (codes "acquire")) (member (codes "url") (string url) no_members)))
ask_members (ask.Renew node term) = term_members (codes "renew") node term
ask_members (ask.Release node term) = term_members (codes "release") node term
ask_members ask.Info = member (codes "op") (string (codes "info")) no_members

-- the numbers are of 64 bits
abbrev pub FitsAsk : LeaseAsk → Type 0
FitsAsk (ask.Acquire node url host) = node < 2 ^ 64
FitsAsk (ask.Renew node term) = node < 2 ^ 64
FitsAsk (ask.Release node term) = node < 2 ^ 64
FitsAsk ask.Info = Unit {0}

-- a value that is a request's
abbrev pub IsAskData : Data → Type 0
IsAskData d = (ask : LeaseAsk) × FitsAsk ask × (d ≡ object (ask_members ask))

-- no request has these members
abbrev pub NoAsk : Members → Type 0
NoAsk members = (ask : LeaseAsk) → FitsAsk ask → members ≡ ask_members ask → ⊥

-- ---- replies

abbrev pub kind_name : LeaseKind → List ℕ
kind_name kind.Held = codes "Held"
kind_name kind.Unknown = codes "Unknown"
kind_name kind.Late = codes "Late"
kind_name kind.Limit = codes "Limit"

-- the members of a reply, in the order of their keys
abbrev pub reply_members : LeaseReply → Members
reply_members (reply.Grant host term ttl url) =
    member (codes "host") (string host) (member (codes "term") (number (unsigned term))
    (member (codes "ttl") (number (unsigned ttl)) (member (codes "url") (string url) no_members)))
reply_members (reply.Renewed ttl) = member (codes "ttl") (number (unsigned ttl)) no_members
reply_members reply.Empty = no_members
reply_members (reply.Refused kind until) =
    member (codes "error") (string (kind_name kind)) (member (codes "until") (number (unsigned until)) no_members)

-- a refusal that knows of no end says 0
abbrev pub FitsKind : LeaseKind → ℕ → Type 0
FitsKind kind.Unknown until = until ≡ 0
FitsKind kind.Limit until = until ≡ 0
FitsKind _ until = Unit {0}

abbrev pub FitsReply : LeaseReply → Type 0
FitsReply (reply.Refused kind until) = FitsKind kind until
FitsReply _ = Unit {0}

-- a value that is a reply's
abbrev pub IsReplyData : Data → Type 0
IsReplyData d = (reply : LeaseReply) × FitsReply reply × (d ≡ object (reply_members reply))

-- no reply has these members
abbrev pub NoReply : Members → Type 0
NoReply members = (reply : LeaseReply) → FitsReply reply → members ≡ reply_members reply → ⊥

-- ---- refusals

-- why bytes are no body of a shape: they are no JSON, or JSON of another value
abbrev pub BreaksBody : (Data → Type 0) → List ℕ → BodyFault → Type 0
BreaksBody IsShape bytes fault.Syntax = (d : Data) → IsJson bytes d → ⊥
BreaksBody IsShape bytes fault.Shape = (d : Data) × IsJson bytes d × (IsShape d → ⊥)
BreaksBody IsShape bytes fault.NoMemory = Unit {0}

abbrev pub IsObject : Data → Type 0
IsObject d = (members : Members) × (d ≡ object members)

abbrev pub IsAny : Data → Type 0
IsAny d = Unit {0}

-- a refusal for the shape has this cause, and none is for the syntax
abbrev pub IsShapeOnly : Type 0 → BodyFault → Type 0
IsShapeOnly cause fault.Syntax = ⊥
IsShapeOnly cause fault.Shape = cause
IsShapeOnly cause fault.NoMemory = Unit {0}
