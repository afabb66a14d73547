-- How many members a request or a reply has, and that no other shape is left.
use Rattle.std.proofs.Common.{◌≡◌, ◌≢◌, ℕ, ◌<◌, ◌^◌, suc, List, [], ◌∷◌, length, String, Global, ap, refl, ◌∙◌, arith, codes, inl, inr, IfErr, Result, Ok, Err}
use Rattle.serde_json.specs.Data.{object, Members, no_members}
use Rattle.serde_json.specs.Events.{members_len}
use Rattle.serde_json.specs.View.{members_view}
use Rattle.serde_json.specs.declared.value.Value.{Value}
use Rattle.lease_core.specs.declared.lease_ask.LeaseAsk.{LeaseAsk}
use Rattle.lease_core.specs.declared.lease_ask.LeaseAsk.TheVariants as ask
use Rattle.lease_core.specs.declared.lease_reply.LeaseKind.{LeaseKind}
use Rattle.lease_core.specs.declared.lease_reply.LeaseReply.{LeaseReply}
use Rattle.lease_core.specs.declared.lease_reply.LeaseReply.TheVariants as reply
use Rattle.lease_core.specs.declared.body_fault.BodyFault.{BodyFault}
use Rattle.lease_core.specs.declared.body_fault.BodyFault.TheVariants as fault
use Rattle.lease_core.specs.Bodies.{ask_members, NoAsk, IsAskData, IsTermOp, IsShapeOnly, term_members, reply_members, FitsKind, NoReply}

pub members_len-view : (es : List (String Global × Value)) → members_len (members_view es) ≡ length es
members_len-view [] = refl
members_len-view (e ∷ es) = ap suc (members_len-view es)

abbrev pub count_ask : LeaseAsk → ℕ
count_ask (ask.Acquire node url host) = 4
count_ask (ask.Renew node term) = 3
count_ask (ask.Release node term) = 3
count_ask ask.Info = 1

len_ask : (ask : LeaseAsk) → members_len (ask_members ask) ≡ count_ask ask
len_ask (ask.Acquire node url host) = refl
len_ask (ask.Renew node term) = refl
len_ask (ask.Release node term) = refl
len_ask ask.Info = refl

-- the number of members of a request
pub ask_count : (ms : Members) (a : LeaseAsk) → ms ≡ ask_members a → members_len ms ≡ count_ask a
ask_count ms a e = ap members_len e ∙ len_ask a

-- a refusal for the shape of one operation is one for every request of so many members
pub no_info : (ms : Members) (f : BodyFault) → members_len ms ≡ 1 → IsShapeOnly (ms ≡ ask_members ask.Info → ⊥) f → IsShapeOnly (NoAsk ms) f
no_info ms fault.Syntax len h = h
no_info ms fault.NoMemory len h = tt
no_info ms fault.Shape len h = none
  where
    none : NoAsk ms
    none (ask.Acquire node url host) f e = absurd (omega (arith, ask_count ms (ask.Acquire node url host) e))
    none (ask.Renew node term) f e = absurd (omega (arith, ask_count ms (ask.Renew node term) e))
    none (ask.Release node term) f e = absurd (omega (arith, ask_count ms (ask.Release node term) e))
    none ask.Info f e = h e

pub no_term : (ms : Members) (f : BodyFault) → members_len ms ≡ 3
    → IsShapeOnly ((op : List ℕ) (node term : ℕ) → node < 2 ^ 64 → IsTermOp op → ms ≡ term_members op node term → ⊥) f → IsShapeOnly (NoAsk ms) f
no_term ms fault.Syntax len h = h
no_term ms fault.NoMemory len h = tt
no_term ms fault.Shape len h = none
  where
    none : NoAsk ms
    none (ask.Acquire node url host) f e = absurd (omega (arith, ask_count ms (ask.Acquire node url host) e))
    none (ask.Renew node term) f e = h (codes "renew") node term f (inl refl) e
    none (ask.Release node term) f e = h (codes "release") node term f (inr refl) e
    none ask.Info f e = absurd (omega (arith, ask_count ms ask.Info e))

pub no_acquire : (ms : Members) (f : BodyFault) → members_len ms ≡ 4
    → IsShapeOnly ((node : ℕ) (url host : List ℕ) → node < 2 ^ 64 → ms ≡ ask_members (ask.Acquire node url host) → ⊥) f → IsShapeOnly (NoAsk ms) f
no_acquire ms fault.Syntax len h = h
no_acquire ms fault.NoMemory len h = tt
no_acquire ms fault.Shape len h = none
  where
    none : NoAsk ms
    none (ask.Acquire node url host) f e = h node url host f e
    none (ask.Renew node term) f e = absurd (omega (arith, ask_count ms (ask.Renew node term) e))
    none (ask.Release node term) f e = absurd (omega (arith, ask_count ms (ask.Release node term) e))
    none ask.Info f e = absurd (omega (arith, ask_count ms ask.Info e))

-- the same of a result
pub if_err : {A : Type 0} {P Q : BodyFault → Type 0} (r : Result A BodyFault) → ((f : BodyFault) → P f → Q f) → IfErr r P → IfErr r Q
if_err (Ok a) step h = tt
if_err (Err f) step h = step f h

pub no_other : (ms : Members) → members_len ms ≢ 1 → members_len ms ≢ 3 → members_len ms ≢ 4 → NoAsk ms
no_other ms a b c (ask.Acquire node url host) f e = c (ask_count ms (ask.Acquire node url host) e)
no_other ms a b c (ask.Renew node term) f e = b (ask_count ms (ask.Renew node term) e)
no_other ms a b c (ask.Release node term) f e = b (ask_count ms (ask.Release node term) e)
no_other ms a b c ask.Info f e = a (ask_count ms ask.Info e)

pub no_ask_data : (ms : Members) → NoAsk ms → IsAskData (object ms) → ⊥
no_ask_data ms none (ask, fits, e) = none ask fits (cc)

-- ---- replies

abbrev pub count_reply : LeaseReply → ℕ
count_reply (reply.Grant host term ttl url) = 4
count_reply (reply.Renewed ttl) = 1
count_reply reply.Empty = 0
count_reply (reply.Refused kind until) = 2

len_reply : (r : LeaseReply) → members_len (reply_members r) ≡ count_reply r
len_reply (reply.Grant host term ttl url) = refl
len_reply (reply.Renewed ttl) = refl
len_reply reply.Empty = refl
len_reply (reply.Refused kind until) = refl

-- the number of members of a reply
pub reply_count : (ms : Members) (r : LeaseReply) → ms ≡ reply_members r → members_len ms ≡ count_reply r
reply_count ms r e = ap members_len e ∙ len_reply r

-- a refusal for the shape of one reply is one for every reply of so many members
pub no_renewed : (ms : Members) (f : BodyFault) → members_len ms ≡ 1 → IsShapeOnly ((ttl : ℕ) → ms ≡ reply_members (reply.Renewed ttl) → ⊥) f → IsShapeOnly (NoReply ms) f
no_renewed ms fault.Syntax len h = h
no_renewed ms fault.NoMemory len h = tt
no_renewed ms fault.Shape len h = none
  where
    none : NoReply ms
    none (reply.Grant host term ttl url) f e = absurd (omega (arith, reply_count ms (reply.Grant host term ttl url) e))
    none (reply.Renewed ttl) f e = h ttl e
    none reply.Empty f e = absurd (omega (arith, reply_count ms reply.Empty e))
    none (reply.Refused kind until) f e = absurd (omega (arith, reply_count ms (reply.Refused kind until) e))

pub no_refused : (ms : Members) (f : BodyFault) → members_len ms ≡ 2
    → IsShapeOnly ((kind : LeaseKind) (until : ℕ) → FitsKind kind until → ms ≡ reply_members (reply.Refused kind until) → ⊥) f → IsShapeOnly (NoReply ms) f
no_refused ms fault.Syntax len h = h
no_refused ms fault.NoMemory len h = tt
no_refused ms fault.Shape len h = none
  where
    none : NoReply ms
    none (reply.Grant host term ttl url) f e = absurd (omega (arith, reply_count ms (reply.Grant host term ttl url) e))
    none (reply.Renewed ttl) f e = absurd (omega (arith, reply_count ms (reply.Renewed ttl) e))
    none reply.Empty f e = absurd (omega (arith, reply_count ms reply.Empty e))
    none (reply.Refused kind until) f e = h kind until f e

pub no_grant : (ms : Members) (f : BodyFault) → members_len ms ≡ 4
    → IsShapeOnly ((host : List ℕ) (term ttl : ℕ) (url : List ℕ) → ms ≡ reply_members (reply.Grant host term ttl url) → ⊥) f → IsShapeOnly (NoReply ms) f
no_grant ms fault.Syntax len h = h
no_grant ms fault.NoMemory len h = tt
no_grant ms fault.Shape len h = none
  where
    none : NoReply ms
    none (reply.Grant host term ttl url) f e = h host term ttl url e
    none (reply.Renewed ttl) f e = absurd (omega (arith, reply_count ms (reply.Renewed ttl) e))
    none reply.Empty f e = absurd (omega (arith, reply_count ms reply.Empty e))
    none (reply.Refused kind until) f e = absurd (omega (arith, reply_count ms (reply.Refused kind until) e))

pub no_other_reply : (ms : Members) → members_len ms ≢ 0 → members_len ms ≢ 1 → members_len ms ≢ 2 → members_len ms ≢ 4 → NoReply ms
no_other_reply ms z a b c (reply.Grant host term ttl url) f e = c (reply_count ms (reply.Grant host term ttl url) e)
no_other_reply ms z a b c (reply.Renewed ttl) f e = a (reply_count ms (reply.Renewed ttl) e)
no_other_reply ms z a b c reply.Empty f e = z (reply_count ms reply.Empty e)
no_other_reply ms z a b c (reply.Refused kind until) f e = b (reply_count ms (reply.Refused kind until) e)

-- ---- no members

pub no_members-view : (es : List (String Global × Value)) → members_view es ≡ no_members → length es ≡ 0
no_members-view [] e = refl
no_members-view (x ∷ es) e = cc

pub view-no_members : (es : List (String Global × Value)) → length es ≡ 0 → members_view es ≡ no_members
view-no_members [] e = refl
view-no_members (x ∷ es) e = absurd (omega arith)
