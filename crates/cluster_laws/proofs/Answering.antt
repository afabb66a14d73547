-- Each answer of the lease service is a move of a cluster.
use Rattle.std.proofs.Common.{◌≡◌, ℕ, ◌+◌, ◌-◌, Bool, true, false, eqb, Option, Some, refl, sym, ap, ◌∙◌, arith}
use Rattle.lease_core.specs.declared.lease_ask.LeaseAsk.{LeaseAsk}
use Rattle.lease_core.specs.declared.lease_ask.LeaseAsk.TheVariants as ask
use Rattle.lease_core.specs.declared.lease_fault.LeaseFault.{LeaseFault}
use Rattle.lease_core.specs.declared.lease_fault.LeaseFault.TheVariants as fault
use Rattle.lease_core.specs.declared.lease_reply.LeaseKind.{LeaseKind}
use Rattle.lease_core.specs.declared.lease_reply.LeaseKind.TheVariants as kind
use Rattle.lease_core.specs.declared.lease_reply.LeaseReply.{LeaseReply}
use Rattle.lease_core.specs.declared.lease_reply.LeaseReply.TheVariants as reply
use Rattle.lease_core.specs.LeaseRun.{Changes, Clocks, Happens, acquires, releases, renews, tells}
use Rattle.lease_core.specs.declared.grant.Grant.{Grant}
use Rattle.lease_core.specs.Leases.{Leases, at_moment, granted_to, with_grant}
use Rattle.lease_link.specs.declared.learned.Learned.TheVariants as learned
use Rattle.lease_link.specs.Learning.{granted}
use Rattle.lease_link.specs.Table.{AnswersAsk, IsToldFault, answers, refuses}
use Rattle.cluster_laws.specs.Answering.{AnswersAreMoves, AsksFor, IsDue, MomentsAreMoves, TellsReply}
use Rattle.cluster_laws.specs.Cluster.{Program}
use Rattle.cluster_laws.specs.Leased.{Leased, Leasing, Serves, tenancy, tenant, tenant_if}
use Rattle.cluster_laws.specs.LeasedLaws.{ServiceIsServed}
use Rattle.cluster_laws.proofs.ClusterMoves.{place, place-here, place-other}

-- a fault is told as a refusal
told-refused : (why : LeaseFault) (told : LeaseReply) → IsToldFault why told → (which : LeaseKind) × (until : ℕ) × (told ≡ reply.Refused which until)
told-refused (fault.Held by until) told is = (kind.Held, until, is)
told-refused fault.Unknown told is = (kind.Unknown, 0, is)
told-refused (fault.Late until) told is = (kind.Late, until, is)
told-refused fault.Limit told is = (kind.Limit, 0, is)
told-refused fault.NoMemory told is = absurd is

-- which tells of no grant
none-refused : (asked : LeaseAsk) (which : LeaseKind) (until n term ttl : ℕ) → AsksFor asked n → granted asked (reply.Refused which until) ≡ learned.Granted term ttl → ⊥
none-refused (ask.Acquire node url host) which until n term ttl here same = cc
none-refused (ask.Renew node old) which until n term ttl here same = cc
none-refused (ask.Release node old) which until n term ttl here same = here
none-refused ask.Info which until n term ttl here same = here

refusal-tells : (asked : LeaseAsk) (why : LeaseFault) (told : LeaseReply) (replies : ℕ → Option ℕ) → IsToldFault why told → TellsReply asked told replies
refusal-tells asked why told replies is n now term ttl here same =
    let r = told-refused why told is in
    absurd (none-refused asked r.0 r.1 n term ttl here (ap (λ (s : LeaseReply). granted asked s) (sym r.2) ∙ same))

-- grants of one length
granted-alike : (one other term ttl : ℕ) → learned.Granted one other ≡ learned.Granted term ttl → other ≡ ttl
granted-alike one other term ttl same = cc

-- the reply that is placed at a number is the one that was told it
reply-placed : (replies : ℕ → Option ℕ) (node n moment length term one ttl : ℕ) → node ≡ n → learned.Granted one ((moment + length) - moment) ≡ learned.Granted term ttl →
    place node (Some length) replies n ≡ Some ttl
reply-placed replies node n moment length term one ttl here same =
    let whole : length ≡ (moment + length) - moment = omega arith in
    ap (λ (j : ℕ). place node (Some length) replies j) (sym here) ∙ place-here node (Some length) replies
    ∙ ap (λ (t : ℕ). Some t) (whole ∙ granted-alike one ((moment + length) - moment) term ttl same)

module _ {M : Type 0} {p : Program M} (h : Leasing p) (owner : ℕ → ℕ) (clocks : Clocks) (served : ServiceIsServed h) (l : Leased p owner) where
  abbrev with : Leases → (ℕ → Option ℕ) → Leased p owner
  with service replies = record l { service = service; replies = replies }

  -- a lease to which another reply is to come
  replied-if : (b : Bool) (node : M) (old new : Option ℕ) → tenant_if h owner clocks b node new ≡ record (tenant_if h owner clocks b node old) { granted = new }
  replied-if false node old new = refl
  replied-if true node old new = refl

  -- the leases once a number is told a reply, with this table
  replied : (n : ℕ) (told : Option ℕ) (next service : Leases) → next ≡ service →
      Changes (tenancy h owner clocks l) (tenancy h owner clocks (with next (place n told l.replies))) n (record (tenant h owner clocks l n) { granted = told }) service
  replied n told next service is = record {
    node = ap (λ (r : Option ℕ). tenant_if h owner clocks (eqb (l.numbers (owner n)) n) (l.cluster.nodes (owner n)) r) (place-here n told l.replies)
        ∙ replied-if (eqb (l.numbers (owner n)) n) (l.cluster.nodes (owner n)) (l.replies n) told;
    others = λ j other. ap (λ (r : Option ℕ). tenant_if h owner clocks (eqb (l.numbers (owner j)) j) (l.cluster.nodes (owner j)) r) (place-other n told l.replies j other);
    table = is;
  }

  -- a move to this table
  abbrev IsServed : Leases → LeaseAsk → LeaseReply → Type 0
  IsServed next asked told = (m : Leased p owner) × (m.service ≡ next) × TellsReply asked told m.replies × Serves h owner clocks l m

  comes-to : (next : Leases) (replies : ℕ → Option ℕ) (asked : LeaseAsk) (told : LeaseReply) → TellsReply asked told replies →
      Happens clocks (tenancy h owner clocks l) (tenancy h owner clocks (with next replies)) → IsServed next asked told
  comes-to next replies asked told telling happens =
      let r = served owner clocks l next replies happens in
      (r.0, r.1, λ n now term ttl here same. r.2 n ∙ telling n now term ttl here same, r.3)

  answer-moves : (now : ℕ) (next : Leases) (asked : LeaseAsk) (told : LeaseReply) → IsDue h clocks l now asked → AnswersAsk (at_moment now l.service) next asked told → IsServed next asked told
  answer-moves now next asked told due (refuses why refusal is same) =
      comes-to next l.replies asked told (refusal-tells asked why told l.replies is) (tells now (λ k. refl) same)
  answer-moves now next (ask.Acquire node url host) told due (answers free does) =
      let grant : Grant = granted_to (at_moment now l.service) node url host in
      comes-to next (place node (Some l.service.ttl) l.replies) (ask.Acquire node url host) told
      (λ n at term ttl here same.
      reply-placed l.replies node n (at_moment now l.service).moment l.service.ttl term grant.term ttl here (ap (λ (s : LeaseReply). granted (ask.Acquire node url host) s) (sym does.0) ∙ same))
      (acquires node now url host free due (replied node (Some l.service.ttl) next (with_grant grant (at_moment now l.service)) does.1))
  answer-moves now next (ask.Renew node old) told due (answers free does) =
      comes-to next (place node (Some l.service.ttl) l.replies) (ask.Renew node old) told
      (λ n at term ttl here same.
      reply-placed l.replies node n (at_moment now l.service).moment l.service.ttl term old ttl here (ap (λ (s : LeaseReply). granted (ask.Renew node old) s) (sym does.0) ∙ same))
      (renews node now old next free due does.1 (replied node (Some l.service.ttl) next next refl))
  answer-moves now next (ask.Release node old) told due (answers free does) =
      comes-to next l.replies (ask.Release node old) told (λ n at term ttl here same. absurd here)
      (releases node now old next free due does.1 record { node = refl; others = λ j other. refl; table = refl })
  answer-moves now next ask.Info told due (answers free does) =
      comes-to next l.replies ask.Info told (λ n at term ttl here same. absurd here) (tells now (λ k. refl) does.1)

  moment-moves : (now : ℕ) → (m : Leased p owner) × (m.service ≡ at_moment now l.service) × Serves h owner clocks l m
  moment-moves now =
      let r = served owner clocks l (at_moment now l.service) l.replies (tells now (λ k. refl) refl) in
      (r.0, r.1, r.3)

module _ {M : Type 0} {p : Program M} (h : Leasing p) where
  pub answers-are-moves : ServiceIsServed h → AnswersAreMoves h
  answers-are-moves served owner clocks l now next asked told due answered = answer-moves h owner clocks served l now next asked told due answered

  pub moments-are-moves : ServiceIsServed h → MomentsAreMoves h
  moments-are-moves served owner clocks l now = moment-moves h owner clocks served l now
