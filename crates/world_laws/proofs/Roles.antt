-- A step that commits is a primary's.
use Rattle.std.proofs.Common.{◌≡◌, Bool, true, false, cond, eqb, List, [], ◌∷◌, Option, inl, inr, refl, sym, ◌∙◌, arith}
use Rattle.std.specs.List.{Contains}
use Rattle.std.proofs.lemmas.List.Elements.{Contains-push_cases}
use Rattle.ltx_codec.specs.declared.file.Ltx.{Ltx}
use Rattle.world_laws.specs.Answers.{call_of, completed_over}
use Rattle.world_laws.specs.Node.{Ask, Primary, Replica, Role}
use Rattle.world_laws.specs.RoleLaw.{OnlyPrimariesCommit}
use Rattle.world_laws.specs.Step.{IsRoleAt, KeepsRole, Makes, accepts, commits, commits_and_prunes, drops, finishes, imports, nothing, prunes, takes, unlinks}
use Rattle.world_laws.specs.Store.{Apply, Commit, DropAll, Install, PruneTo, StoreCall, StoreState}

primary_replica : Primary ≡ Replica → ⊥
primary_replica same = cc

-- a call that is no commit
no-commit : {T : Type 0} (only : StoreCall) (file : Ltx) → (only ≡ Commit file → ⊥) → Contains (only ∷ []) (Commit file) → T
no-commit only file other here = elim (Contains-push_cases [] only (Commit file) here) [
  | inl none_at ↦ absurd (omega (arith, none_at.1))
  | inr same ↦ absurd (other same)
]

taken-other : (store : StoreState) (taken file : Ltx) (first : Bool) → cond first (Install taken) (Apply (completed_over store taken)) ≡ Commit file → ⊥
taken-other store taken file true same = cc
taken-other store taken file false same = cc

-- the role of a step that commits, which its node keeps
record LeadsOn (ask : Ask) (role : Role) : Type 0 where
  pub primary : role ≡ Primary
  pub keeps : (later : Role) → KeepsRole ask role later → role ≡ later

commit-leads : {store : StoreState} {role : Role} {waits : Option Ltx} {ask : Ask} {calls : List StoreCall} → Makes store role waits ask calls → (file : Ltx) → Contains calls (Commit file) →
    LeadsOn ask role
commit-leads nothing file here = absurd (omega (arith, here.1))
commit-leads commits file here = record { primary = refl; keeps = λ later keeps. keeps }
commit-leads commits_and_prunes file here = record { primary = refl; keeps = λ later keeps. keeps }
commit-leads unlinks file here = record { primary = refl; keeps = λ later keeps. keeps }
commit-leads imports file here = record { primary = refl; keeps = λ later keeps. keeps }
commit-leads accepts file here = record { primary = refl; keeps = λ later keeps. keeps }
commit-leads {store = s} (takes {file = f} other) file here = no-commit (call_of s f) file (taken-other s f file (eqb f.header.min 1)) here
commit-leads (drops other) file here = no-commit DropAll file (λ same. cc) here
commit-leads {store = s} (finishes {file = f}) file here = no-commit (Apply (completed_over s f)) file (λ same. cc) here
commit-leads (prunes {keep = k}) file here = no-commit (PruneTo k) file (λ same. cc) here

was-primary : (before role : Role) → IsRoleAt before role → role ≡ Primary → before ≡ Primary
was-primary before role (inl same) primary = sym same ∙ primary
was-primary before role (inr replica) primary = absurd (primary_replica (sym primary ∙ replica))

pub only_primaries_commit-of : OnlyPrimariesCommit
only_primaries_commit-of old new ask answer file facts here =
    let leads : LeadsOn ask facts.role = commit-leads facts.makes file here in
    (was-primary old.role facts.role facts.role_was leads.primary, sym (leads.keeps new.role facts.role_is) ∙ leads.primary)
