-- A step that commits is of a node that may commit at the moment of its ask.
use Rattle.std.proofs.Common.{◌≡◌, ℕ, max, Bool, true, false, cond, eqb, List, [], ◌∷◌, Option, None, Some, inl, inr, refl, arith}
use Rattle.std.specs.List.{Contains}
use Rattle.std.proofs.lemmas.List.Elements.{Contains-append_left, Contains-append_right, Contains-push, Contains-push_cases}
use Rattle.ltx_codec.specs.declared.file.Ltx.{Ltx}
use Rattle.halt_forward.specs.declared.halt_pass.HaltPass.{HaltPass}
use Rattle.halt_forward.specs.Permits.{unless_ended}
use Rattle.lease_core.specs.Belief.{may_commit}
use Rattle.world_laws.specs.Answers.{call_of, completed_over}
use Rattle.world_laws.specs.Node as laws
use Rattle.world_laws.specs.Premises.{CommitsAsHolder}
use Rattle.world_laws.specs.Step.{Makes, accepts, commits, commits_and_prunes, drops, finishes, imports, nothing, prunes, takes, unlinks}
use Rattle.world_laws.specs.Store.{Apply, Commit, DropAll, Install, PruneTo, StoreCall, StoreState}
use Rattle.world_laws.specs.World.{World}
use Rattle.node_core.specs.declared.ask.Ask.{Ask}
use Rattle.node_core.specs.declared.ask.Ask.TheVariants as asks
use Rattle.node_core.specs.declared.standing.Standing.{Standing}
use Rattle.node_core.specs.Nodes.{NodeParts, at_moment, role_in}
use Rattle.node_core.specs.Roles.{in_force, law_role, role_by, role_of}
use Rattle.node_core.specs.Steps.{at_ask, moment_by}

-- a call that is no commit
no-commit : {T : Type 0} (only : StoreCall) (file : Ltx) → (only ≡ Commit file → ⊥) → Contains (only ∷ []) (Commit file) → T
no-commit only file other here = elim (Contains-push_cases [] only (Commit file) here) [
  | inl none_at ↦ absurd (omega (arith, none_at.1))
  | inr same ↦ absurd (other same)
]

taken-other : (store : StoreState) (taken file : Ltx) (first : Bool) → cond first (Install taken) (Apply (completed_over store taken)) ≡ Commit file → ⊥
taken-other store taken file true same = cc
taken-other store taken file false same = cc

pub commit-primary : {store : StoreState} {role : laws.Role} {waits : Option Ltx} {ask : laws.Ask} {calls : List StoreCall} → Makes store role waits ask calls → (file : Ltx) → Contains calls (Commit file) →
    role ≡ laws.Primary
commit-primary nothing file here = absurd (omega (arith, here.1))
commit-primary commits file here = refl
commit-primary commits_and_prunes file here = refl
commit-primary unlinks file here = refl
commit-primary imports file here = refl
commit-primary accepts file here = refl
commit-primary {store = s} (takes {file = f} other) file here = no-commit (call_of s f) file (taken-other s f file (eqb f.header.min 1)) here
commit-primary (drops other) file here = no-commit DropAll file (λ same. cc) here
commit-primary {store = s} (finishes {file = f}) file here = no-commit (Apply (completed_over s f)) file (λ same. cc) here
commit-primary (prunes {keep = k}) file here = no-commit (PruneTo k) file (λ same. cc) here

by-role : (may : Bool) (pass : Option HaltPass) → law_role (role_by may pass) ≡ laws.Primary → may ≡ true
by-role true pass is = refl
by-role false None is = cc
by-role false (Some pass) is = cc

-- of what a node is once a moment has ended what expired
by-standing : (s : Standing) → law_role (role_of (in_force s)) ≡ laws.Primary → may_commit s.belief s.moment ≡ true
by-standing s is = by-role (may_commit s.belief s.moment) (unless_ended s.moment (in_force s).pass) is

as-it-stands : (s : Standing) → law_role (role_of s) ≡ laws.Primary → may_commit s.belief s.moment ≡ true
as-it-stands s is = by-role (may_commit s.belief s.moment) (unless_ended s.moment s.pass) is

-- and where it was given this moment
at-later : (n : NodeParts) (now : ℕ) → law_role (role_in (at_moment n now)) ≡ laws.Primary → may_commit n.standing.belief (max n.standing.moment now) ≡ true
at-later n now is = by-standing (record n.standing { moment = max n.standing.moment now }) is

pub primary-may : (n : NodeParts) (ask : Ask) → law_role (role_in (at_ask n ask)) ≡ laws.Primary → may_commit n.standing.belief (moment_by ask n.standing.moment) ≡ true
primary-may n (asks.File now request) is = at-later n now is
primary-may n asks.EndSession is = as-it-stands n.standing is
primary-may n asks.Where is = as-it-stands n.standing is
primary-may n (asks.Hello now from last) is = at-later n now is
primary-may n (asks.Frame now bytes) is = at-later n now is
primary-may n (asks.Drop now) is = at-later n now is
primary-may n asks.Export is = as-it-stands n.standing is
primary-may n (asks.Import now bytes) is = at-later n now is
primary-may n (asks.Prune keep) is = as-it-stands n.standing is
primary-may n (asks.Info now) is = at-later n now is
primary-may n (asks.Watch now from) is = at-later n now is
primary-may n (asks.Lease now news) is = at-later n now is
primary-may n (asks.HaltAsk now node) is = at-later n now is
primary-may n (asks.HaltBack now number) is = at-later n now is
primary-may n (asks.Forward now number bytes) is = at-later n now is
primary-may n (asks.HaltGot now pass) is = at-later n now is
primary-may n (asks.HaltLost number) is = as-it-stands n.standing is
primary-may n (asks.Forwarded ok) is = as-it-stands n.standing is

-- where each commit among the calls is the holder's
pub as-holder-of : (w : World) (k : ℕ) (calls : List StoreCall) → ((file : Ltx) → Contains calls (Commit file) → w.holder ≡ Some k) → CommitsAsHolder w k calls
as-holder-of w k [] each = tt
as-holder-of w k (Commit file ∷ calls) each =
    (each file (Contains-append_left (Commit file ∷ []) calls (Commit file) (Contains-push [] (Commit file))), as-holder-of w k calls (λ f here. each f (Contains-append_right (Commit file ∷ []) calls (Commit f) here)))
as-holder-of w k (Apply file ∷ calls) each = as-holder-of w k calls (λ f here. each f (Contains-append_right (Apply file ∷ []) calls (Commit f) here))
as-holder-of w k (Install file ∷ calls) each = as-holder-of w k calls (λ f here. each f (Contains-append_right (Install file ∷ []) calls (Commit f) here))
as-holder-of w k (PruneTo keep ∷ calls) each = as-holder-of w k calls (λ f here. each f (Contains-append_right (PruneTo keep ∷ []) calls (Commit f) here))
as-holder-of w k (DropAll ∷ calls) each = as-holder-of w k calls (λ f here. each f (Contains-append_right (DropAll ∷ []) calls (Commit f) here))
