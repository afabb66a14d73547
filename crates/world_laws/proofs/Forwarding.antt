-- Forwarded commits.
use Rattle.std.proofs.Common.{◌≡◌, ◌≢◌, ◌⊎◌, ℕ, Bool, true, List, [], ◌∷◌, ◌++◌, length, Option, None, inl, inr, refl, sym, ap, subst, ◌∙◌, arith}
use Rattle.std.specs.List.{Contains}
use Rattle.std.proofs.lemmas.List.Elements.{Contains-append_cases, Contains-push_cases}
use Rattle.lf_base.specs.declared.pos.Pos.{Pos}
use Rattle.ltx_codec.specs.declared.file.Ltx.{Ltx}
use Rattle.ltx_codec.specs.Positions.{after, before}
use Rattle.lf_sqlite_pages.specs.Complete.{completed}
use Rattle.world_laws.specs.Answers.{AnswersForwarded, LeavesUndone, completed_over}
use Rattle.world_laws.specs.Events.{Event, Grants, Happens, IsStart, Loses, Opens, Renews, Runs, Steps, Turns, ends, goes}
use Rattle.world_laws.specs.ForwardLaw.{ForwardedStands, LeavesFiles, RefusalLeaves, SendLeaves, WasAccepted}
use Rattle.world_laws.specs.Lineage.{Lineage, gone_on, position_of}
use Rattle.world_laws.specs.Node.{Answer, Applied, Ask, Done, Forward, Forwarded, NodeState, Refused, Role}
use Rattle.world_laws.specs.Premises.{OneImagePerPosition}
use Rattle.world_laws.specs.Safe.{IsAllowed, IsSafe}
use Rattle.world_laws.specs.Store.{CanDoAll, Commit, Failure, StoreCall, StoreState, all_done, at, begun_by}
use Rattle.world_laws.specs.World.{Grown, GrowsAlong, World, accepted_by}
use Rattle.world_laws.proofs.Calls.{CanDoAll-split, Grown-new, GrowsAlong-extends, commit-leads, grown-image}
use Rattle.world_laws.proofs.Lineages.{One-fewer}
use Rattle.world_laws.proofs.Stores.{end_of-push}
use Rattle.world_laws.proofs.Whole.{event-extends, event-safe, images-are, one-before, run-safe, runs-extends, start-safe}

-- what a step that accepts a file makes of the tree
record AcceptedHere (tree grown : List Lineage) (file : Ltx) : Type 0 where
  pub lineage : Lineage
  pub stood : Contains tree lineage
  pub stands : Contains grown (gone_on lineage file)
  pub position_is : position_of (gone_on lineage file) ≡ after file

accepted_here : (tree grown : List Lineage) (store : StoreState) (file : Ltx) (did : List StoreCall) → OneImagePerPosition grown → IsAllowed tree store → CanDoAll store did →
    GrowsAlong tree store did grown → did ≡ Commit (completed_over store file) ∷ [] → AcceptedHere tree grown file
accepted_here tree grown store file did one allowed can grows is =
    let whole : Ltx = completed_over store file in
    let can_one : CanDoAll store (Commit whole ∷ []) = subst (λ (ds : List StoreCall). CanDoAll store ds) is can in
    let grows_one : GrowsAlong tree store (Commit whole ∷ []) grown = subst (λ (ds : List StoreCall). GrowsAlong tree store ds grown) is grows in
    let one_tree : OneImagePerPosition tree = One-fewer tree grown (GrowsAlong-extends tree store (Commit whole ∷ []) grown grows_one) one in
    let more : Grown tree store whole grows_one.0 = grows_one.1 in
    let same : more.lineage ++ whole.change ∷ [] ≡ gone_on more.lineage file =
    ap (λ (pages : List (List ℕ)). more.lineage ++ completed file.change (length pages) ∷ []) (sym (grown-image tree grows_one.0 store whole one_tree allowed more)) in
    record {
      lineage = more.lineage;
      stood = more.stands;
      stands = subst (λ (t : List Lineage). Contains t (gone_on more.lineage file)) (sym grows_one.2) (subst (λ (l : Lineage). Contains grows_one.0 l) same (Grown-new tree store whole grows_one.0 more));
      position_is = subst (λ (l : Lineage). position_of l ≡ after file) same (commit-leads tree store whole one_tree allowed can_one.0 more.lineage more.stands more.position_is);
    }

-- the step that accepted a file, in the run up to it
accepting : (w v : World) (k : ℕ) (file : Ltx) (position : Pos) → OneImagePerPosition v.tree → IsSafe w → (turn : Turns w k (Forward file) (Applied position) v) → WasAccepted w v file
accepting w v k file position one safe turn =
    let facts = turn.facts in
    let old : NodeState = w.nodes k in
    let can = CanDoAll-split old.store facts.did (begun_by facts.failed) facts.can in
    let of = accepted_here w.tree v.tree old.store file facts.did one (safe.nodes k).allowed can.0 turn.along.tree facts.answers.0 in
    record {
      early = [];
      late = [];
      old = w;
      new = v;
      primary = k;
      position = position;
      before_it = ends;
      accepts = turn;
      since = ends;
      lineage = of.lineage;
      stood = of.stood;
      stands = of.stands;
      position_is = of.position_is;
      here = ap (λ (s : StoreState). at s) (facts.store ∙ ap (λ (ds : List StoreCall). all_done old.store ds) facts.answers.0) ∙ end_of-push old.store.log (completed_over old.store file);
    }

-- an event before, or one after
earlier : (w v u : World) (event : Event) (file : Ltx) → Happens w event v → WasAccepted v u file → WasAccepted w u file
earlier w v u event file happens was = record {
  early = event ∷ was.early;
  late = was.late;
  old = was.old;
  new = was.new;
  primary = was.primary;
  position = was.position;
  before_it = goes {v = v} happens was.before_it;
  accepts = was.accepts;
  since = was.since;
  lineage = was.lineage;
  stood = was.stood;
  stands = was.stands;
  position_is = was.position_is;
  here = was.here;
}

runs-on : {w v u : World} {front back : List Event} → Runs w front v → Runs v back u → Runs w (front ++ back) u
runs-on ends rest = rest
runs-on (goes {v = x} happens more) rest = goes {v = x} happens (runs-on more rest)

later : (w v u : World) (events : List Event) (file : Ltx) → Runs v events u → WasAccepted w v file → WasAccepted w u file
later w v u events file runs was = record {
  early = was.early;
  late = was.late ++ events;
  old = was.old;
  new = was.new;
  primary = was.primary;
  position = was.position;
  before_it = was.before_it;
  accepts = was.accepts;
  since = runs-on was.since runs;
  lineage = was.lineage;
  stood = was.stood;
  stands = was.stands;
  position_is = was.position_is;
  here = was.here;
}

-- a file that a step accepts
step-accepts : (w v : World) (k : ℕ) (ask : Ask) (answer : Answer) (file : Ltx) → OneImagePerPosition v.tree → IsSafe w → Turns w k ask answer v → Contains (accepted_by ask answer) file →
    WasAccepted w v file
step-accepts w v k (Forward other) (Applied position) file one safe turn here = elim (Contains-push_cases [] other file here) [
  | inl none_at ↦ absurd (omega (arith, none_at.1))
  | inr same ↦ subst (λ (f : Ltx). WasAccepted w v f) same (accepting w v k other position one safe turn)
]
step-accepts w v k ask answer file one safe turn here = absurd (omega (arith, here.1))

-- a file that was accepted after an event was so before it, or is accepted by it
event-accepts : (w v : World) (event : Event) (file : Ltx) → OneImagePerPosition v.tree → IsSafe w → Happens w event v → Contains v.accepted file →
    Contains w.accepted file ⊎ WasAccepted w v file
event-accepts w v (Steps k ask answer) file one safe happens here =
    elim (Contains-append_cases w.accepted (accepted_by ask answer) file (subst (λ (a : List Ltx). Contains a file) happens.along.accepted here)) [
      | inl before ↦ inl before
      | inr now ↦ inr (step-accepts w v k ask answer file one safe happens now)
    ]
event-accepts w v (Opens k found) file one safe happens here = inl (subst (λ (a : List Ltx). Contains a file) happens.along.frames.1 here)
event-accepts w v (Grants k) file one safe happens here = inl (subst (λ (a : List Ltx). Contains a file) happens.frames.1 here)
event-accepts w v Renews file one safe happens here = inl (subst (λ (a : List Ltx). Contains a file) happens.frames.1 here)
event-accepts w v Loses file one safe happens here = inl (subst (λ (a : List Ltx). Contains a file) happens.frames.1 here)

runs-accept : {w v : World} {events : List Event} → Runs w events v → (file : Ltx) → OneImagePerPosition v.tree → IsSafe w → Contains v.accepted file →
    Contains w.accepted file ⊎ WasAccepted w v file
runs-accept ends file one safe here = inl here
runs-accept (goes {w = w} {v = x} {u = v} {event = e} {events = es} happens rest) file one safe here =
    let one_x : OneImagePerPosition x.tree = One-fewer x.tree v.tree (runs-extends rest) one in
    elim (runs-accept rest file one (event-safe w x e one_x safe happens) here) [
      | inl before ↦ elim (event-accepts w x e file one_x safe happens before) [
        | inl first ↦ inl first
        | inr was ↦ inr (later w x v es file rest was)
      ]
      | inr was ↦ inr (earlier w x v e file happens was)
    ]

-- what was accepted in a run from the start
was_accepted : (w v : World) (events : List Event) (file : Ltx) → IsStart w → Runs w events v → OneImagePerPosition v.tree → Contains v.accepted file → WasAccepted w v file
was_accepted w v events file start runs one here = elim (runs-accept runs file one (start-safe w start) here) [
  | inl first ↦ let none_at = subst (λ (a : List Ltx). Contains a file) start.frames.1 first in absurd (omega (arith, none_at.1))
  | inr was ↦ was
]

pub forwarded-of : ForwardedStands
forwarded-of w v u events k start runs happens one =
    let before_one : OneImagePerPosition v.tree = one-before v u (Steps k (Forwarded true) Done) happens one in
    let safe : IsSafe v = run-safe start runs before_one in
    let after_safe : IsSafe u = event-safe v u (Steps k (Forwarded true) Done) one safe happens in
    let told = happens.facts.answers in
    let file : Ltx = told.0 in
    let was : WasAccepted w v file = was_accepted w v events file start runs before_one (happens.along.comes file told.1) in
    let stands : Contains u.tree (gone_on was.lineage file) =
    event-extends v u (Steps k (Forwarded true) Done) happens (gone_on was.lineage file) (runs-extends was.since (gone_on was.lineage file) was.stands)
    in (
      file,
      told.1,
      (
        was,
        record {
          stands = stands;
          here = told.2;
          image = images-are u one after_safe k (gone_on was.lineage file) stands (was.position_is ∙ sym told.2);
        },
      ),
    )

store-kept : (old new : NodeState) (did : List StoreCall) → new.store ≡ all_done old.store did → did ≡ [] → at new.store ≡ at old.store
store-kept old new did store none = ap (λ (s : StoreState). at s) (store ∙ ap (λ (ds : List StoreCall). all_done old.store ds) none)

pub send_leaves-of : SendLeaves
send_leaves-of old new file facts = record {
  position = store-kept old new facts.did facts.store facts.answers.undone.0;
  served = facts.answers.served;
}

refusal-leaves : (old new : NodeState) (role : Role) (ok : Bool) (did : List StoreCall) (failed : Option Failure) (answer : Answer) → answer ≢ Done → new.store ≡ all_done old.store did →
    LeavesUndone answer did → AnswersForwarded old role ok failed answer new → (at new.store ≡ at old.store) × (failed ≡ None → role ≡ old.role → LeavesFiles old new)
refusal-leaves old new role true did failed Done other store undone answers = absurd (other refl)
refusal-leaves old new role ok did failed (Refused why) other store undone answers =
    let position : at new.store ≡ at old.store = store-kept old new did store undone in
    (position, λ well same. record { position = position; served = answers well same })
refusal-leaves old new role ok did failed answer other store undone answers = absurd answers

pub refusal_leaves-of : RefusalLeaves
refusal_leaves-of old new ok answer facts other =
    let told = refusal-leaves old new facts.role ok facts.did facts.failed answer other facts.store facts.refused facts.answers in
    (told.0, λ well same. told.1 well (facts.role_is ∙ same))
