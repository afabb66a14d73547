-- Whatever happens next to a cluster is a move of it, so it holds on.
use Rattle.std.proofs.Common.{◌≡◌, ℕ, zero, suc, Bool, true, false, eqb, [], ◌∷◌, Option, inl, inr, refl, sym, ap, subst, ◌∙◌, arith}
use Rattle.std.proofs.Math.Logic.{∥∥₁_map}
use Rattle.std.proofs.lemmas.List.Elements.{Contains-push_cases}
use Rattle.std.specs.List.{Contains}
use Rattle.lease_core.specs.LeaseRun.{Clocks, IsIdle}
use Rattle.world_laws.specs.Lineage.{Lineage, image_of}
use Rattle.world_laws.specs.Premises.{OneImagePerPosition}
use Rattle.world_laws.specs.Safe.{IsSafe}
use Rattle.world_laws.specs.SafetyLaw.{IsKept, IsKeptLed}
use Rattle.node_core.specs.declared.standing.Standing.{Standing}
use Rattle.cluster_laws.specs.Cluster.{Cluster, Move, Moves, Program, world}
use Rattle.cluster_laws.specs.Cluster as cluster
use Rattle.cluster_laws.specs.ClusterLaws.{ClusterIsKept, RestartsAreMoves, StepsAreMoves, StopsAreMoves}
use Rattle.cluster_laws.specs.Leased.{IsLeasedStart, Leased, LeasedMove, LeasedMoves, Leasing, tenant_if, IsUnheard}
use Rattle.cluster_laws.specs.Leased as leased
use Rattle.cluster_laws.specs.LeasedLaws.{LeasedBegunIsStart, LeasedIsKept, RestartsAreLeasedMoves, ServiceIsServed, StepsAreLeasedMoves, StopsAreLeasedMoves}
use Rattle.cluster_laws.specs.LeasedRunning.{LeasedRunningHolds}
use Rattle.cluster_laws.specs.LeasedRunning as lease
use Rattle.cluster_laws.specs.Running.{HoldsOn, LeadsTo, Occurs, RunningHolds, restarts, steps, stops}
use Rattle.cluster_laws.proofs.ClusterMoves.{begun-is-start}

-- where all that happens leads on, it holds on
holds-on : {S : Type 0} (Holds IsSound : S → Type 0) (Next : S → Type 0) (Comes : (s : S) → Next s → S → Type 0) (Reached : S → Type 0) →
    ((s : S) → Reached s → IsSound s → Holds s) →
    ((s : S) → Reached s → IsSound s → (next : Next s) → ∥ ((t : S) × Comes s next t × Reached t) ∥₁) →
    (number : ℕ) (s : S) → Reached s → IsSound s → HoldsOn Holds IsSound Next Comes number s
holds-on Holds IsSound Next Comes Reached keeps goes zero s reached sound = keeps s reached sound
holds-on Holds IsSound Next Comes Reached keeps goes (suc number) s reached sound = (
  keeps s reached sound,
  λ next. ∥∥₁_map (goes s reached sound next) (λ r. (r.0, r.1, λ sound_then. holds-on Holds IsSound Next Comes Reached keeps goes number r.0 r.2 sound_then)),
)

-- the tree of nothing has one image at a position
only-nothing : (lineage : Lineage) → Contains ([] ∷ []) lineage → lineage ≡ []
only-nothing lineage here = elim (Contains-push_cases [] [] lineage here) [
  | inl never ↦ absurd (omega (arith, never.1))
  | inr same ↦ sym same
]

one-of-nothing : OneImagePerPosition ([] ∷ [])
one-of-nothing one other here there same =
    ap (λ (l : Lineage). (image_of l).pages) (only-nothing one here) ∙ sym (ap (λ (l : Lineage). (image_of l).pages) (only-nothing other there))

module _ {M : Type 0} (p : Program M) where
  then-move : {c d e : Cluster p} → Moves p c d → Move p d e → Moves p c e
  then-move cluster.none move = cluster.more move cluster.none
  then-move (cluster.more first moves) move = cluster.more first (then-move moves move)

  -- what happens next is a move
  occurs : StepsAreMoves p → StopsAreMoves p → RestartsAreMoves p → (c : Cluster p) → IsSafe (world p c) → (next : Occurs p c) → ∥ ((d : Cluster p) × LeadsTo p c next d × Move p c d) ∥₁
  occurs step stop restart c safe (steps k caller ask answer new taken law is sent) =
      let r = step c k caller ask answer new safe taken law is sent in
      ∣ (r.0, (r.1, r.2), cluster.takes_step r.2) ∣₁
  occurs step stop restart c safe (stops k caller ask answer done taken one folder left new starts) =
      ∥∥₁_map (stop c done k caller ask answer safe one taken folder left new starts) (λ r. (r.0, (r.1, r.2), cluster.stops r.2))
  occurs step stop restart c safe (restarts k folder left new starts) =
      ∥∥₁_map (restart c k safe folder left new starts) (λ r. (r.0, (r.1, r.2), cluster.restarts r.2))

  pub running-holds : StepsAreMoves p → StopsAreMoves p → RestartsAreMoves p → ClusterIsKept p → RunningHolds p
  running-holds step stop restart kept c begun number =
      let start = begun-is-start p c begun in
      holds-on (λ (d : Cluster p). IsKept (world p d)) (λ (d : Cluster p). OneImagePerPosition d.tree) (Occurs p) (LeadsTo p) (λ (d : Cluster p). Moves p c d)
      (λ d moves one. kept c d start moves one)
      (λ d moves one next. ∥∥₁_map (occurs step stop restart d (kept c d start moves one).safe next) (λ r. (r.0, r.1, then-move moves r.2)))
      number c cluster.none (subst OneImagePerPosition (sym begun.tree) one-of-nothing)

module _ {M : Type 0} {p : Program M} (h : Leasing p) where
  -- a lease before any news is idle, whatever is granted to its number
  idle-if : (owner : ℕ → ℕ) (clocks : Clocks) (b : Bool) (node : M) (reply : Option ℕ) → IsUnheard (h.parts node).standing → IsIdle (tenant_if h owner clocks b node reply)
  idle-if owner clocks false node reply stands = record { end = 0; end_is = refl; over = omega arith; waits = inr refl }
  idle-if owner clocks true node reply stands =
      subst (λ (s : Standing). IsIdle record { belief = s.belief; moment = s.moment; granted = reply }) (sym stands.1)
      record { end = 0; end_is = refl; over = omega arith; waits = inr refl }

  pub leased-begun-is-start : LeasedBegunIsStart h
  leased-begun-is-start owner clocks l begun = record {
    cluster = begun-is-start p l.cluster begun.cluster;
    tenancy = record {
      service = begun.service;
      nodes = λ n. idle-if owner clocks (eqb (l.numbers (owner n)) n) (l.cluster.nodes (owner n)) (l.replies n) (begun.nodes (owner n));
    };
  }

  module _ (owner : ℕ → ℕ) (clocks : Clocks) where
    abbrev Goes : Leased p owner → Leased p owner → Type 0
    Goes l m = LeasedMoves h owner clocks l m

    then-leased : {l m o : Leased p owner} → Goes l m → LeasedMove h owner clocks m o → Goes l o
    then-leased leased.none move = leased.more move leased.none
    then-leased (leased.more first moves) move = leased.more first (then-leased moves move)

    -- what happens next is such a move
    leased-occurs : StepsAreLeasedMoves h → StopsAreLeasedMoves h → RestartsAreLeasedMoves h → ServiceIsServed h → (l : Leased p owner) → IsSafe (world p l.cluster) →
        (next : lease.Occurs h owner clocks l) → ∥ ((m : Leased p owner) × lease.LeadsTo h owner clocks l next m × LeasedMove h owner clocks l m) ∥₁
    leased-occurs step stop restart serve l safe (lease.steps k caller ask answer new taken fair) =
        let r = step owner clocks l k caller ask answer new safe taken fair in
        ∣ (r.0, (r.1, r.2), leased.takes_step r.2) ∣₁
    leased-occurs step stop restart serve l safe (lease.stops k caller ask answer done taken one folder left new number starts) =
        ∥∥₁_map (stop owner clocks l done k caller ask answer safe one taken folder left new number starts) (λ r. (r.0, (r.1, r.2, r.3), leased.stops r.3))
    leased-occurs step stop restart serve l safe (lease.restarts k folder left new number starts) =
        ∥∥₁_map (restart owner clocks l k safe folder left new number starts) (λ r. (r.0, (r.1, r.2, r.3), leased.restarts r.3))
    leased-occurs step stop restart serve l safe (lease.serves service replies happens) =
        let r = serve owner clocks l service replies happens in
        ∣ (r.0, (r.1, r.2, r.3), leased.serves r.3) ∣₁

  pub leased-running-holds : StepsAreLeasedMoves h → StopsAreLeasedMoves h → RestartsAreLeasedMoves h → ServiceIsServed h → LeasedIsKept h → LeasedRunningHolds h
  leased-running-holds step stop restart serve kept owner clocks l begun number =
      let start = leased-begun-is-start owner clocks l begun in
      holds-on (λ (m : Leased p owner). IsKept (world p m.cluster) × IsKeptLed (world p m.cluster)) (λ (m : Leased p owner). OneImagePerPosition m.cluster.tree)
      (lease.Occurs h owner clocks) (lease.LeadsTo h owner clocks) (λ (m : Leased p owner). LeasedMoves h owner clocks l m)
      (λ m moves one. kept owner clocks l m start moves one)
      (λ m moves one next.
      ∥∥₁_map (leased-occurs owner clocks step stop restart serve m (kept owner clocks l m start moves one).0.safe next) (λ r. (r.0, r.1, then-leased owner clocks moves r.2)))
      number l leased.none (subst OneImagePerPosition (sym begun.cluster.tree) one-of-nothing)
