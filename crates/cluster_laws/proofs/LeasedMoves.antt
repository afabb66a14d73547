-- Moves of a cluster with a lease service are moves of a cluster, each of which leads.
use Rattle.std.proofs.Common.{◌≡◌, ◌⊎◌, ℕ, ◌+◌, ◌≤◌, List, [], ◌∷◌, ◌++◌, Option, Some, inl, inr, sym, ap, subst, ◌∙◌, true}
use Rattle.std.specs.List.{Contains}
use Rattle.std.specs.Option.{option_map}
use Rattle.std.proofs.lemmas.List.Elements.{Contains-append_left}
use Rattle.std.proofs.lemmas.List.{append_assoc}
use Rattle.ltx_codec.specs.declared.file.Ltx.{Ltx}
use Rattle.lease_core.specs.declared.grant.Grant.{Grant}
use Rattle.lease_core.specs.Belief.{may_commit}
use Rattle.lease_core.specs.LeaseRun.{Clocks, HolderBelieves, Runs, Tenancy, Tenant, ends, goes}
use Rattle.world_laws.specs.Ledger.{FindsAlong}
use Rattle.world_laws.specs.Node as laws
use Rattle.world_laws.specs.Premises.{CommitsAsHolder}
use Rattle.world_laws.specs.SafetyLaw.{LedKept, SafeKept}
use Rattle.world_laws.specs.Step.{calls_of}
use Rattle.world_laws.specs.StopLaw.{IsCutOff}
use Rattle.world_laws.specs.Store.{Commit, FailedIn, Failure, StoreCall, StoreState, begun_by}
use Rattle.world_laws.specs.World.{World}
use Rattle.node_core.specs.declared.answer.Answer.{Answer}
use Rattle.node_core.specs.declared.ask.Ask.{Ask}
use Rattle.node_core.specs.declared.ask.Ask.TheVariants as ask
use Rattle.node_core.specs.Safely.{IsAskOf}
use Rattle.node_core.specs.Steps.{moment_by}
use Rattle.cluster_laws.specs.Cluster.{AreLed, Cluster, Leads, Move, Moves, Program, begun_in, world}
use Rattle.cluster_laws.specs.Cluster as cluster
use Rattle.cluster_laws.specs.Leased.{CommitsInTime, IsCurrent, IsLeasedStart, IsOfLease, Leased, LeasedMove, LeasedMoves, Leasing, MayCommit, more, none, restarts, serves, standing_of, stops, takes_step}
use Rattle.cluster_laws.specs.LeasedLaws.{HolderMayCommit, LeasedIsKept, LeasedMovesAreLed, OneMayCommit}
use Rattle.cluster_laws.specs.Service.{Follows, leader}
use Rattle.cluster_laws.proofs.Clusters.{cluster-is-kept, cluster-is-led}
use Rattle.cluster_laws.proofs.Primaries.{as-holder-of, commit-primary, primary-may}
use Rattle.cluster_laws.proofs.Tenancies.{all, at_ask, at_ask-here, opening-runs, passed, passes-ask, runs-append, step-runs}

-- the last of these failed, and it is among all that were to be made
cut-within : (did calls rest : List StoreCall) (call : StoreCall) (failed : Option Failure) → failed ≡ Some (FailedIn call) → calls ≡ did ++ call ∷ rest → (file : Ltx) →
    Contains (did ++ begun_by failed) (Commit file) → Contains calls (Commit file)
cut-within did calls rest call failed fails split file here =
    let first : Contains (did ++ call ∷ []) (Commit file) = subst (λ (f : Option Failure). Contains (did ++ begun_by f) (Commit file)) fails here in
    let longer : Contains ((did ++ call ∷ []) ++ rest) (Commit file) = Contains-append_left (did ++ call ∷ []) rest (Commit file) first in
    let regroup : (did ++ call ∷ []) ++ rest ≡ did ++ call ∷ rest = simp append_assoc in
    subst (λ (cs : List StoreCall). Contains cs (Commit file)) (regroup ∙ sym split) longer

-- so of the calls of a step that were cut off
pub cut-among : {w v : World} {k : ℕ} {ask : laws.Ask} {found : StoreState} (calls : List StoreCall) → (cut : IsCutOff w k ask calls found v) → (file : Ltx) →
    Contains (calls_of cut.fails.facts) (Commit file) → Contains calls (Commit file)
cut-among calls cut file here = cut-within cut.fails.facts.did calls cut.rest cut.call cut.fails.facts.failed cut.failed cut.split file here

some-alike : (j k : ℕ) → Some j ≡ Some k → j ≡ k
some-alike j k same = cc

module _ {M : Type 0} {p : Program M} (h : Leasing p) (owner : ℕ → ℕ) (clocks : Clocks) (believes : HolderBelieves) (start : Leased p owner) (begins : IsLeasedStart h owner clocks start) where
  abbrev pub L : Type 0
  L = Leased p owner

  abbrev pub tenants : L → Tenancy
  tenants l = all h owner clocks l

  -- a run of leases comes to it, and the ledger follows the table
  pub record IsReached (l : L) : Type 0 where
    pub runs : Runs clocks (tenants start) (tenants l)
    pub follows : Follows owner (world p l.cluster) l.service

  -- a node that may commit at a current moment holds the ledger's lease
  holds-at : (l : L) (k : ℕ) (a : Ask) → IsReached l → may_commit (standing_of h owner clocks (l.cluster.nodes k)).belief (moment_by a (standing_of h owner clocks (l.cluster.nodes k)).moment) ≡ true →
      IsCurrent h owner clocks l k a → l.cluster.holder ≡ Some k
  holds-at l k a reached may current =
      let v : Tenancy = at_ask h owner clocks l k a in
      let here : v.nodes (l.numbers k) ≡ passed h owner clocks l k a = at_ask-here h owner clocks l k a in
      let runs : Runs clocks (tenants start) v = runs-append reached.runs (goes (passes-ask h owner clocks l k a) ends) in
      let held = believes clocks (tenants start) v (l.numbers k) begins.tenancy runs
      (ap (λ (u : Tenant). may_commit u.belief u.moment) here ∙ may)
      (subst (λ (u : Tenant). l.service.moment + clocks.nodes (l.numbers k) ≤ u.moment + clocks.service) (sym here) current) in
      reached.follows ∙ ap (λ (o : Option Grant). option_map (λ g. owner g.node) o) held.1 ∙ ap (λ (n : ℕ). Some (owner n)) held.2 ∙ ap (λ (n : ℕ). Some n) (l.owned k)

  -- what node k commits in a step, it commits as the holder
  step-holds : (l : L) (k caller : ℕ) (a : Ask) (answer : Answer) (new : M) → IsReached l → (step : p.steps (l.cluster.nodes k) caller a answer new) (law : laws.Ask) (of : IsAskOf a law) → (calls : List StoreCall) →
      ((file : Ltx) → Contains calls (Commit file) → Contains (calls_of (p.tells step (l.cluster.disks k) law of).facts) (Commit file)) →
      CommitsInTime h owner clocks l k a calls → CommitsAsHolder (world p l.cluster) k calls
  step-holds l k caller a answer new reached step law of calls among in_time = as-holder-of (world p l.cluster) k calls (λ file here.
      let primary = commit-primary (p.tells step (l.cluster.disks k) law of).facts.makes file (among file here) in
      holds-at l k a reached (primary-may (h.parts (l.cluster.nodes k)) a (sym (h.role step (l.cluster.disks k) law of) ∙ primary)) (in_time file here))

  -- of a stop: nothing, or the calls of a step up to the one that failed
  stop-holds : (l m : L) (k caller : ℕ) (a : Ask) (answer : Answer) (new : M) (found : StoreState) → IsReached l → (step : p.steps (l.cluster.nodes k) caller a answer new) (law : laws.Ask) (of : IsAskOf a law) →
      (ledger : FindsAlong (world p l.cluster) k found (world p m.cluster)
      ⊎ IsCutOff (world p l.cluster) k law (calls_of (p.tells step (l.cluster.disks k) law of).facts) found (world p m.cluster)) →
      CommitsInTime h owner clocks l k a (begun_in ledger) → CommitsAsHolder (world p l.cluster) k (begun_in ledger)
  stop-holds l m k caller a answer new found reached step law of (inl before) in_time = tt
  stop-holds l m k caller a answer new found reached step law of (inr cut) in_time =
      step-holds l k caller a answer new reached step law of (calls_of cut.fails.facts) (cut-among (calls_of (p.tells step (l.cluster.disks k) law of).facts) cut) in_time

  -- and the lease stays
  stop-stays : (c d : Cluster p) (k : ℕ) (a : laws.Ask) (calls : List StoreCall) (found : StoreState) → FindsAlong (world p c) k found (world p d) ⊎ IsCutOff (world p c) k a calls found (world p d) → d.holder ≡ c.holder
  stop-stays c d k a calls found (inl before) = before.lease.1
  stop-stays c d k a calls found (inr cut) = cut.finds.lease.1 ∙ cut.fails.along.lease.1

  -- a move that a cluster may make too, and that leads; and where it comes
  abbrev Goes : L → L → Type 0
  Goes l m = (move : Move p l.cluster m.cluster) × Leads p move × IsReached m

  still : (l m : L) → IsReached l → m.cluster.holder ≡ l.cluster.holder → m.service ≡ l.service → Runs clocks (tenants l) (tenants m) → IsReached m
  still l m reached holder service runs =
      record { runs = runs-append reached.runs runs; follows = holder ∙ reached.follows ∙ ap (leader owner) (sym service) }

  of-lease-leads : {c d : Cluster p} (move : Move p c d) → IsOfLease move → Leads p move
  of-lease-leads (cluster.takes_step x) never = absurd never
  of-lease-leads (cluster.stops x) never = absurd never
  of-lease-leads (cluster.restarts x) never = absurd never
  of-lease-leads (cluster.grants k x) lease = tt
  of-lease-leads (cluster.renews x) lease = tt
  of-lease-leads (cluster.loses x) lease = tt

  move-goes : (l m : L) → IsReached l → LeasedMove h owner clocks l m → Goes l m
  move-goes l m reached (takes_step {k = k} {caller = caller} {ask = a} {answer = answer} x) = (
    cluster.takes_step x.takes,
    step-holds l k caller a answer (m.cluster.nodes k) reached x.takes.step x.takes.law x.takes.is (calls_of (p.tells x.takes.step (l.cluster.disks k) x.takes.law x.takes.is).facts) (λ file here. here) x.in_time,
    still l m reached x.takes.along.lease.1 x.rest.service (step-runs h owner clocks l m k caller a answer x),
  )
  move-goes l m reached (stops {k = k} {caller = caller} {ask = a} {answer = answer} {new = new} {step = step} {law = law} {is = of} x) = (
    cluster.stops x.stops,
    stop-holds l m k caller a answer new x.stops.found reached step law of x.stops.ledger x.in_time,
    still l m reached (stop-stays l.cluster m.cluster k law (calls_of (p.tells step (l.cluster.disks k) law of).facts) x.stops.found x.stops.ledger) x.anew.rest.service (opening-runs h owner clocks l m k x.anew x.stops.restart.others),
  )
  move-goes l m reached (restarts {k = k} x) = (
    cluster.restarts x.restarts,
    tt,
    still l m reached x.restarts.ledger.lease.1 x.anew.rest.service (opening-runs h owner clocks l m k x.anew x.restarts.restart.others),
  )
  move-goes l m reached (serves x) = (x.ledger, of-lease-leads x.ledger x.of_lease, record { runs = runs-append reached.runs (goes x.table ends); follows = x.follows })

  abbrev pub AllGo : L → L → Type 0
  AllGo l m = (moves : Moves p l.cluster m.cluster) × AreLed p moves × IsReached m

  moves-go : {l m : L} → IsReached l → LeasedMoves h owner clocks l m → AllGo l m
  moves-go reached none = (cluster.none, tt, reached)
  moves-go reached (more {l = l} {m = next} move moves) =
      let first = move-goes l next reached move in
      let rest = moves-go first.2 moves in
      (cluster.more first.0 rest.0, (first.1, rest.1), rest.2)

  begin : IsReached start
  begin = record {
    runs = ends;
    follows = begins.cluster.lease.1 ∙ sym (ap (λ (gs : List Grant). leader owner (record start.service { grants = gs })) begins.tenancy.service);
  }

  pub go : (m : L) → LeasedMoves h owner clocks start m → AllGo start m
  go m moves = moves-go begin moves

  pub holder : (m : L) (k : ℕ) → LeasedMoves h owner clocks start m → MayCommit h owner clocks m k → m.cluster.holder ≡ Some k
  holder m k moves may = holds-at m k ask.Where (go m moves).2 may.believes may.current

module _ {M : Type 0} {p : Program M} (h : Leasing p) (believes : HolderBelieves) where
  pub leased-moves-are-led : LeasedMovesAreLed h
  leased-moves-are-led owner clocks l m start moves =
      let run = go h owner clocks believes l start m moves in
      (run.0, run.1)

  pub leased-is-kept : SafeKept → LedKept → LeasedIsKept h
  leased-is-kept kept led owner clocks l m start moves one =
      let run = go h owner clocks believes l start m moves in
      (cluster-is-kept p kept l.cluster m.cluster start.cluster run.0 one, cluster-is-led p led l.cluster m.cluster start.cluster run.0 run.1 one)

  pub holder-may-commit : HolderMayCommit h
  holder-may-commit owner clocks l m k start moves may = holder h owner clocks believes l start m k moves may

  pub one-may-commit : OneMayCommit h
  one-may-commit owner clocks l m j k start moves one other =
      some-alike j k (sym (holder h owner clocks believes l start m j moves one) ∙ holder h owner clocks believes l start m k moves other)
