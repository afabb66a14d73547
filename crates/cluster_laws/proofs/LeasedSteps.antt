-- Every step, stop and restart of a node, and whatever the service does, is a move of a cluster with a lease service.
use Rattle.std.proofs.Common.{◌≡◌, ◌≢◌, ◌⊎◌, ℕ, Bool, true, false, cond, eqb, List, ◌∷◌, Option, Some, None, inl, inr, refl, sym, ap, subst, ◌∙◌, arith}
use Rattle.std.proofs.Math.Logic.{∥∥₁_map}
use Rattle.std.proofs.lemmas.Bool.Decides.{eqb_tells}
use Rattle.std.specs.List.{Contains}
use Rattle.std.specs.Option.{option_map}
use Rattle.lf_disk.specs.Folder.{Folder}
use Rattle.lease_core.specs.declared.grant.Grant.{Grant}
use Rattle.lease_core.specs.LeaseRun.{Clocks, Happens}
use Rattle.lease_core.specs.Leases.{Leases, live_grant}
use Rattle.world_laws.specs.Ledger.{FindsAlong}
use Rattle.world_laws.specs.Node as laws
use Rattle.world_laws.specs.Step.{calls_of}
use Rattle.world_laws.specs.StopLaw.{IsCutOff}
use Rattle.world_laws.specs.Store.{Commit, StoreCall, StoreState}
use Rattle.world_laws.specs.World.{World}
use Rattle.node_core.specs.declared.ask.Ask.{Ask}
use Rattle.cluster_laws.specs.Cluster.{Cluster, Program, begun_in, world}
use Rattle.cluster_laws.specs.Cluster as cluster
use Rattle.cluster_laws.specs.ClusterLaws.{RestartsAreMoves, StepsAreMoves, StopsAreMoves}
use Rattle.cluster_laws.specs.Leased.{CommitsInTime, IsOpenedAnew, IsUnheard, Leased, Leasing, Serves, Starts, reply_by, tenancy}
use Rattle.cluster_laws.specs.LeasedLaws.{RestartsAreLeasedMoves, ServiceIsServed, StepsAreLeasedMoves, StopsAreLeasedMoves}
use Rattle.cluster_laws.proofs.ClusterMoves.{place, place-here, place-other}
use Rattle.cluster_laws.proofs.LeasedMoves.{cut-among}

-- each number is still its node's where one node has drawn another that is its own
owned-anew : (owner numbers : ℕ → ℕ) (k number : ℕ) → owner number ≡ k → ((j : ℕ) → owner (numbers j) ≡ j) → (j : ℕ) → owner (place k number numbers j) ≡ j
owned-anew owner numbers k number own owned j = by (eqb_tells j k)
  where
    by : ((eqb j k ≡ true) × (j ≡ k)) ⊎ ((eqb j k ≡ false) × (j ≢ k)) → owner (place k number numbers j) ≡ j
    by (inl same) = ap (λ (b : Bool). owner (cond b number (numbers j))) same.0 ∙ own ∙ sym same.1
    by (inr differs) = ap (λ (b : Bool). owner (cond b number (numbers j))) differs.0 ∙ owned j

module _ {M : Type 0} {p : Program M} (h : Leasing p) where
  pub steps-are-leased-moves : StepsAreMoves p → StepsAreLeasedMoves h
  steps-are-leased-moves steps owner clocks l k caller a answer new safe step fair =
      let moved = steps l.cluster k caller a answer new safe step fair.law fair.is fair.comes in
      let n : ℕ = l.numbers k in
      let next : Option ℕ = reply_by a (l.replies n) in (
        record { cluster = moved.0; service = l.service; numbers = l.numbers; owned = l.owned; replies = place n next l.replies },
        moved.1,
        record {
          takes = moved.2;
          reply = fair.reply;
          in_time = λ file here. fair.in_time file (subst (λ (calls : List StoreCall). Contains calls (Commit file)) moved.3 here);
          number = refl;
          replies = place-here n next l.replies;
          rest = record { service = refl; numbers = λ j other. refl; replies = place-other n next l.replies };
        },
      )

  -- what was committed of a step that was cut off was committed in time, where all of it would have been
  in-time-cut : (owner : ℕ → ℕ) (clocks : Clocks) (l : Leased p owner) (k : ℕ) (a : Ask) (law : laws.Ask) (calls : List StoreCall) (found : StoreState) (v : World) →
      (ledger : FindsAlong (world p l.cluster) k found v ⊎ IsCutOff (world p l.cluster) k law calls found v) →
      CommitsInTime h owner clocks l k a calls → CommitsInTime h owner clocks l k a (begun_in ledger)
  in-time-cut owner clocks l k a law calls found v (inl before) in_time file here = absurd (omega (arith, here.1))
  in-time-cut owner clocks l k a law calls found v (inr cut) in_time file here = in_time file (cut-among calls cut file here)

  -- the cluster once node k was opened anew
  abbrev anew : (owner : ℕ → ℕ) (l : Leased p owner) (k number : ℕ) → owner number ≡ k → Cluster p → Leased p owner
  anew owner l k number own d = record {
    cluster = d;
    service = l.service;
    numbers = place k number l.numbers;
    owned = owned-anew owner l.numbers k number own l.owned;
    replies = place (l.numbers k) None l.replies;
  }

  is-anew : (owner : ℕ → ℕ) (clocks : Clocks) (l : Leased p owner) (k : ℕ) (folder : Folder) (new : M) (number : ℕ) (starts : Starts h owner clocks k folder new number) (d : Cluster p) → d.nodes k ≡ new →
      IsOpenedAnew h owner clocks l k (anew owner l k number starts.own d)
  is-anew owner clocks l k folder new number starts d here = record {
    standing = subst (λ (n : M). IsUnheard (h.parts n).standing) (sym here) starts.standing;
    reply = place-here (l.numbers k) None l.replies;
    rest = record { service = refl; numbers = place-other k number l.numbers; replies = place-other (l.numbers k) None l.replies };
  }

  pub stops-are-leased-moves : StopsAreMoves p → StopsAreLeasedMoves h
  stops-are-leased-moves stops owner clocks l e k caller a answer safe one x folder left new number starts =
      ∥∥₁_map (stops l.cluster e.cluster k caller a answer safe one x.takes folder left new starts.on) (λ r. (
        anew owner l k number starts.own r.0,
        r.1,
        place-here k number l.numbers,
        record {
          stops = r.2;
          in_time = in-time-cut owner clocks l k a x.takes.law (calls_of (p.tells x.takes.step (l.cluster.disks k) x.takes.law x.takes.is).facts) r.2.found (world p r.0) r.2.ledger x.in_time;
          anew = is-anew owner clocks l k folder new number starts r.0 r.1;
        },
      ))

  pub restarts-are-leased-moves : RestartsAreMoves p → RestartsAreLeasedMoves h
  restarts-are-leased-moves restarts owner clocks l k safe folder left new number starts =
      ∥∥₁_map (restarts l.cluster k safe folder left new starts.on) (λ r. (
        anew owner l k number starts.own r.0,
        r.1,
        place-here k number l.numbers,
        record { restarts = r.2; anew = is-anew owner clocks l k folder new number starts r.0 r.1 },
      ))

  -- by the grant that has not ended then
  serve : (owner : ℕ → ℕ) (clocks : Clocks) (l : Leased p owner) (service : Leases) (replies : ℕ → Option ℕ) (live : Option Grant) → live_grant service ≡ live →
      Happens clocks (tenancy h owner clocks l) (tenancy h owner clocks (record l { service = service; replies = replies })) →
      (m : Leased p owner) × (m.service ≡ service) × ((n : ℕ) → m.replies n ≡ replies n) × Serves h owner clocks l m
  serve owner clocks l service replies None none happens = (
    record l { cluster = record l.cluster { holder = None }; service = service; replies = replies },
    refl,
    λ n. refl,
    record {
      table = happens;
      numbers = λ k. refl;
      ledger = cluster.loses record {
        nodes = λ k. refl;
        ledger = record { granted = refl; holder = refl; nodes = λ k. (refl, refl); tree = refl; acts = refl; frames = (refl, refl) };
      };
      of_lease = tt;
      follows = ap (option_map (λ g. owner g.node)) (sym none);
    },
  )
  serve owner clocks l service replies (Some g) live happens = (
    record l { cluster = record l.cluster { granted = owner g.node ∷ l.cluster.granted; holder = Some (owner g.node) }; service = service; replies = replies },
    refl,
    λ n. refl,
    record {
      table = happens;
      numbers = λ k. refl;
      ledger = cluster.grants (owner g.node) record {
        nodes = λ k. refl;
        ledger = record { granted = refl; holder = refl; nodes = λ k. (refl, refl); tree = refl; acts = refl; frames = (refl, refl) };
      };
      of_lease = tt;
      follows = ap (option_map (λ g. owner g.node)) (sym live);
    },
  )

  pub service-is-served : ServiceIsServed h
  service-is-served owner clocks l service replies happens = serve owner clocks l service replies (live_grant service) refl happens
