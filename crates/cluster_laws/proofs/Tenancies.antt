-- Moves of a cluster with a lease service, as what may happen to leases.
use Rattle.std.proofs.Common.{◌≡◌, ◌≢◌, ◌⊎◌, ℕ, max, Bool, true, false, cond, eqb, Option, None, inl, inr, refl, sym, ap, ◌∙◌, arith}
use Rattle.std.proofs.Math.Nat.{max-zero}
use Rattle.std.proofs.lemmas.Bool.Decides.{eqb_tells}
use Rattle.lease_core.specs.Belief.{LeaseBelief, asked_at, no_belief}
use Rattle.lease_core.specs.LeaseRun.{Changes, Clocks, Happens, Runs, Tenancy, Tenant, asks, believes, ends, goes, loses, newcomer, opens, passes, told_for}
use Rattle.world_laws.proofs.Terms.{other_test, same_test}
use Rattle.node_core.specs.declared.answer.Answer.{Answer}
use Rattle.node_core.specs.declared.ask.Ask.{Ask}
use Rattle.node_core.specs.declared.ask.Ask.TheVariants as ask
use Rattle.node_core.specs.declared.news.LeaseNews.TheVariants as news
use Rattle.node_core.specs.declared.standing.Standing.{Standing}
use Rattle.node_core.specs.Steps.{belief_by, moment_by}
use Rattle.cluster_laws.specs.Cluster.{OthersAre, Program}
use Rattle.cluster_laws.specs.Leased.{IsOfOne, IsOpenedAnew, IsReply, Leased, Leasing, TakesLeasedStep, reply_by, tenancy, tenant, tenant_if}

pub runs-append : {clocks : Clocks} {w v u : Tenancy} → Runs clocks w v → Runs clocks v u → Runs clocks w u
runs-append ends rest = rest
runs-append (goes happens runs) rest = goes happens (runs-append runs rest)

-- the same with another lease for one number
abbrev with_tenant : Tenancy → ℕ → Tenant → Tenancy
with_tenant w n t = record { service = w.service; nodes = λ j. cond (eqb j n) t (w.nodes j) }

changes-one : (w : Tenancy) (n : ℕ) (t : Tenant) → Changes w (with_tenant w n t) n t w.service
changes-one w n t = record {
  node = ap (λ (b : Bool). cond b t (w.nodes n)) (same_test n);
  others = λ j other. ap (λ (b : Bool). cond b t (w.nodes j)) (other_test j n other);
  table = refl;
}

-- a moment that passes by an ask
now-of : (a : Ask) → (now : ℕ) × ((moment : ℕ) → moment_by a moment ≡ max moment now)
now-of (ask.File now request) = (now, λ m. refl)
now-of ask.EndSession = (0, λ m. sym (max-zero m))
now-of ask.Where = (0, λ m. sym (max-zero m))
now-of (ask.Hello now from last) = (now, λ m. refl)
now-of (ask.Frame now bytes) = (now, λ m. refl)
now-of (ask.Drop now) = (now, λ m. refl)
now-of ask.Export = (0, λ m. sym (max-zero m))
now-of (ask.Import now bytes) = (now, λ m. refl)
now-of (ask.Prune keep) = (0, λ m. sym (max-zero m))
now-of (ask.Info now) = (now, λ m. refl)
now-of (ask.Watch now from) = (now, λ m. refl)
now-of (ask.Lease now news) = (now, λ m. refl)
now-of (ask.HaltAsk now node) = (now, λ m. refl)
now-of (ask.HaltBack now number) = (now, λ m. refl)
now-of (ask.Forward now number bytes) = (now, λ m. refl)
now-of (ask.HaltGot now pass) = (now, λ m. refl)
now-of (ask.HaltLost number) = (0, λ m. sym (max-zero m))
now-of (ask.Forwarded ok) = (0, λ m. sym (max-zero m))

-- a lease after an ask, where the moment passed first
module _ (v last : Tenancy) (n : ℕ) (t : Tenant) (others : (j : ℕ) → j ≢ n → last.nodes j ≡ v.nodes j) (table : last.service ≡ v.service) {clocks : Clocks} where
  rests-so : (moment : ℕ) → v.nodes n ≡ record t { moment = moment } → last.nodes n ≡ record t { moment = moment } → Happens clocks v last
  rests-so moment here is = passes n 0 record {
    node = is ∙ ap (λ (m : ℕ). record t { moment = m }) (sym (max-zero moment)) ∙ sym (ap (λ (u : Tenant). record u { moment = max u.moment 0 }) here);
    others = others;
    table = table;
  }

  pub then-news : (a : Ask) → v.nodes n ≡ record t { moment = moment_by a t.moment } → IsReply a t.granted →
      last.nodes n ≡ record { belief = belief_by a t.belief; moment = moment_by a t.moment; granted = reply_by a t.granted } → Happens clocks v last
  then-news (ask.File now request) here reply is = rests-so (max t.moment now) here is
  then-news ask.EndSession here reply is = rests-so t.moment here is
  then-news ask.Where here reply is = rests-so t.moment here is
  then-news (ask.Hello now from last) here reply is = rests-so (max t.moment now) here is
  then-news (ask.Frame now bytes) here reply is = rests-so (max t.moment now) here is
  then-news (ask.Drop now) here reply is = rests-so (max t.moment now) here is
  then-news ask.Export here reply is = rests-so t.moment here is
  then-news (ask.Import now bytes) here reply is = rests-so (max t.moment now) here is
  then-news (ask.Prune keep) here reply is = rests-so t.moment here is
  then-news (ask.Info now) here reply is = rests-so (max t.moment now) here is
  then-news (ask.Watch now from) here reply is = rests-so (max t.moment now) here is
  then-news (ask.HaltAsk now node) here reply is = rests-so (max t.moment now) here is
  then-news (ask.HaltBack now number) here reply is = rests-so (max t.moment now) here is
  then-news (ask.Forward now number bytes) here reply is = rests-so (max t.moment now) here is
  then-news (ask.HaltGot now pass) here reply is = rests-so (max t.moment now) here is
  then-news (ask.HaltLost number) here reply is = rests-so t.moment here is
  then-news (ask.Forwarded ok) here reply is = rests-so t.moment here is
  then-news (ask.Lease now (news.Primary host)) here reply is = rests-so (max t.moment now) here is
  then-news (ask.Lease now news.Asked) here reply is =
      let again : max t.moment now ≡ max (max t.moment now) now = omega arith in
      asks n now record {
        node = is ∙ ap (λ (m : ℕ). record { belief = asked_at now t.belief; moment = m; granted = None }) again
            ∙ sym (ap (λ (u : Tenant). record { belief = asked_at now u.belief; moment = max u.moment now; granted = None }) here);
        others = others;
        table = table;
      }
  then-news (ask.Lease now (news.Granted term ttl)) here reply is = believes n ttl (ap (λ (u : Tenant). u.granted) here ∙ reply) record {
    node = is ∙ sym (ap (λ (u : Tenant). record u { belief = told_for ttl u.belief }) here);
    others = others;
    table = table;
  }
  then-news (ask.Lease now news.Lost) here reply is = loses n record {
    node = is ∙ sym (ap (λ (u : Tenant). record u { belief = no_belief }) here);
    others = others;
    table = table;
  }

module _ {M : Type 0} {p : Program M} (h : Leasing p) (owner : ℕ → ℕ) (clocks : Clocks) where
  abbrev L : Type 0
  L = Leased p owner

  abbrev lease_if : Bool → M → Option ℕ → Tenant
  lease_if b node reply = tenant_if h owner clocks b node reply

  abbrev lease_at : L → ℕ → Tenant
  lease_at l n = tenant h owner clocks l n

  -- node k's own lease
  abbrev pub own : L → ℕ → Tenant
  own l k = lease_if true (l.cluster.nodes k) (l.replies (l.numbers k))

  abbrev pub all : L → Tenancy
  all l = tenancy h owner clocks l

  -- it is that of its number
  own-is : (l : L) (k n : ℕ) → l.numbers k ≡ n → lease_at l n ≡ lease_if true (l.cluster.nodes k) (l.replies n)
  own-is l k n is =
      ap (λ (j : ℕ). lease_if (eqb (l.numbers j) n) (l.cluster.nodes j) (l.replies n)) (ap owner (sym is) ∙ l.owned k)
      ∙ ap (λ (b : Bool). lease_if b (l.cluster.nodes k) (l.replies n)) (ap (λ (i : ℕ). eqb i n) is ∙ same_test n)

  -- one without a node
  abbrev without : Option ℕ → Tenant
  without reply = record newcomer { granted = reply }

  -- a number that its owner has not now
  unused : (l : L) (n : ℕ) → l.numbers (owner n) ≢ n → lease_at l n ≡ without (l.replies n)
  unused l n other = ap (λ (b : Bool). lease_if b (l.cluster.nodes (owner n)) (l.replies n)) (other_test (l.numbers (owner n)) n other)

  -- a number of another node
  other-node : (l m : L) (k n : ℕ) → IsOfOne h owner clocks l k m → OthersAre p k l.cluster m.cluster → n ≢ l.numbers k → owner n ≢ k → lease_at m n ≡ lease_at l n
  other-node l m k n rest others differs other =
      ap (λ (i : ℕ). lease_if (eqb i n) (m.cluster.nodes (owner n)) (m.replies n)) (rest.numbers (owner n) other)
      ∙ ap (λ (node : M). lease_if (eqb (l.numbers (owner n)) n) node (m.replies n)) (others (owner n) other)
      ∙ ap (λ (r : Option ℕ). lease_if (eqb (l.numbers (owner n)) n) (l.cluster.nodes (owner n)) r) (rest.replies n differs)

  -- an older number of node k
  older : (l : L) (k n j : ℕ) → l.numbers k ≡ n → owner j ≡ k → j ≢ n → lease_at l j ≡ without (l.replies j)
  older l k n j is of other = unused l j (λ same. other (sym same ∙ ap (λ (i : ℕ). l.numbers i) of ∙ is))

  -- the moment of an ask, before anything else is done
  abbrev pub passed : L → ℕ → Ask → Tenant
  passed l k a = record (own l k) { moment = moment_by a (own l k).moment }

  abbrev pub at_ask : L → ℕ → Ask → Tenancy
  at_ask l k a = with_tenant (all l) (l.numbers k) (passed l k a)

  pub at_ask-here : (l : L) (k : ℕ) (a : Ask) → (at_ask l k a).nodes (l.numbers k) ≡ passed l k a
  at_ask-here l k a = (changes-one (all l) (l.numbers k) (passed l k a)).node

  pub passes-ask : (l : L) (k : ℕ) (a : Ask) → Happens clocks (all l) (at_ask l k a)
  passes-ask l k a =
      let now = now-of a in
      let change = changes-one (all l) (l.numbers k) (passed l k a) in
      passes (l.numbers k) now.0 record {
        node = change.node ∙ ap (λ (m : ℕ). record (own l k) { moment = m }) (now.1 (own l k).moment)
            ∙ sym (ap (λ (u : Tenant). record u { moment = max u.moment now.0 }) (own-is l k (l.numbers k) refl));
        others = change.others;
        table = refl;
      }

  -- a step
  pub step-runs : (l m : L) (k caller : ℕ) (a : Ask) (answer : Answer) → TakesLeasedStep h owner clocks l k caller a answer m → Runs clocks (all l) (all m)
  step-runs l m k caller a answer x = goes (passes-ask l k a) (goes (then-news (at_ask l k a) (all m) (l.numbers k) (own l k) others x.rest.service a (at_ask-here l k a) x.reply here) ends)
    where
      others : (j : ℕ) → j ≢ l.numbers k → lease_at m j ≡ (at_ask l k a).nodes j
      others j other = by (eqb_tells (owner j) k) ∙ sym ((changes-one (all l) (l.numbers k) (passed l k a)).others j other)
        where
          by : ((eqb (owner j) k ≡ true) × (owner j ≡ k)) ⊎ ((eqb (owner j) k ≡ false) × (owner j ≢ k)) → lease_at m j ≡ lease_at l j
          by (inl same) =
              older m k (l.numbers k) j x.number same.1 other ∙ ap (λ (r : Option ℕ). without r) (x.rest.replies j other) ∙ sym (older l k (l.numbers k) j refl same.1 other)
          by (inr differs) = other-node l m k j x.rest x.takes.others other differs.1

      here : lease_at m (l.numbers k) ≡ record { belief = belief_by a (own l k).belief; moment = moment_by a (own l k).moment; granted = reply_by a (own l k).granted }
      here =
          let told = h.lease x.takes.step in
          own-is m k (l.numbers k) x.number
          ∙ ap (λ (b : LeaseBelief). record { belief = b; moment = (own m k).moment; granted = m.replies (l.numbers k) }) told.0
          ∙ ap (λ (t : ℕ). record { belief = belief_by a (own l k).belief; moment = t; granted = m.replies (l.numbers k) }) told.1
          ∙ ap (λ (r : Option ℕ). record { belief = belief_by a (own l k).belief; moment = moment_by a (own l k).moment; granted = r }) x.replies

  -- a node that was opened is a newcomer, under each of its numbers
  fresh-if : (b : Bool) (l m : L) (k : ℕ) (reply : Option ℕ) → IsOpenedAnew h owner clocks l k m → lease_if b (m.cluster.nodes k) reply ≡ without reply
  fresh-if false l m k reply x = refl
  fresh-if true l m k reply x =
      ap (λ (s : Standing). record { belief = s.belief; moment = s.moment; granted = reply }) x.standing.1

  fresh : (l m : L) (k n : ℕ) → IsOpenedAnew h owner clocks l k m → owner n ≡ k → lease_at m n ≡ without (m.replies n)
  fresh l m k n x of = ap (λ (i : ℕ). lease_if (eqb (m.numbers i) n) (m.cluster.nodes i) (m.replies n)) of ∙ fresh-if (eqb (m.numbers k) n) l m k (m.replies n) x

  -- a restart
  pub opening-runs : (l m : L) (k : ℕ) → IsOpenedAnew h owner clocks l k m → OthersAre p k l.cluster m.cluster → Runs clocks (all l) (all m)
  opening-runs l m k x others = goes (opens (l.numbers k) record { node = fresh l m k (l.numbers k) x (l.owned k) ∙ ap (λ (r : Option ℕ). without r) x.reply; others = λ j other. by j other (eqb_tells (owner j) k); table = x.rest.service }) ends
    where
      by : (j : ℕ) → j ≢ l.numbers k → ((eqb (owner j) k ≡ true) × (owner j ≡ k)) ⊎ ((eqb (owner j) k ≡ false) × (owner j ≢ k)) → lease_at m j ≡ lease_at l j
      by j other (inl same) = fresh l m k j x same.1 ∙ ap (λ (r : Option ℕ). without r) (x.rest.replies j other) ∙ sym (older l k (l.numbers k) j refl same.1 other)
      by j other (inr differs) = other-node l m k j x.rest others other differs.1
