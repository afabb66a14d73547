-- WHAT THE LEASE SERVICE ANSWERS to a request (lease_link) is a move of a cluster, and the reply that it tells is the one still to come.
use Rattle.std.specs.Prelude.{◌≡◌, ℕ, Option}
use Rattle.lease_core.specs.declared.lease_ask.LeaseAsk.{LeaseAsk}
use Rattle.lease_core.specs.declared.lease_ask.LeaseAsk.TheVariants as ask
use Rattle.lease_core.specs.declared.lease_reply.LeaseReply.{LeaseReply}
use Rattle.lease_core.specs.LeaseRun.{AskedBefore, Clocks, IsIdle}
use Rattle.lease_core.specs.Leases.{Leases, at_moment}
use Rattle.lease_link.specs.declared.learned.Learned.TheVariants as learned
use Rattle.lease_link.specs.Learning.{granted}
use Rattle.lease_link.specs.Table.{AnswersAsk}
use Rattle.node_core.specs.declared.ask.Ask.TheVariants as asks
use Rattle.node_core.specs.declared.news.LeaseNews.TheVariants as news
use Rattle.cluster_laws.specs.Cluster.{Program}
use Rattle.cluster_laws.specs.Leased.{IsReply, Leased, Leasing, Serves, tenant}

-- the number that asks for a grant
abbrev pub AsksFor : LeaseAsk → ℕ → Type 0
AsksFor (ask.Acquire node url host) n = node ≡ n
AsksFor (ask.Renew node term) n = node ≡ n
AsksFor (ask.Release node term) n = ⊥
AsksFor ask.Info n = ⊥

-- news of a grant of which the answer tells it are the reply to its last asking
abbrev pub TellsReply : LeaseAsk → LeaseReply → (ℕ → Option ℕ) → Type 0
TellsReply asked told replies = (n now term ttl : ℕ) → AsksFor asked n → granted asked told ≡ learned.Granted term ttl →
    IsReply (asks.Lease now (news.Granted term ttl)) (replies n)

module _ {M : Type 0} {p : Program M} (h : Leasing p) where
  -- what is wanted of a request at a moment: a grant was asked for no later than that, and a term is given back by an idle node
  abbrev pub IsDue : {owner : ℕ → ℕ} → Clocks → Leased p owner → ℕ → LeaseAsk → Type 0
  IsDue {owner} clocks l now (ask.Acquire node url host) = AskedBefore clocks (tenant h owner clocks l node) (at_moment now l.service) node
  IsDue {owner} clocks l now (ask.Renew node term) = AskedBefore clocks (tenant h owner clocks l node) (at_moment now l.service) node
  IsDue {owner} clocks l now (ask.Release node term) = IsIdle (tenant h owner clocks l node)
  IsDue clocks l now ask.Info = Unit {0}

  -- each answer of the service is a move
  abbrev pub AnswersAreMoves : Type 0
  AnswersAreMoves = (owner : ℕ → ℕ) (clocks : Clocks) (l : Leased p owner) (now : ℕ) (next : Leases) (asked : LeaseAsk) (told : LeaseReply) →
      IsDue clocks l now asked → AnswersAsk (at_moment now l.service) next asked told →
      (m : Leased p owner) × (m.service ≡ next) × TellsReply asked told m.replies × Serves h owner clocks l m

  -- and so it is where memory ran out, and only the moment passed
  abbrev pub MomentsAreMoves : Type 0
  MomentsAreMoves = (owner : ℕ → ℕ) (clocks : Clocks) (l : Leased p owner) (now : ℕ) →
      (m : Leased p owner) × (m.service ≡ at_moment now l.service) × Serves h owner clocks l m
