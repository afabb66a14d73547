-- What a start gives, and what it leaves when it is stopped.
use Rattle.std.proofs.Common.{◌≡◌, Bool, false, IsTrue, None, sym, ap, subst, ◌∙◌}
use Rattle.lf_disk.specs.declared.disk.Disk.{Ghosts}
use Rattle.lf_disk.specs.Folder.{Folder}
use Rattle.lf_disk.specs.History.{EachMoment, History, Since, now}
use Rattle.txn_log.specs.declared.store.Store.{Store}
use Rattle.txn_log.specs.Durable.{Durable}
use Rattle.world_laws.specs.Store.{StoreState}
use Rattle.node_core.specs.declared.config.NodeConfig.{NodeConfig}
use Rattle.node_core.specs.declared.node.Node.{Node}
use Rattle.node_core.specs.declared.standing.Standing.{Standing}
use Rattle.node_core.specs.Nodes.{NodeParts, history, parts_of, seen, store_of}
use Rattle.node_core.specs.Opening.{first_belief, no_permits, opened, seen_opened}
use Rattle.node_core.specs.Stores.{StoreFields, fields_of, history_of, state}
use Rattle.cluster_laws.specs.Cluster.{StandsOn, StartsOn}
use Rattle.cluster_laws.specs.Cluster as cluster
use Rattle.cluster_laws.specs.Leased.{IsUnheard}
use Rattle.cluster_laws.proofs.ClusterNodes.{nodes, opens}

-- at each moment of a recovery a crash leaves a folder that stands for all that the first stood for
pub stands-on : (old new : History) → ((stood : StoreState) → Durable (now old) stood → EachMoment old new (λ c. Durable c stood)) → Since old.moment new (StandsOn (now old))
stands-on old new each t c early late leaves stood stands = (each stood stands).each t c early late leaves

-- a node that was opened so stands as before any news where its configuration is no candidate
pub stands-unheard : (node : NodeParts) (store : StoreFields) (config : NodeConfig) → node ≡ opened store config → config.candidate ≡ false → IsUnheard node.standing
stands-unheard node store config parts plain =
    (config.halt_ttl, ap (λ (n : NodeParts). n.standing) parts ∙ ap (λ (candidate : Bool). stands candidate) plain) where
      stands : Bool → Standing
      stands candidate = record { belief = first_belief candidate; moment = 0; pass = None; permits = no_permits config.halt_ttl }

module _ {D : Type 0} {G : Ghosts D} where
  -- a node over a store that was recovered from a folder starts on that
  pub starts-on : (node : Node D G) (store : Store D G) (config : NodeConfig) (folder : Folder) → store_of node ≡ store → IsTrue (fields_of store).honest →
      seen (history node) (parts_of node) ≡ seen_opened (history_of store) (fields_of store) config → (fields_of store).broken ≡ false →
      ((left : StoreState) → Durable folder left → state (history_of store) (fields_of store) ≡ left) → StartsOn nodes folder node
  starts-on node store config folder same disk seen_so unbroken stands = record {
    disk = ap (λ (s : Store D G). (fields_of s).honest) same ∙ disk;
    up = cluster.opens (opens node config folder
        (seen_so ∙ ap (λ (s : Store D G). seen_opened (history_of s) (fields_of s) config) (sym same))
        (ap (λ (s : Store D G). (fields_of s).broken) same ∙ unbroken)
        (λ left durable. ap (λ (s : Store D G). state (history_of s) (fields_of s)) same ∙ stands left durable));
  }

  -- and its opening left the disk alone
  pub left-on : (node : Node D G) (store : Store D G) (first : History) → store_of node ≡ store → Since first.moment (history_of store) (StandsOn (now first)) →
      Since first.moment (history node) (StandsOn (now first))
  left-on node store first same each = subst (λ (s : Store D G). Since first.moment (history_of s) (StandsOn (now first))) (sym same) each
