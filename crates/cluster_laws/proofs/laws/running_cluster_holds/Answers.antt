use Rattle.cluster_laws.proofs.ClusterNodes.{nodes}
use Rattle.cluster_laws.proofs.LeasedNodes.{leases}
use Rattle.cluster_laws.proofs.Running.{leased-running-holds, running-holds}
use Rattle.cluster_laws.proofs.laws.running_cluster_holds.Goals as goal

pub returns-clause-alone : goal.returns-clause-alone
returns-clause-alone g c =
    let each = c.cluster_is_safe.ensures in
    running-holds nodes each.steps each.stops each.restarts each.kept

pub returns-clause-leased : goal.returns-clause-leased
returns-clause-leased g c =
    let each = c.leased_cluster_is_safe.ensures in
    leased-running-holds leases each.steps each.stops each.restarts each.serves each.kept
