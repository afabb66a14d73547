use Rattle.node_mount.proofs.lease_source.LeaseSourceService.ask.Goals as goal

pub returns-in-Own-clause-served : goal.returns-in-Own-clause-served
returns-in-Own-clause-served g c = rw c.in-Own.is c.ask.ensures.served

pub returns-in-Etcd-clause-served : goal.returns-in-Etcd-clause-served
returns-in-Etcd-clause-served g c = rw c.in-Etcd.is c.ask-in-Etcd.ensures.served
