use Rattle.std.proofs.Common.{◌∙◌, sym, ap}
use Rattle.world_laws.specs.Store.{StoreState}
use Rattle.node_recovery.proofs.Undamaged.{blameless}
use Rattle.node_recovery.proofs.recovering.recover.Goals as goal

pub returns-in-Ok-clause-store : goal.returns-in-Ok-clause-store
returns-in-Ok-clause-store g c honest stood durable = c.at_rest.ensures.state ∙ (c.in-Ok.ensures.opens honest).state stood durable

pub returns-in-Ok-clause-staged : goal.returns-in-Ok-clause-staged
returns-in-Ok-clause-staged g c honest = rw (c.at_rest.ensures.disk) ((c.in-Ok.ensures.opens honest).staged)

pub returns-in-Ok-clause-mark : goal.returns-in-Ok-clause-mark
returns-in-Ok-clause-mark g c honest marked =
    rw (c.at_rest.ensures.disk) ((c.in-Ok.ensures.opens honest).mark (sym (ap (λ (s : StoreState). s.dropped) c.at_rest.ensures.state) ∙ marked))

pub returns-in-Ok-clause-moments : goal.returns-in-Ok-clause-moments
returns-in-Ok-clause-moments g c honest stood durable = rw (c.at_rest.ensures.disk) (c.reopen.ensures.moments honest stood durable)

pub returns-in-Err-clause-sound : goal.returns-in-Err-clause-sound
returns-in-Err-clause-sound g c honest stood durable =
    blameless (g.D.Disk.history c.args.disk) (g.D.Disk.history c.reopen.new.disk) stood c.in-Err.why durable (c.in-Err.ensures.opens honest)
