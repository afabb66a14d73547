use Rattle.std.proofs.Common.{◌≡◌, ◌-◌}
use Rattle.std.specs.Bool.{IsTrue}
use Rattle.txn_log.proofs.Receivings.{IsPassing}
use Rattle.txn_log.proofs.receiving.Receiving.pass_to.Given as goal

-- the pages so far were passed
abbrev pub invariant-loop-self : goal.invariant-loop-self
invariant-loop-self g l = record {
  so_far : IsPassing l.fn.self l.self l.sums.sums l.count l.last (IsTrue (g.D.Disk.honest l.fn.disk)) (g.D.Disk.history l.fn.disk) (g.D.Disk.history l.disk);
  honest : g.D.Disk.honest l.disk ≡ g.D.Disk.honest l.fn.disk;
  faults : g.D.Disk.faults l.disk ≡ g.D.Disk.faults l.fn.disk;
}

abbrev pub decreases-loop-self : goal.decreases-loop-self
decreases-loop-self g l = l.last - l.self.passed
