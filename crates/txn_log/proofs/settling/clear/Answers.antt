use Rattle.std.proofs.Common.{◌∙◌, refl}
use Rattle.txn_log.proofs.Stores.{no_entry}
use Rattle.txn_log.proofs.Clearings.{begins, removed, not_removed}
use Rattle.txn_log.proofs.settling.clear.Goals as goal

pub loop-entry-init : goal.loop-entry-init
loop-entry-init g c = record {
  honest = refl;
  faults = refl;
  runs = λ honest settled. begins c.args.entries.now (g.D.Disk.history c.args.disk.now) settled;
}

pub loop-entry-preserved : goal.loop-entry-preserved
loop-entry-preserved g c = record {
  honest = c.remove.ensures.honest ∙ c.loop-entry.invariant.honest;
  faults = c.in_ok-remove.ensures.cause ∙ c.loop-entry.invariant.faults;
  runs = λ honest settled.
      removed _ c.args.entries.now c.loop-entry.entry-index no_entry (g.D.Disk.history c.args.disk.now) (g.D.Disk.history c.loop-entry.disk) (g.D.Disk.history c.remove.new.self)
      c.loop-entry-test.true (c.loop-entry.invariant.runs honest settled) c.remove.ensures.ticks (c.in_ok-remove.ensures.done (c.loop-entry.invariant.honest ∙ honest));
}

pub returns-in_err-remove-clause-moments : goal.returns-in_err-remove-clause-moments
returns-in_err-remove-clause-moments g c honest =
    not_removed _ c.args.entries.now c.loop-entry.entry-index no_entry (g.D.Disk.history c.args.disk.now) (g.D.Disk.history c.loop-entry.disk) (g.D.Disk.history c.remove.new.self)
    c.loop-entry-test.true (c.loop-entry.invariant.runs honest (c.requires honest)) c.remove.ensures.ticks _ (c.in_err-remove.ensures.failed (c.loop-entry.invariant.honest ∙ honest))
