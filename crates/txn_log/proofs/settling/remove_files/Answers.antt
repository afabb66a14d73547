use Rattle.std.proofs.Common.{◌∙◌, length, refl, sym}
use Rattle.txn_log.specs.declared.entry.Entry.{Entry}
use Rattle.txn_log.proofs.Stores.{no_entry}
use Rattle.txn_log.proofs.Prunings.{begins, next, is_there, removed, not_removed}
use Rattle.txn_log.proofs.settling.remove_files.Goals as goal

pub loop-entry-init : goal.loop-entry-init
loop-entry-init g c = record {
  honest = refl;
  faults = refl;
  runs = λ honest image files first. begins image files (length c.args.entries.now) (g.D.Disk.history c.args.disk.now) first.rest;
}

pub loop-entry-preserved : goal.loop-entry-preserved
loop-entry-preserved g c = record {
  honest = c.rename.ensures.honest ∙ c.loop-entry.invariant.honest;
  faults = c.in_ok-rename.ensures.cause ∙ c.loop-entry.invariant.faults;
  runs = λ honest image files first.
      let none : Entry = no_entry in
      let h = g.D.Disk.history c.args.disk.now in
      removed _ image files (length c.args.entries.now) c.loop-entry.entry-index _ _ h (g.D.Disk.history c.loop-entry.disk) (g.D.Disk.history c.rename.new.self)
      c.loop-entry-test.true (next image c.args.entries.now none files c.loop-entry.entry-index h first c.loop-entry-test.true)
      (c.loop-entry.invariant.runs honest image files first) c.rename.ensures.ticks (c.in_ok-rename.ensures.done (c.loop-entry.invariant.honest ∙ honest));
}

pub rename-requires : goal.rename-requires
rename-requires g c still =
    let honest = sym c.loop-entry.invariant.honest ∙ still in
    let none : Entry = no_entry in
    let h = g.D.Disk.history c.args.disk.now in
    let log = c.requires honest in
    is_there log.0 log.1 (length c.args.entries.now) c.loop-entry.entry-index _ _ h (g.D.Disk.history c.loop-entry.disk)
    (next log.0 c.args.entries.now none log.1 c.loop-entry.entry-index h log.2 c.loop-entry-test.true)
    (c.loop-entry.invariant.runs honest log.0 log.1 log.2)

pub returns-in_err-rename-clause-moments : goal.returns-in_err-rename-clause-moments
returns-in_err-rename-clause-moments g c honest image files first =
    let none : Entry = no_entry in
    let h = g.D.Disk.history c.args.disk.now in
    not_removed _ image files (length c.args.entries.now) c.loop-entry.entry-index _ _ h (g.D.Disk.history c.loop-entry.disk) (g.D.Disk.history c.rename.new.self)
    c.loop-entry-test.true (next image c.args.entries.now none files c.loop-entry.entry-index h first c.loop-entry-test.true)
    (c.loop-entry.invariant.runs honest image files first) c.rename.ensures.ticks _ (c.in_err-rename.ensures.failed (c.loop-entry.invariant.honest ∙ honest))
