use Rattle.std.proofs.Common.{◌≡◌, ◌∙◌, List, [], length, drop, refl, sym, ap, subst, arith}
use Rattle.std.proofs.lemmas.List.{drop_all}
use Rattle.lf_disk.specs.History.{now}
use Rattle.ltx_codec.specs.declared.file.Ltx.{Ltx}
use Rattle.ltx_backup.specs.Applying.{AppliesAll}
use Rattle.ltx_backup.specs.Restoring.{up_to}
use Rattle.ltx_backup.proofs.Nths.{as_many}
use Rattle.ltx_backup.proofs.Restores.{starts, ended}
use Rattle.ltx_backup.proofs.Steps.{step, misfit_among}
use Rattle.ltx_backup.proofs.Stills.{rests_now, rests_stay, rests_join}
use Rattle.ltx_backup.proofs.restoring.restore_level.Goals as goal

pub loop-entry-init : goal.loop-entry-init
loop-entry-init g c = record {
  honest = refl;
  faults = refl;
  rests = rests_stay (g.D.Disk.history c.args.disk.now);
  runs = λ honest files are stand. starts (up_to c.args.txid files) c.args.before;
}

pub loop-entry-preserved : goal.loop-entry-preserved
loop-entry-preserved g c =
    let h = g.D.Disk.history c.args.disk.now in
    let mid = g.D.Disk.history c.loop-entry.disk in
    record {
      honest = c.restore_next.ensures.honest ∙ c.loop-entry.invariant.honest;
      faults = c.in-Ok.ensures.cause ∙ c.loop-entry.invariant.faults;
      rests = rests_join h mid (g.D.Disk.history c.restore_next.new.disk) c.loop-entry.invariant.rests c.restore_next.ensures.rests;
      runs = λ honest files are stand.
          step (now h) (now mid) c.args.entries.now files c.loop-entry.entry-index c.args.txid c.args.before c.loop-entry.state c.in-Ok.next (rests_now h mid c.loop-entry.invariant.rests) are stand
          c.loop-entry-test.true (c.loop-entry.invariant.runs honest files are stand) (c.in-Ok.ensures.restores (c.loop-entry.invariant.honest ∙ honest)) c.in-Ok.ensures.passes;
    }

pub returns-in-Err-clause-misfit : goal.returns-in-Err-clause-misfit
returns-in-Err-clause-misfit g c honest files are stand =
    let h = g.D.Disk.history c.args.disk.now in
    let mid = g.D.Disk.history c.loop-entry.disk in
    misfit_among (now h) (now mid) c.args.entries.now files c.loop-entry.entry-index c.args.level c.args.txid c.args.before c.loop-entry.state (rests_now h mid c.loop-entry.invariant.rests) are stand
    c.loop-entry-test.true (c.loop-entry.invariant.runs honest files are stand) c.in-Err.why (c.in-Err.ensures.misfit (c.loop-entry.invariant.honest ∙ honest))

pub returns-in-Err-clause-rests : goal.returns-in-Err-clause-rests
returns-in-Err-clause-rests g c =
    rests_join (g.D.Disk.history c.args.disk.now) (g.D.Disk.history c.loop-entry.disk) (g.D.Disk.history c.restore_next.new.disk) c.loop-entry.invariant.rests c.restore_next.ensures.rests

pub returns-clause-restores : goal.returns-clause-restores
returns-clause-restores g c honest files are stand =
    let count : length c.args.entries.now ≡ length files = ap length are ∙ as_many files in
    let none : drop c.loop-entry.entry-index files ≡ [] = drop_all c.loop-entry.entry-index files (omega (arith, count, c.loop-entry-test.false)) in
    (c.loop-entry.invariant.runs honest files are stand).all c.loop-entry.state
    (subst (λ (l : List Ltx). AppliesAll (up_to c.args.txid l) c.loop-entry.state c.loop-entry.state) (sym none) (ended c.loop-entry.state))
