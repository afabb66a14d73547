use Rattle.std.proofs.Common.{◌≡◌, ◌∙◌, List, refl, subst, take}
use Rattle.std.proofs.lemmas.List.{take_all}
use Rattle.lf_disk.specs.History.{now}
use Rattle.lf_disk.proofs.Moments.{joined}
use Rattle.ltx_backup.specs.Trimming.{IsTrimmed, HasTrimmed}
use Rattle.ltx_backup.specs.declared.entry.Entry.{Entry}
use Rattle.ltx_backup.proofs.Lists.{no_entry}
use Rattle.ltx_backup.proofs.Trims.{untouched, begins, one_more}
use Rattle.ltx_backup.proofs.trimming.trim.Goals as goal

pub loop-entry-init : goal.loop-entry-init
loop-entry-init g c = record {
  honest = refl;
  faults = refl;
  runs = λ honest. untouched c.args.number (g.D.Disk.history c.args.disk.now) (c.requires.settled honest);
  here = λ honest. begins c.args.number (g.D.Disk.history c.args.disk.now) (c.requires.settled honest);
}

pub loop-entry-preserved : goal.loop-entry-preserved
loop-entry-preserved g c =
    let es = c.args.entries.now in
    let i = c.loop-entry.entry-index in
    let h = g.D.Disk.history c.args.disk.now in
    let mid = g.D.Disk.history c.loop-entry.disk in
    record {
      honest = c.trim_one.ensures.honest ∙ c.loop-entry.invariant.honest;
      faults = c.in_ok-trim_one.ensures.cause ∙ c.loop-entry.invariant.faults;
      runs = λ honest. joined h mid (g.D.Disk.history c.trim_one.new.disk) (IsTrimmed c.args.number (now h)) (c.loop-entry.invariant.runs honest)
          (c.trim_one.ensures.moments (c.loop-entry.invariant.honest ∙ honest) (now h) (take i es) (c.loop-entry.invariant.here honest));
      here = λ honest. one_more c.args.number es no_entry i (now h) (g.D.Disk.history c.trim_one.new.disk) c.loop-entry-test.true
          (c.in_ok-trim_one.ensures.done (c.loop-entry.invariant.honest ∙ honest) (now h) (take i es) (c.loop-entry.invariant.here honest));
    }

pub returns-in_err-trim_one-clause-moments : goal.returns-in_err-trim_one-clause-moments
returns-in_err-trim_one-clause-moments g c honest =
    let h = g.D.Disk.history c.args.disk.now in
    joined h (g.D.Disk.history c.loop-entry.disk) (g.D.Disk.history c.trim_one.new.disk) (IsTrimmed c.args.number (now h)) (c.loop-entry.invariant.runs honest)
    (c.trim_one.ensures.moments (c.loop-entry.invariant.honest ∙ honest) (now h) (take c.loop-entry.entry-index c.args.entries.now) (c.loop-entry.invariant.here honest))

pub returns-clause-moments : goal.returns-clause-moments
returns-clause-moments g c honest = c.loop-entry.invariant.runs honest

pub returns-clause-done : goal.returns-clause-done
returns-clause-done g c honest =
    let all : take c.loop-entry.entry-index c.args.entries.now ≡ c.args.entries.now = take_all c.loop-entry.entry-index c.args.entries.now c.loop-entry-test.false in
    subst (λ (es : List Entry). HasTrimmed c.args.number es (now (g.D.Disk.history c.args.disk.now)) (g.D.Disk.history c.loop-entry.disk)) all (c.loop-entry.invariant.here honest)
