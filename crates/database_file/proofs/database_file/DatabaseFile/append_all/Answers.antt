-- One page more is read, and the base stays.
use Rattle.std.proofs.Common.{◌≤◌, arith, ◌∙◌}
use Rattle.database_file.specs.DatabaseFile.{page_of, without_pages}
use Rattle.database_file.proofs.TextLemmas.{told_on, SameBase-trans, times_more}
use Rattle.database_file.proofs.database_file.DatabaseFile.append_all.Goals as goal

pub loop-number-preserved : goal.loop-number-preserved
loop-number-preserved g c =
    let order : c.args.span.before ≤ c.loop-number.number = omega arith in
    record {
      base = SameBase-trans c.loop-number.invariant.base c.in_ok-append.ensures.base;
      bytes = told_on _ _ (page_of (without_pages c.args.self.now c.args.passed.now)) _ _ _ _ order c.loop-number.invariant.base.image c.loop-number.invariant.bytes c.in_ok-append.ensures.bytes;
      faults = c.in_ok-append.ensures.faults ∙ c.loop-number.invariant.faults;
      size = times_more _ _ _ _ _ order c.loop-number.invariant.size c.in_ok-append.ensures.length;
    }
