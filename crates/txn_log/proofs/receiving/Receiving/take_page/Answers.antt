use Rattle.std.proofs.Common.{List, refl, ap, subst, arith}
use Rattle.std.specs.Prelude.{bit_xor}
use Rattle.lf_sqlite_pages.specs.Writes.{writes_of}
use Rattle.lf_sqlite_pages.specs.declared.page_write.PageWrite.{PageWrite}
use Rattle.txn_log.specs.Staging.{HoldsSoFar, front_encoding}
use Rattle.txn_log.proofs.Modes.{page_size-most}
use Rattle.txn_log.proofs.Receivings.{taken-writes, takes}
use Rattle.txn_log.proofs.receiving.Receiving.take_page.Goals as goal

pub returns-in_err-stage_page-clause-moments : goal.returns-in_err-stage_page-clause-moments
returns-in_err-stage_page-clause-moments g c honest before sums held has so_far =
    c.stage_page.ensures.moments honest before c.args.self.now.header (writes_of held c.args.self.now.passed) has.staging so_far

pub invariant_of-self-2 : goal.invariant_of-self-2
invariant_of-self-2 g c =
    let s = c.args.self.now in
    record {
      sized = s.sized;
      short = omega (arith, s.short, c.in_ok-stage_page.ensures.len, c.requires.whole, c.requires.next, page_size-most s.header.page_size s.sized);
    }

pub returns-clause-moments : goal.returns-clause-moments
returns-clause-moments g c honest before sums held has so_far =
    c.stage_page.ensures.moments honest before c.args.self.now.header (writes_of held c.args.self.now.passed) has.staging so_far

pub returns-clause-staged : goal.returns-clause-staged
returns-clause-staged g c honest before sums held has some so_far =
    let s = c.args.self.now in
    subst (λ (ws : List PageWrite). HoldsSoFar before (front_encoding s.header ws) (g.D.Disk.history c.stage_page.new.disk))
    (taken-writes held s.passed c.args.number c.args.page.now c.requires.next some)
    (c.in_ok-stage_page.ensures.staged honest before s.header (writes_of held s.passed) has.staging so_far)

pub returns-clause-passed : goal.returns-clause-passed
returns-clause-passed g c sums held has some =
    let s = c.args.self.now in
    takes s _ sums held c.args.number c.args.page.now has c.requires.next c.requires.holds_data some refl refl
    (ap (bit_xor s.total) c.page_sum.ensures)
    (c.in_ok-stage_page.ensures.counts s.header (writes_of held s.passed) has.staging)
