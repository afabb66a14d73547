-- One page more is added, if it lies within the change.
use Rattle.std.proofs.Common.{◌<◌, get_or, arith, refl, ap, ◌∙◌}
use Rattle.lf_sqlite_pages.specs.Change.{PageChange}
use Rattle.lf_sqlite_pages.proofs.Numbers.{Ascends}
use Rattle.lf_sqlite_pages.proofs.TableNumbers.{Ascends-keys}
use Rattle.database_file.proofs.KeyLemmas.{Ascends-later}
use Rattle.database_file.proofs.KeptLemmas.{writes-none, writes-next, writes-all, first-key, same_change}
use Rattle.database_file.proofs.database_file.DatabaseFile.push_all.Goals as goal

pub loop-at-init : goal.loop-at-init
loop-at-init c = record {
  size = refl;
  commit = refl;
  below = λ k low inside. rw c.requires.empty (rw c.requires.numbers (first-key c.args.self.now.kept c.requires.first k (rw c.requires.numbers at inside)));
  writes = rw c.requires.empty (writes-none c.args.self.now c.args.change.now.commit);
}

pub loop-at-preserved : goal.loop-at-preserved
loop-at-preserved c =
    let rises : Ascends 0 c.args.numbers.now = rw c.requires.numbers (Ascends-keys c.args.self.now.kept) in
    record {
      size = ap (λ (x : PageChange). x.page_size) c.in_ok-push_kept.ensures.ok ∙ c.loop-at.invariant.size;
      commit = ap (λ (x : PageChange). x.commit) c.in_ok-push_kept.ensures.ok ∙ c.loop-at.invariant.commit;
      below = λ k low inside.
          let up : get_or c.args.numbers.now c.loop-at.at 0 < get_or c.args.numbers.now k 0 =
          Ascends-later 0 c.args.numbers.now rises c.loop-at.at k 0 (omega (arith, low)) inside in
          omega (arith, up, c.in_ok-push_kept.ensures.last);
      writes = writes-next c.args.self.now c.args.change.now.commit c.loop-at.at c.args.numbers.now c.loop-at.change c.push_kept.new.change c.loop-at-test.true
          c.loop-at.invariant.commit c.loop-at.invariant.writes c.in_ok-push_kept.ensures.ok;
    }

pub returns : goal.returns
returns c =
    same_change c.loop-at.change c.args.change.now.page_size c.args.change.now.commit _ c.loop-at.invariant.size c.loop-at.invariant.commit
    (writes-all c.args.self.now c.args.change.now.commit c.loop-at.at c.args.numbers.now c.loop-at.change c.requires.numbers c.loop-at-test.false
    c.loop-at.invariant.writes c.sound.ensures c.loop-at.invariant.commit)
