-- One page past the image more.
use Rattle.std.proofs.Common.{rules, arith, ap, ◌∙◌}
use Rattle.lf_sqlite_pages.specs.Change.{PageChange}
use Rattle.database_file.specs.WalCommit.{change_page}
use Rattle.database_file.proofs.WalLemmas.{over-next, over-all}
use Rattle.database_file.proofs.database_file.DatabaseFile.push_new.Goals as goal

pub loop-before-preserved : goal.loop-before-preserved
loop-before-preserved c =
    let ok = c.in_ok-push_over.ensures.ok c.args.commit (omega arith) in
    record {
      size = ap (λ (x : PageChange). x.page_size) ok ∙ c.loop-before.invariant.size;
      commit = ap (λ (x : PageChange). x.commit) ok ∙ c.loop-before.invariant.commit;
      last = c.in_ok-push_over.ensures.last;
      writes = over-next (change_page c.args.self.now c.args.news.now c.args.commit) c.loop-before.before c.loop-before.change c.push_over.new.change
          c.loop-before.invariant.writes ok;
    }

pub returns : goal.returns
returns c =
    over-all (change_page c.args.self.now c.args.news.now c.args.commit) c.args.news.now c.loop-before.change c.loop-before.before
    (c.loop-before.invariant.size ∙ c.requires.size) (c.loop-before.invariant.commit ∙ c.requires.count) c.sound.ensures
    c.loop-before.invariant.writes (search rules)
