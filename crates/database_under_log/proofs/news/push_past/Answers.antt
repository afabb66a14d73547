-- One page past the image more.
use Rattle.std.proofs.Common.{◌+◌, ◌++◌, ℕ, List, Option, rules, arith, ap, ◌∙◌, refl}
use Rattle.lf_sqlite_pages.specs.Change.{PageChange}
use Rattle.wal_watch.specs.File.{contents_of}
use Rattle.database_file.specs.CommitParts.{one_write}
use Rattle.database_file.proofs.WalLemmas.{over-next, over-all}
use Rattle.database_under_log.specs.LogChangeParts.{joined_page, joined}
use Rattle.database_under_log.proofs.NewsLemmas.{joined-start, joined-past}
use Rattle.database_under_log.proofs.news.push_past.Goals as goal

pub loop-before-init : goal.loop-before-init
loop-before-init c = record {
  size = refl;
  commit = refl;
  last = c.requires.last;
  from = omega arith;
  whole = c.requires.whole;
  writes = λ ws writes. joined-start ws (contents_of c.args.log.now) c.args.count c.args.change.now.pages writes;
}

pub loop-before-preserved : goal.loop-before-preserved
loop-before-preserved c =
    let ok = c.in_ok-push_latest.ensures.ok in
    record {
      size = ap (λ (x : PageChange). x.page_size) ok ∙ c.loop-before.invariant.size;
      commit = ap (λ (x : PageChange). x.commit) ok ∙ c.loop-before.invariant.commit;
      last = c.in_ok-push_latest.ensures.last;
      from = omega (arith, c.loop-before.invariant.from);
      whole = c.push_latest.ensures.whole ∙ c.loop-before.invariant.whole;
      writes = λ ws writes.
          over-next (joined_page ws (contents_of c.args.log.now) c.args.count) c.loop-before.before c.loop-before.change c.push_latest.new.change
          (c.loop-before.invariant.writes ws writes)
          (ok ∙ ap (λ (o : Option (List ℕ)). record c.loop-before.change { pages = c.loop-before.change.pages ++ one_write (c.loop-before.before + 1) o })
          (joined-past ws (contents_of c.args.log.now) c.args.count (c.loop-before.before + 1) (omega (arith, c.loop-before.invariant.from))));
    }

pub returns : goal.returns
returns c = λ ws writes.
    over-all (joined_page ws (contents_of c.args.log.now) c.args.count) (joined ws (contents_of c.args.log.now) c.args.count) c.loop-before.change c.loop-before.before
    (c.loop-before.invariant.size ∙ c.requires.size) (c.loop-before.invariant.commit ∙ c.requires.commit) c.sound.ensures
    (c.loop-before.invariant.writes ws writes) (search rules)
