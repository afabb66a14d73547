-- By the lemmas on the news.
use Rattle.std.proofs.Common.{ap, sym, ◌∙◌}
use Rattle.lf_sqlite_pages.specs.Change.{PageChange}
use Rattle.wal_watch.specs.File.{contents_of}
use Rattle.database_under_log.proofs.NewsLemmas.{news-same, joined-news}
use Rattle.database_under_log.proofs.news.with_older.Goals as goal

pub returns-then-commit-clause-news : goal.returns-then-commit-clause-news
returns-then-commit-clause-news c = λ first is.
    news-same (contents_of c.args.log.now) first c.args.commit c.args.news c.requires.some c.requires.count (rw (← c.commit.ensures) c.if-commit.true) is

pub returns-clause-news : goal.returns-clause-news
returns-clause-news c = λ first is.
    c.in_ok-push_past.ensures c.args.news.pages c.in_ok-push_within.ensures.writes
    ∙ joined-news (contents_of c.args.log.now) first c.args.commit c.args.news c.requires.some is

pub returns-clause-size : goal.returns-clause-size
returns-clause-size c = ap (λ (x : PageChange). x.page_size) (c.in_ok-push_past.ensures c.args.news.pages c.in_ok-push_within.ensures.writes) ∙ sym c.requires.size
