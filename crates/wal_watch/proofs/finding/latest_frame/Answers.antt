use Rattle.std.proofs.Common.{Some, ℕ, sym, ap, ◌∙◌, arith}
use Rattle.wal_watch.specs.News.{latest_frame}
use Rattle.wal_watch.proofs.IndexLemmas.{split_none, split_some, latest_there}
use Rattle.wal_watch.proofs.finding.latest_frame.Goals as goal

pub returns-in-None-clause-latest : goal.returns-in-None-clause-latest
returns-in-None-clause-latest c =
    let contents = c.args.contents.now.bytes in
    c.latest.ensures contents c.requires.index ∙ ap (λ (m : ℕ). latest_frame contents c.args.page 0 m) (sym c.len.ensures)
    ∙ sym (split_none contents c.args.page c.len.result c.args.count (omega (arith, c.len.ensures, c.requires.few)) (sym c.in-None.ensures))

pub returns-in-None-clause-there : goal.returns-in-None-clause-there
returns-in-None-clause-there c = latest_there c.args.contents.now.bytes c.args.page c.args.count c.latest.result c.requires.among (returns-in-None-clause-latest c)

pub returns-in-Some-clause-latest : goal.returns-in-Some-clause-latest
returns-in-Some-clause-latest c = sym (split_some c.args.contents.now.bytes c.args.page c.len.result c.args.count c.in-Some.frame (sym c.in-Some.ensures))

pub returns-in-Some-clause-there : goal.returns-in-Some-clause-there
returns-in-Some-clause-there c = latest_there c.args.contents.now.bytes c.args.page c.args.count (Some c.in-Some.frame) c.requires.among (returns-in-Some-clause-latest c)
