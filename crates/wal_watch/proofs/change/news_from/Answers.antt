use Rattle.std.proofs.Common.{◌≡◌, ◌+◌, ◌-◌, arith}
use Rattle.wal_watch.proofs.CommitLemmas.{has_committed}
use Rattle.wal_watch.proofs.change.news_from.Goals as goal

pub size_in-commit-requires-clause-there : goal.size_in-commit-requires-clause-there
size_in-commit-requires-clause-there c =
    let there = has_committed c.args.contents.now.bytes c.args.count c.requires.count (omega arith) in
    let back : c.args.count - 1 + 1 ≡ c.args.count = omega arith in
    rw back there.room

pub new-change-requires : goal.new-change-requires
new-change-requires c =
    let there = has_committed c.args.contents.now.bytes c.args.count c.requires.count (omega arith) in
    rw (c.requires.size (omega arith)) there.header.page_size

pub change_by-requires-clause-committed : goal.change_by-requires-clause-committed
change_by-requires-clause-committed c = has_committed c.args.contents.now.bytes c.args.count c.requires.count (omega arith)
