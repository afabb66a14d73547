use Rattle.std.proofs.Common.{arith, ◌∙◌}
use Rattle.wal_watch.proofs.WriteLemmas.{front-past, front-within}
use Rattle.wal_watch.proofs.check.fill_header.Goals as goal

pub returns-then-at-lt-HEADER_LENGTH : goal.returns-then-at-lt-HEADER_LENGTH
returns-then-at-lt-HEADER_LENGTH c =
    let filled = rw c.requires.size at (c.fill.ensures 32 (omega (arith, c.requires.size))) in
    c.overwrite.ensures
    ∙ front-within c.args.at c.args.bytes.now c.args.contents.now.bytes c.fill.new.out filled c.requires.there c.split_at.result.0.now c.min.result c.if-at-lt-HEADER_LENGTH.true c.min.ensures c.split_at.ensures.front

pub returns-else-at-lt-HEADER_LENGTH : goal.returns-else-at-lt-HEADER_LENGTH
returns-else-at-lt-HEADER_LENGTH c =
    let filled = rw c.requires.size at (c.fill.ensures 32 (omega (arith, c.requires.size))) in
    front-past c.args.at c.args.bytes.now c.args.contents.now.bytes c.fill.new.out filled c.requires.there c.if-at-lt-HEADER_LENGTH.false
