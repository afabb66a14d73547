use Rattle.wal_watch.proofs.WriteLemmas.{same-kept, kept-same}
use Rattle.wal_watch.proofs.check.keeps.Goals as goal

pub returns : goal.returns
returns c = (
  λ yes. same-kept c.args.at c.args.bytes.now c.args.contents.now.bytes c.split_at.result.0.now c.args.end c.min.result c.if-end-at.false c.requires c.min.ensures c.split_at.ensures.front (c.holds.ensures.0 yes),
  λ kept. c.holds.ensures.1 (kept-same c.args.at c.args.bytes.now c.args.contents.now.bytes c.split_at.result.0.now c.args.end c.min.result c.if-end-at.false c.requires c.min.ensures c.split_at.ensures.front kept),
)
