use Rattle.std.proofs.Common.{arith}
use Rattle.wal_watch.proofs.IndexLemmas.{index-stays}
use Rattle.wal_watch.proofs.index.FrameIndex.go_over.Goals as goal

pub returns-else-len-shared-clause-index : goal.returns-else-len-shared-clause-index
returns-else-len-shared-clause-index c = λ old new h same.
    index-stays old new c.args.self.now h (λ k less. same k (omega (arith, less, c.if-len-shared.false, c.len.ensures)))
