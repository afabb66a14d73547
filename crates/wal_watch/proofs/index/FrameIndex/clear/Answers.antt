use Rattle.wal_watch.proofs.IndexLemmas.{index-none}
use Rattle.wal_watch.proofs.index.FrameIndex.clear.Goals as goal

pub returns-clause-index : goal.returns-clause-index
returns-clause-index c = λ contents. index-none contents _ c.clear-2.ensures.len c.clear.ensures.empty
