use Rattle.wal_watch.proofs.IndexLemmas.{split_some, split_none}
use Rattle.wal_watch.proofs.laws.latest_frame_splits.Goals as goal

pub returns-clause-behind : goal.returns-clause-behind
returns-clause-behind c = split_some

pub returns-clause-before : goal.returns-clause-before
returns-clause-before c = split_none
