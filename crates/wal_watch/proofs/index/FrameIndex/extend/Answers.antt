use Rattle.wal_watch.proofs.CommitLemmas.{frame_there}
use Rattle.wal_watch.proofs.index.FrameIndex.extend.Goals as goal

pub number_in-requires-clause-there : goal.number_in-requires-clause-there
number_in-requires-clause-there c = frame_there c.args.contents.now.bytes c.args.count c.loop-frame.frame c.requires.count c.loop-frame-test.true
