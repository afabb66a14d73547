use Rattle.wal_watch.proofs.CommitLemmas.{frame_there}
use Rattle.wal_watch.proofs.finding.holds_size.Goals as goal

pub size_in-requires-clause-there : goal.size_in-requires-clause-there
size_in-requires-clause-there c = frame_there c.args.contents.now.bytes c.args.count c.loop-frame.frame c.requires.count c.loop-frame-test.true
