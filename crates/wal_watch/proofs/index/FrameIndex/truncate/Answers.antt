use Rattle.std.proofs.Common.{◌-◌, refl, arith}
use Rattle.wal_watch.specs.Frames.{committed_count}
use Rattle.wal_watch.proofs.CommitLemmas.{frame_there}
use Rattle.wal_watch.proofs.index.FrameIndex.truncate.Goals as goal

pub number_in-requires-clause-there : goal.number_in-requires-clause-there
number_in-requires-clause-there c =
    let contents = c.args.contents.now.bytes in
    frame_there contents (committed_count contents) (c.len-last.result - 1) refl
    (omega (arith, c.len-last.ensures, c.len.ensures, c.loop-self-test.true, c.loop-self.invariant.fewer, c.requires.among))
