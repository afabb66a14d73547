use Rattle.fuse_msgs.proofs.Loops.{loop_ends, loop_splits, loop_once}
use Rattle.fuse_msgs.proofs.laws.rests_fed_again.Goals as goal

pub returns-clause-ends : goal.returns-clause-ends
returns-clause-ends c = loop_ends

pub returns-clause-split : goal.returns-clause-split
returns-clause-split c = loop_splits

pub returns-clause-once : goal.returns-clause-once
returns-clause-once c = loop_once
