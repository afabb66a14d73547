use Rattle.fuse_msgs.proofs.Run.{pieces_split, one_splitting}
use Rattle.fuse_msgs.proofs.laws.any_pieces.Goals as goal

pub returns-clause-split : goal.returns-clause-split
returns-clause-split c = pieces_split

pub returns-clause-once : goal.returns-clause-once
returns-clause-once c = one_splitting
