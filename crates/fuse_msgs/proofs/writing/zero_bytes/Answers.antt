use Rattle.std.proofs.lemmas.List.{take-replicate}
use Rattle.fuse_msgs.specs.Fields.{zeros}
use Rattle.fuse_msgs.proofs.writing.zero_bytes.Goals as goal

pub returns : goal.returns
unfolding zeros
returns c = take-replicate c.args.count 36 0 c.requires
