use Rattle.std.proofs.lemmas.List.{take-replicate}
use Rattle.fuse_msgs.specs.Fields.{zeros}
use Rattle.run_child.proofs.writing.zero_bytes.Goals as goal

pub returns : goal.returns
unfolding zeros
returns c = take-replicate c.args.count 56 0 c.requires
