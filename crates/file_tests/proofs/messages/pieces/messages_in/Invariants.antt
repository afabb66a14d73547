use Rattle.std.proofs.Common.{◌≡◌, false, length}
use Rattle.fuse_msgs.specs.Feed.{is_whole}
use Rattle.file_tests.proofs.messages.pieces.messages_in.Given as goal

abbrev pub invariant-loop-rest : goal.invariant-loop-rest
invariant-loop-rest g l = is_whole l.feed ≡ false

abbrev pub decreases-loop-rest : goal.decreases-loop-rest
decreases-loop-rest g l = length l.rest
