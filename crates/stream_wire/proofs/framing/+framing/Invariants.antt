use Rattle.std.proofs.Common.{length}
use Rattle.stream_wire.proofs.framing.+framing.Given as goal

abbrev pub decreases-framing : goal.decreases-framing
decreases-framing l = length l.headers.now
