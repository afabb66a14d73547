use Rattle.std.proofs.Common.{length}
use Rattle.stream_wire.proofs.last_file_field.+said.Given as goal

abbrev pub decreases-said : goal.decreases-said
decreases-said l = length l.headers.now
