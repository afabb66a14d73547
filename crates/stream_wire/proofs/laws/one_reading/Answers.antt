use Rattle.stream_wire.proofs.Reading.{one_frame}
use Rattle.stream_wire.proofs.laws.one_reading.Goals as goal

pub returns : goal.returns
returns c = one_frame
