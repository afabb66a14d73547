use Rattle.stream_wire.proofs.Fronts.{frame_stays, refusal_stays}
use Rattle.stream_wire.proofs.laws.fronts_stay.Goals as goal

pub returns : goal.returns
returns c = record { frame = frame_stays; fault = refusal_stays }
