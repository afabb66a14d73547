use Rattle.lease_core.proofs.OneReading.{one_ask, one_reply}
use Rattle.lease_core.proofs.laws.one_reading.Goals as goal

pub returns : goal.returns
returns c = record { asks = one_ask; replies = one_reply }
