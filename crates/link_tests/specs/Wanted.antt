-- What a test wants of the body of a call.
use Rattle.stream_wire.specs.declared.call.Call.{Call}
use Rattle.stream_wire.specs.declared.call.Call.TheVariants as call
use Rattle.http_exchange.specs.declared.wants.Kept.{Kept}
use Rattle.http_exchange.specs.declared.wants.Kept.TheVariants as kept

-- of /tx all is kept, of /stream a line, of the rest nothing
abbrev pub wanted_of : Call → Kept
wanted_of call.Tx = kept.All 5
wanted_of call.Stream = kept.Line 5
wanted_of _ = kept.Nothing
