use Rattle.stream_wire.proofs.ReadBack.{reply_read, request_read}
use Rattle.stream_wire.proofs.laws.written_heads_are_read.Goals as goal

pub returns : goal.returns
returns c = record { reply = reply_read; request = request_read }
