use Rattle.stream_wire.proofs.StreamHeads.{head_read, last_read, without, unsaid_read}
use Rattle.stream_wire.proofs.laws.stream_heads_are_read.Goals as goal

pub returns : goal.returns
returns c = record { head = head_read; last = last_read; plain = without; unsaid = unsaid_read }
