use Rattle.std.proofs.Common.{refl}
use Rattle.stream_primary.specs.ForwardCall.{forward_elsewhere, forward_unreadable, forwarding}
use Rattle.stream_primary.proofs.forward_call.serve_forward.Goals as goal

pub returns-in-File-clause-serves : goal.returns-in-File-clause-serves
returns-in-File-clause-serves g c = λ name body says. forwarding c.now_ms.result c.in-File.number c.in-File.bytes (rw c.in-File.is at says) c.now_ms.ensures.meets c.ask_once.ensures.serves

pub returns-in-OtherDatabase-clause-serves : goal.returns-in-OtherDatabase-clause-serves
returns-in-OtherDatabase-clause-serves g c = λ name body says. forward_elsewhere (rw c.in-OtherDatabase.is at says) (record { written = c.refuse.ensures.end; unasked = refl })

pub returns-in-NoLine-clause-serves : goal.returns-in-NoLine-clause-serves
returns-in-NoLine-clause-serves g c = λ name body says. forward_unreadable (rw c.in-NoLine.is at says) (record { written = c.refuse-in-NoLine.ensures.end; unasked = refl })
