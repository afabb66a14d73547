use Rattle.std.proofs.Common.{refl}
use Rattle.stream_primary.specs.HaltCalls.{elsewhere, halting, unhalted, unreadable}
use Rattle.stream_primary.proofs.halt_calls.serve_halt.Goals as goal

pub returns-in-Number-clause-serves : goal.returns-in-Number-clause-serves
returns-in-Number-clause-serves g c = λ name body says. halting c.now_ms.result c.in-Number.node (rw c.in-Number.is at says) c.now_ms.ensures.meets c.ask_permit.ensures.asks

pub returns-in-OtherDatabase-clause-serves : goal.returns-in-OtherDatabase-clause-serves
returns-in-OtherDatabase-clause-serves g c = λ name body says. unhalted (elsewhere (rw c.in-OtherDatabase.is at says) (record { written = c.refuse.ensures.end; unasked = refl }))

pub returns-in-NoLine-clause-serves : goal.returns-in-NoLine-clause-serves
returns-in-NoLine-clause-serves g c = λ name body says. unhalted (unreadable (rw c.in-NoLine.is at says) (record { written = c.refuse-in-NoLine.ensures.end; unasked = refl }))
