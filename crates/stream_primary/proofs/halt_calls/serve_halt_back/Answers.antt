use Rattle.std.proofs.Common.{refl}
use Rattle.stream_primary.specs.HaltCalls.{elsewhere, giving_back, not_given_back, unreadable}
use Rattle.stream_primary.proofs.halt_calls.serve_halt_back.Goals as goal

pub returns-in-Number-clause-serves : goal.returns-in-Number-clause-serves
returns-in-Number-clause-serves g c = λ name body says. giving_back c.now_ms.result c.in-Number.number (rw c.in-Number.is at says) c.now_ms.ensures.meets c.ask_back.ensures.gives

pub returns-in-OtherDatabase-clause-serves : goal.returns-in-OtherDatabase-clause-serves
returns-in-OtherDatabase-clause-serves g c = λ name body says. not_given_back (elsewhere (rw c.in-OtherDatabase.is at says) (record { written = c.refuse.ensures.end; unasked = refl }))

pub returns-in-NoLine-clause-serves : goal.returns-in-NoLine-clause-serves
returns-in-NoLine-clause-serves g c = λ name body says. not_given_back (unreadable (rw c.in-NoLine.is at says) (record { written = c.refuse-in-NoLine.ensures.end; unasked = refl }))
