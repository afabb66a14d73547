use Rattle.replica_apply.proofs.Streams.{where_said}
use Rattle.replica_apply.proofs.asking.ask_where.Goals as goal

pub returns-in-Ok-ask-clause-says : goal.returns-in-Ok-ask-clause-says
returns-in-Ok-ask-clause-says g c = rw c.place_in.ensures (where_said _ c.in-Ok-ask.answer _ _ _ c.in-Ok-ask.ensures.entry)
