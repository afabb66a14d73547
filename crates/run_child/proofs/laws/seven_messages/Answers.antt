use Rattle.run_child.proofs.Course.{front_written, started_once}
use Rattle.run_child.proofs.laws.seven_messages.Goals as goal

pub returns-clause-front : goal.returns-clause-front
returns-clause-front c = front_written

pub returns-clause-once : goal.returns-clause-once
returns-clause-once c = started_once
