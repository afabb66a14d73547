use Rattle.lease_link.specs.Serving.{answered}
use Rattle.lease_link.proofs.serving.answer_ask.Goals as goal

pub returns-in-Ok-clause-answer : goal.returns-in-Ok-clause-answer
returns-in-Ok-clause-answer g c = answered c.in-Ok.told c.in-Ok.ensures.ok c.tell.ensures.reply
