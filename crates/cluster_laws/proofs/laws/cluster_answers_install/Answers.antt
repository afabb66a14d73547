use Rattle.cluster_laws.proofs.ClusterNodes.{by-whole, dropped, file, snapshot}
use Rattle.cluster_laws.proofs.laws.cluster_answers_install.Goals as goal

pub returns-clause-answer : goal.returns-clause-answer
returns-clause-answer g c = by-whole c.answer_installs.ensures.answer

pub returns-clause-snapshot : goal.returns-clause-snapshot
returns-clause-snapshot g c = snapshot c.answer_installs.ensures.snapshot

pub returns-clause-dropped : goal.returns-clause-dropped
returns-clause-dropped g c = dropped c.answer_installs.ensures.dropped

pub returns-clause-file : goal.returns-clause-file
returns-clause-file g c = file c.answer_installs.ensures.file
