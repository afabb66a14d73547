use Rattle.world_laws.proofs.laws.answer_installs.Goals as goal
use Rattle.world_laws.proofs.CatchUp.{answers_by_whole-of, drop_installs-of, sent_file_applies-of, snapshot_installs-of}

pub returns-clause-answer : goal.returns-clause-answer
returns-clause-answer c = answers_by_whole-of

pub returns-clause-snapshot : goal.returns-clause-snapshot
returns-clause-snapshot c = snapshot_installs-of

pub returns-clause-dropped : goal.returns-clause-dropped
returns-clause-dropped c = drop_installs-of

pub returns-clause-file : goal.returns-clause-file
returns-clause-file c = sent_file_applies-of
