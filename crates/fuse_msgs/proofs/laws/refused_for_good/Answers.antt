use Rattle.fuse_msgs.proofs.Run.{refused_held, refused_again}
use Rattle.fuse_msgs.proofs.laws.refused_for_good.Goals as goal

pub returns-clause-held : goal.returns-clause-held
returns-clause-held c = refused_held

pub returns-clause-again : goal.returns-clause-again
returns-clause-again c = refused_again
