use Rattle.lease_core.proofs.Shapes.{no_members-view, view-no_members}
use Rattle.lease_core.proofs.members.is_end.Goals as goal

pub returns : goal.returns
returns c = (λ t. view-no_members c.args.members.now.entries (c.is_empty.ensures.0 t), λ e. c.is_empty.ensures.1 (no_members-view c.args.members.now.entries e))
