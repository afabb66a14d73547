-- Where no write waits the file is what there is.
use Rattle.file_view.proofs.HeldLemmas.{free-file}
use Rattle.file_view.proofs.database.holding.Database.commit_change.Goals as goal

pub returns-clause-told : goal.returns-clause-told
returns-clause-told g c = rw (free-file c.self.inside.file c.self.inside.held c.args.self.now c.self.view_is c.requires.free) c.commit_change.ensures.told
