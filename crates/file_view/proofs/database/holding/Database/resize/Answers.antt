-- Where no write waits the file is what there is.
use Rattle.file_view.proofs.HeldLemmas.{free-file, free-held}
use Rattle.file_view.proofs.database.holding.Database.resize.Goals as goal

pub returns-clause-sized : goal.returns-clause-sized
returns-clause-sized g c =
    rw (
      free-held c.self.inside.file c.self.inside.held c.args.self.now c.self.view_is c.requires.free,
      free-file c.self.inside.file c.self.inside.held c.args.self.now c.self.view_is c.requires.free,
    ) c.resize.ensures.sized
