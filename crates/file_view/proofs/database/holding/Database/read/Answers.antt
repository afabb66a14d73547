-- Where no write waits, or it was overtaken, the file is what there is.
use Rattle.file_view.proofs.HeldLemmas.{none-file, spent-file}
use Rattle.file_view.proofs.database.holding.Database.read.Goals as goal

pub returns-in-None-clause-bytes : goal.returns-in-None-clause-bytes
returns-in-None-clause-bytes g c = rw (none-file c.self.inside.file c.self.inside.held c.args.self.now c.self.view_is c.in-None.is) c.read.ensures.bytes

pub returns-in-None-write-clause-bytes : goal.returns-in-None-write-clause-bytes
returns-in-None-write-clause-bytes g c =
    rw (spent-file c.self.inside.file c.self.inside.held c.args.self.now c.in-Some.held c.self.view_is c.in-Some.is c.in-None-write.is)
    c.read-in-None-write.ensures.bytes
