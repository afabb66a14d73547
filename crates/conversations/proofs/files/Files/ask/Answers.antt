-- What the request waits for is what its change leads to.
use Rattle.conversations.proofs.StandingLemmas.{await-told}
use Rattle.conversations.proofs.files.Files.ask.Goals as goal

pub returns-clause-awaits : goal.returns-clause-awaits
returns-clause-awaits c =
    await-told c.args.self.now.image c.prepare.new.base c.prepare.new.self c.prepare.result c.prepare.ensures.base.image c.prepare.ensures.awaits
