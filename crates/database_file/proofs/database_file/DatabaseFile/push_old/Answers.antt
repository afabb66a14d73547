-- Within the image the change writes what the log does.
use Rattle.database_file.proofs.WalLemmas.{within-all}
use Rattle.database_file.proofs.database_file.DatabaseFile.push_old.Goals as goal

pub returns-clause-writes : goal.returns-clause-writes
returns-clause-writes c =
    within-all c.args.self.now c.args.news.now c.args.commit c.push_within.new.change.pages c.sound.ensures c.in_ok-push_within.ensures.writes
