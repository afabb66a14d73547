use Rattle.txn_log.proofs.Octets.{file_reads_back}
use Rattle.txn_log.proofs.publishing.file_reads_back.Goals as goal

pub returns : goal.returns
returns c = file_reads_back c.args.file.now c.requires c.pages_are_bytes.ensures
