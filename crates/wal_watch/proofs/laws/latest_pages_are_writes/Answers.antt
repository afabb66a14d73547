use Rattle.wal_watch.proofs.WritesLemmas.{latest-writes}
use Rattle.wal_watch.proofs.laws.latest_pages_are_writes.Goals as goal

pub returns : goal.returns
returns c = latest-writes
