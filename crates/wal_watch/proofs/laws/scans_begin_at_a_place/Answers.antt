use Rattle.wal_watch.proofs.OnLemmas.{scan-goes-on}
use Rattle.wal_watch.proofs.laws.scans_begin_at_a_place.Goals as goal

pub returns : goal.returns
returns c = scan-goes-on
