use Rattle.std.proofs.Common.{arith}
use Rattle.wal_watch.proofs.ScanLemmas.{none_committed}
use Rattle.wal_watch.proofs.StayLemmas.{marked-none}
use Rattle.wal_watch.proofs.scan.page_size_of.Goals as goal

pub returns-in-None : goal.returns-in-None
returns-in-None c = λ contents is some. absurd (omega (arith, some, none_committed contents (marked-none contents c.args.marks c.in-None.is is)))
