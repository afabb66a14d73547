use Rattle.std.proofs.Common.{sym}
use Rattle.wal_watch.proofs.ScanLemmas.{none_committed, final-count}
use Rattle.wal_watch.proofs.StayLemmas.{marked-none, marked-some}
use Rattle.wal_watch.proofs.scan.committed_in.Goals as goal

pub returns-in-None-clause-count : goal.returns-in-None-clause-count
returns-in-None-clause-count c = λ contents is. sym (none_committed contents (marked-none contents c.args.marks c.in-None.is is))

pub returns-in-Some-clause-count : goal.returns-in-Some-clause-count
returns-in-Some-clause-count c = λ contents is. final-count contents c.in-Some.marks (marked-some contents c.args.marks c.in-Some.marks c.in-Some.is is)
