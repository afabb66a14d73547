use Rattle.std.proofs.Common.{sym}
use Rattle.std.proofs.lemmas.Bool.{cond-true, eq-eqb}
use Rattle.wal_watch.specs.Frames.{committed_count}
use Rattle.wal_watch.proofs.ScanLemmas.{none_committed}
use Rattle.wal_watch.proofs.StayLemmas.{marked-none, marked-some}
use Rattle.wal_watch.proofs.scan.end_in.Goals as goal

pub returns-in-None : goal.returns-in-None
returns-in-None c = λ contents is. sym (cond-true _ _ _ (eq-eqb (committed_count contents) 0 (none_committed contents (marked-none contents c.args.marks c.in-None.is is))))

pub returns-in-Some : goal.returns-in-Some
returns-in-Some c = λ contents is. c.committed_end.ensures contents (marked-some contents c.args.marks c.in-Some.marks c.in-Some.is is)
