use Rattle.std.proofs.Common.{arith}
use Rattle.wal_watch.proofs.ScanLemmas.{final-count}
use Rattle.wal_watch.proofs.StayLemmas.{marks-stay}
use Rattle.wal_watch.proofs.laws.scans_go_on.Goals as goal

pub returns-clause-stay : goal.returns-clause-stay
returns-clause-stay c = λ old new marks same room. marks-stay old new c.args.marks.now.last.place same marks.last.there room c.args.marks.now marks (omega arith)

pub returns-clause-count : goal.returns-clause-count
returns-clause-count c = λ contents final. final-count contents c.args.marks.now final
