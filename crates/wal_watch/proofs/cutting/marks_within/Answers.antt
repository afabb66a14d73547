use Rattle.wal_watch.proofs.StayLemmas.{marked-some, marks-back, marks-cut}
use Rattle.wal_watch.proofs.cutting.marks_within.Goals as goal

pub returns-then-marks-len : goal.returns-then-marks-len
returns-then-marks-len c =
    let final = marked-some c.args.contents.now.bytes c.args.marks c.in-Some.marks c.in-Some.is c.requires in
    marks-cut c.args.contents.now.bytes c.args.len c.in-Some.marks final.behind c.if-marks-len.true

pub returns-then-marks-len-2 : goal.returns-then-marks-len-2
returns-then-marks-len-2 c =
    let final = marked-some c.args.contents.now.bytes c.args.marks c.in-Some.marks c.in-Some.is c.requires in
    rw c.back.ensures (marks-cut c.args.contents.now.bytes c.args.len _ (marks-back c.args.contents.now.bytes c.in-Some.marks final.behind) c.if-marks-len-2.true)
