use Rattle.std.proofs.Common.{arith}
use Rattle.lf_base.specs.FileBytes.{written}
use Rattle.wal_watch.proofs.IndexLemmas.{shared-marks}
use Rattle.wal_watch.proofs.StayLemmas.{marked-some, marks-back, marks-written, marks-order}
use Rattle.wal_watch.proofs.file.kept_marks.Goals as goal

pub returns-then-keeps-clause-marks : goal.returns-then-keeps-clause-marks
returns-then-keeps-clause-marks c =
    let final = marked-some c.args.contents.now.bytes c.args.marks c.in-Some.marks c.in-Some.is c.requires in
    marks-written c.args.contents.now.bytes c.args.at c.args.bytes.now c.in-Some.marks final.behind (c.keeps.ensures.0 c.if-keeps.true)

pub returns-then-keeps-clause-shared : goal.returns-then-keeps-clause-shared
returns-then-keeps-clause-shared c =
    let final = marked-some c.args.contents.now.bytes c.args.marks c.in-Some.marks c.in-Some.is c.requires in
    shared-marks c.args.contents.now.bytes (written c.args.at c.args.bytes.now c.args.contents.now.bytes) c.in-Some.marks c.in-Some.marks.last.place final
    (marks-order c.args.contents.now.bytes c.in-Some.marks final.behind) (c.keeps.ensures.0 c.if-keeps.true)

pub returns-then-keeps-2-clause-marks : goal.returns-then-keeps-2-clause-marks
returns-then-keeps-2-clause-marks c =
    let final = marked-some c.args.contents.now.bytes c.args.marks c.in-Some.marks c.in-Some.is c.requires in
    rw c.back.ensures
    (marks-written c.args.contents.now.bytes c.args.at c.args.bytes.now _ (marks-back c.args.contents.now.bytes c.in-Some.marks final.behind) (c.keeps-2.ensures.0 c.if-keeps-2.true))

pub returns-then-keeps-2-clause-shared : goal.returns-then-keeps-2-clause-shared
returns-then-keeps-2-clause-shared c =
    let final = marked-some c.args.contents.now.bytes c.args.marks c.in-Some.marks c.in-Some.is c.requires in
    rw c.back.ensures
    (shared-marks c.args.contents.now.bytes (written c.args.at c.args.bytes.now c.args.contents.now.bytes) c.in-Some.marks c.in-Some.marks.committed.place final (omega arith)
    (c.keeps-2.ensures.0 c.if-keeps-2.true))
