use Rattle.txn_log.proofs.Intakes.{comes, same_front, up_next}
use Rattle.txn_log.proofs.receiving.Receiving.take_next.Goals as goal

pub returns-in-Ok-clause-moments : goal.returns-in-Ok-clause-moments
returns-in-Ok-clause-moments g c honest before change valid up holds =
    let r = c.args.self.now in
    let next = comes r c.args.sums.now.sums c.args.count change valid up c.args.number c.args.page.now c.requires.next c.requires.holds_data in
    c.receive.ensures.moments honest before _ next.passed next.lacks
    (same_front r c.args.sums.now.sums c.args.count change valid up c.args.number c.args.page.now c.requires.next c.requires.holds_data before (g.D.Disk.history c.args.disk.now) holds)

pub returns-in-Err-clause-moments : goal.returns-in-Err-clause-moments
returns-in-Err-clause-moments g c honest before change valid up holds =
    let r = c.args.self.now in
    let next = comes r c.args.sums.now.sums c.args.count change valid up c.args.number c.args.page.now c.requires.next c.requires.holds_data in
    c.receive.ensures.moments honest before _ next.passed next.lacks
    (same_front r c.args.sums.now.sums c.args.count change valid up c.args.number c.args.page.now c.requires.next c.requires.holds_data before (g.D.Disk.history c.args.disk.now) holds)

pub returns-in-Ok-clause-staged : goal.returns-in-Ok-clause-staged
returns-in-Ok-clause-staged g c honest before change valid up holds =
    let r = c.args.self.now in
    let next = comes r c.args.sums.now.sums c.args.count change valid up c.args.number c.args.page.now c.requires.next c.requires.holds_data in
    c.in-Ok.ensures.staged honest before _ next.passed next.lacks next.here
    (same_front r c.args.sums.now.sums c.args.count change valid up c.args.number c.args.page.now c.requires.next c.requires.holds_data before (g.D.Disk.history c.args.disk.now) holds)

pub returns-in-Ok-clause-passed : goal.returns-in-Ok-clause-passed
returns-in-Ok-clause-passed g c change valid up =
    let r = c.args.self.now in
    let next = comes r c.args.sums.now.sums c.args.count change valid up c.args.number c.args.page.now c.requires.next c.requires.holds_data in
    up_next r c.receive.new.self c.args.sums.now.sums c.args.count change c.args.number c.args.page.now up (c.in-Ok.ensures.passed _ next.passed next.lacks next.here) c.in-Ok.ensures.counts.0 c.in-Ok.ensures.counts.1
