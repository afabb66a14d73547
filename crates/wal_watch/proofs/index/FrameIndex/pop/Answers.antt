use Rattle.std.proofs.Common.{Some, None, arith}
use Rattle.wal_watch.proofs.IndexLemmas.{index-less, index-last}
use Rattle.wal_watch.proofs.index.FrameIndex.pop.Goals as goal

pub returns-in-None-clause-index : goal.returns-in-None-clause-index
returns-in-None-clause-index c = λ contents h is.
    let e = c.in-Some.ensures in
    index-less contents c.args.self.now _ c.args.page None h is e.len (rw c.in-None.is at (e.value None c.requires)) e.rest c.remove.ensures.updates

pub returns-in-Some-get_mut-clause-index : goal.returns-in-Some-get_mut-clause-index
returns-in-Some-get_mut-clause-index c = λ contents h is.
    let e = c.in-Some.ensures in
    let frame = c.in-Some-earlier.frame in
    let there = index-last contents c.args.self.now c.args.page c.pop.new.self.len h is (omega (arith, e.len)) in
    index-less contents c.args.self.now _ c.args.page (Some frame) h is e.len (rw c.in-Some-earlier.is at (e.value None c.requires)) e.rest
    ((c.get_mut.follows.holds frame).3 (rw there cc))

pub returns-in_default-get_mut-clause-index : goal.returns-in_default-get_mut-clause-index
returns-in_default-get_mut-clause-index c = λ contents h is.
    let e = c.in-Some.ensures in
    absurd (let there = index-last contents c.args.self.now c.args.page c.pop.new.self.len h is (omega (arith, e.len)) in
    let gone = c.in_default-get_mut.ensures.value in cc (there, gone))
