use Rattle.std.proofs.Common.{refl, arith}
use Rattle.txn_log.proofs.Comings.{begun_as, bounded_come, used_some, sees, faulty, tail_comes}
use Rattle.txn_log.proofs.coming.Coming.step.Goals as goal

pub returns-then-self-clause-comes : goal.returns-then-self-clause-comes
returns-then-self-clause-comes c encoding change come = tail_comes c.args.self.now encoding c.args.piece.now change c.if-self.true come c.requires.some

pub overflow_add-self : goal.overflow_add-self
overflow_add-self c =
    let o = c.requires.open_ in
    let fed = (begun_as c.args.self.now.whole c.args.self.now.reader.decoder o.0 o.1 c.if-self.false o.2.stands).fed in
    let used = used_some c.feed.new.self.decoder o.0 c.args.piece.now c.in-Ok.seen (c.in-Ok.ensures o.0 fed) c.requires.some in
    omega (arith, used.1, c.used_by-used.ensures, c.requires.short, bounded_come c.args.self.now o.0 o.1 c.if-self.false o.2)

pub returns-in-Ok-clause-comes : goal.returns-in-Ok-clause-comes
returns-in-Ok-clause-comes c encoding change come =
    let fed = (begun_as c.args.self.now.whole c.args.self.now.reader.decoder encoding change c.if-self.false come.stands).fed in
    sees c.args.self.now _ encoding c.args.piece.now change c.if-self.false come c.are_bytes.ensures c.in-Ok.seen c.ended_part.result c.used_by-used.result
    (c.in-Ok.ensures encoding fed) c.requires.some c.used_by-used.ensures refl c.is_end-self.ensures c.ended_part.ensures

pub returns-in-Ok-clause-more : goal.returns-in-Ok-clause-more
returns-in-Ok-clause-more c =
    let o = c.requires.open_ in
    let fed = (begun_as c.args.self.now.whole c.args.self.now.reader.decoder o.0 o.1 c.if-self.false o.2.stands).fed in
    let used = used_some c.feed.new.self.decoder o.0 c.args.piece.now c.in-Ok.seen (c.in-Ok.ensures o.0 fed) c.requires.some in
    (omega (arith, used.0, c.used_by-used.ensures), omega (arith, used.1, c.used_by-used.ensures), refl)

pub returns-in-Ok-clause-within : goal.returns-in-Ok-clause-within
returns-in-Ok-clause-within c =
    let o = c.requires.open_ in
    bounded_come c.args.self.now o.0 o.1 c.if-self.false o.2

pub returns-in-Err-clause-comes : goal.returns-in-Err-clause-comes
returns-in-Err-clause-comes c encoding change come =
    let fed = (begun_as c.args.self.now.whole c.args.self.now.reader.decoder encoding change c.if-self.false come.stands).fed in
    faulty c.args.self.now (record { reader = c.feed.new.self; whole = c.args.self.now.whole; taken = c.args.self.now.taken }) encoding c.args.piece.now change c.if-self.false come c.are_bytes.ensures c.in-Err.fault (c.in-Err.ensures encoding fed)
