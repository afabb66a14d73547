use Rattle.std.proofs.Common.{◌<◌, ◌-◌, length, ap, ◌∙◌, arith}
use Rattle.link_session.proofs.Spending.{one_move}
use Rattle.http_exchange.proofs.Overs.{none_behind, passed_on}
use Rattle.http_exchange.proofs.passing.pass_over.Goals as goal

pub reads-preserved : goal.reads-preserved
reads-preserved g c =
    let some : 0 < length c.refill.new.self = omega (arith, ap length c.unread-came.ensures, c.if-came-eq0.false) in
    record {
      empty = none_behind c.unread-came.result.now c.refill.new.self c.skip.new.self c.unread-came.ensures c.skip.ensures;
      came = passed_on g.L.Link c.args.link.now c.reads.link c.refill.new.link c.args.behind.now c.refill.new.self c.args.length c.reads.left c.saturating_sub-left-in-reads.result c.reads.invariant.came
          (record { left = c.refill.ensures.bytes; given = c.in-Ok-refill.ensures.given; taken = c.refill.ensures.taken })
          (c.saturating_sub-left-in-reads.ensures ∙ ap (λ bytes. c.reads.left - length bytes) c.unread-came.ensures);
      turns = omega (arith, c.in-Ok.ensures.taken, c.reads.invariant.turns);
      spent = one_move c.args.turns.now (g.L.Link.moves c.args.link.now) c.reads.turns (g.L.Link.moves c.reads.link) c.take.new.self (g.L.Link.moves c.refill.new.link) (length c.refill.new.self)
          c.reads.invariant.spent c.in-Ok.ensures.taken some c.in-Ok-refill.ensures.moves;
      count = c.in-Ok-refill.ensures.cause ∙ c.reads.invariant.count;
    }
