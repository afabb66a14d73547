use Rattle.std.proofs.Common.{refl, ◌∙◌, arith}
use Rattle.http_exchange.proofs.Giving.{more_on, none_more}
use Rattle.http_exchange.proofs.Stops.{end_cause, end_faults, end_turns, end_whole}
use Rattle.http_exchange.proofs.body.read_to_end.Goals as goal

pub reads-init : goal.reads-init
reads-init g c = record {
  empty = c.requires;
  more = none_more g.L.Link c.args.link.now c.args.body.now.items;
  turns = omega arith;
  count = refl;
}

pub reads-preserved : goal.reads-preserved
reads-preserved g c = record {
  empty = c.in-Ok.ensures.empty;
  more = more_on g.L.Link c.args.link.now c.reads.link c.read_more.new.link c.args.body.now.items c.reads.body.items c.read_more.new.held.items c.reads.invariant.more c.in-Ok.ensures.end.0;
  turns = omega (arith, c.in-Ok.ensures.less, c.reads.invariant.turns);
  count = c.in-Ok.ensures.end.1 ∙ c.reads.invariant.count;
}

pub returns-in-Err-clause-whole : goal.returns-in-Err-clause-whole
returns-in-Err-clause-whole g c = rw c.at_end.ensures
    (end_whole g.L.Link c.args.link.now c.reads.link c.read_more.new.link c.args.body.now.items c.reads.body.items c.read_more.new.held.items c.args.limit c.read_more.new.turns c.in-Err.end
    c.reads.invariant.more (omega (arith, c.len.ensures, c.if-len-limit.false)) c.in-Err.ensures.kept c.in-Err.ensures.end)

pub returns-in-Err-clause-cause : goal.returns-in-Err-clause-cause
returns-in-Err-clause-cause g c = rw c.at_end.ensures
    (end_cause g.L.Link c.args.link.now c.reads.link c.read_more.new.link c.args.body.now.items c.reads.body.items c.read_more.new.held.items c.args.limit c.read_more.new.turns c.in-Err.end
    c.reads.invariant.more (omega (arith, c.len.ensures, c.if-len-limit.false)) c.in-Err.ensures.end)

pub returns-in-Err-clause-fault : goal.returns-in-Err-clause-fault
returns-in-Err-clause-fault g c = rw c.at_end.ensures
    (end_faults g.L.Link c.args.link.now c.reads.link c.read_more.new.link c.reads.body.items c.read_more.new.held.items c.read_more.new.turns c.in-Err.end
    c.reads.invariant.count c.in-Err.ensures.end)

pub returns-in-Err-clause-turns : goal.returns-in-Err-clause-turns
returns-in-Err-clause-turns g c = rw c.at_end.ensures
    (end_turns g.L.Link c.reads.link c.read_more.new.link c.reads.body.items c.read_more.new.held.items c.args.turns.now c.read_more.new.turns c.in-Err.end
    (omega (arith, c.read_more.ensures.turns, c.reads.invariant.turns)) c.in-Err.ensures.end)
