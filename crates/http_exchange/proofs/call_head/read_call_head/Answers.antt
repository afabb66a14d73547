use Rattle.std.proofs.Common.{List, ℕ, Err, refl, subst, sym, ◌∙◌, arith}
use Rattle.http_exchange.specs.declared.call_head.CallHead.{CallHead}
use Rattle.http_exchange.specs.Called.{end_by, IsHeadPart, RefusesHead}
use Rattle.http_exchange.specs.Reading.{Gave}
use Rattle.http_exchange.proofs.Calls.{call_head_ended, call_refused, unheard}
use Rattle.http_exchange.proofs.Giving.{all_on, gave_none}
use Rattle.http_exchange.proofs.Spending.{moves_on, no_move, spent_so_far}
use Rattle.http_exchange.proofs.call_head.read_call_head.Goals as goal

pub reads-init : goal.reads-init
reads-init g c = record {
  empty = c.requires.empty;
  gave = subst (λ (bytes : List ℕ). Gave g.L.Link c.args.link.now c.args.link.now bytes) (sym c.requires.none) (gave_none g.L.Link c.args.link.now);
  turns = omega arith;
  spent = no_move c.args.turns.now (g.L.Link.moves c.args.link.now);
  count = refl;
}

pub reads-preserved : goal.reads-preserved
reads-preserved g c = record {
  empty = c.in-Ok.ensures.empty;
  gave = all_on g.L.Link c.args.link.now c.reads.link c.read_more.new.link c.reads.held.items c.read_more.new.held.items c.reads.invariant.gave c.in-Ok.ensures.end.0;
  turns = omega (arith, c.in-Ok.ensures.less, c.reads.invariant.turns);
  spent = moves_on c.args.turns.now (g.L.Link.moves c.args.link.now) c.reads.turns (g.L.Link.moves c.reads.link) c.read_more.new.turns (g.L.Link.moves c.read_more.new.link) c.reads.invariant.spent c.in-Ok.ensures.spent.1;
  count = c.in-Ok.ensures.end.1 ∙ c.reads.invariant.count;
}

pub returns-in-Err-clause-cause : goal.returns-in-Err-clause-cause
returns-in-Err-clause-cause g c = rw c.end_by.ensures
    (unheard CallHead (g.L.Link.left c.args.link.now) (g.L.Link.left c.reads.link) c.reads.held.items (g.L.Link.faults c.args.link.now) (g.L.Link.faults c.reads.link) c.reads.turns (end_by c.in-Err.fault)
    c.reads.invariant.gave.left
    (subst (λ (bytes : List ℕ). RefusesHead bytes (end_by c.in-Err.fault)) c.as_slice.ensures.value (call_refused c.as_slice.result.now c.in-Err.fault c.in-Err.ensures))
    c.reads.invariant.count)

pub returns-in-Err-clause-spent : goal.returns-in-Err-clause-spent
returns-in-Err-clause-spent g c =
    spent_so_far {T = CallHead} (Err c.end_by.result) c.args.turns.now (g.L.Link.moves c.args.link.now) c.reads.turns (g.L.Link.moves c.reads.link) c.reads.invariant.turns c.reads.invariant.spent

pub returns-in-Err-read_more-clause-cause : goal.returns-in-Err-read_more-clause-cause
returns-in-Err-read_more-clause-cause g c = rw c.end_behind.ensures
    (call_head_ended CallHead g.L.Link c.args.link.now c.reads.link c.read_more.new.link c.reads.held.items c.read_more.new.held.items c.read_more.new.held.items c.read_more.new.turns c.in-Err-read_more.end
    c.in-Err-read_more.ensures.kept c.reads.invariant.gave c.reads.invariant.count
    (subst IsHeadPart c.as_slice.ensures.value (let part = rw c.in-Ok-Part.field-0-is at c.in-Ok-Part.ensures in (part.0, part.1))) c.in-Err-read_more.ensures.end)
