use Rattle.std.proofs.Common.{List, ℕ, refl, subst, sym, ◌∙◌, arith}
use Rattle.http_exchange.specs.Reading.{Gave}
use Rattle.stream_wire.specs.Head.{NeverTakesResponse}
use Rattle.http_exchange.specs.Reply.{in_head, no_head, IsShort}
use Rattle.http_exchange.proofs.Giving.{all_on, gave_none}
use Rattle.http_exchange.proofs.Stops.{faults_by, head_untold, turns_by}
use Rattle.http_exchange.proofs.Replies.{refused}
use Rattle.http_exchange.proofs.reply_head.read_reply_head.Goals as goal

pub reads-init : goal.reads-init
reads-init g c = record {
  empty = c.requires.empty;
  gave = subst (λ (bytes : List ℕ). Gave g.L.Link c.args.link.now c.args.link.now bytes) (sym c.requires.none) (gave_none g.L.Link c.args.link.now);
  turns = omega arith;
  count = refl;
}

pub reads-preserved : goal.reads-preserved
reads-preserved g c = record {
  empty = c.in-Ok.ensures.empty;
  gave = all_on g.L.Link c.args.link.now c.reads.link c.read_more.new.link c.reads.held.items c.read_more.new.held.items c.reads.invariant.gave c.in-Ok.ensures.end.0;
  turns = omega (arith, c.in-Ok.ensures.less, c.reads.invariant.turns);
  count = c.in-Ok.ensures.end.1 ∙ c.reads.invariant.count;
}

pub returns-in-Err-clause-untold : goal.returns-in-Err-clause-untold
returns-in-Err-clause-untold g c = λ terms.
    record {
      more = c.reads.held.items;
      gave = c.reads.invariant.gave;
      why_is = no_head (subst NeverTakesResponse c.as_slice.ensures.value (refused c.as_slice.result.now c.in-Err.field-0 c.in-Err.ensures));
    }

pub returns-in-Err-read_more-clause-untold : goal.returns-in-Err-read_more-clause-untold
returns-in-Err-read_more-clause-untold g c = rw c.untold_by.ensures
    (λ terms. head_untold g.L.Link terms c.args.link.now c.reads.link c.read_more.new.link c.reads.held.items c.read_more.new.held.items c.read_more.new.turns c.in-Err-read_more.end
    c.reads.invariant.gave (subst (λ (bytes : List ℕ). IsShort terms bytes) c.as_slice.ensures.value (let part = rw c.in-Ok-Part.field-0-is at c.in-Ok-Part.ensures in in_head part.0 part.1)) c.in-Err-read_more.ensures.end)

pub returns-in-Err-read_more-clause-fault : goal.returns-in-Err-read_more-clause-fault
returns-in-Err-read_more-clause-fault g c = rw c.untold_by.ensures
    (faults_by g.L.Link c.args.link.now c.reads.link c.read_more.new.link c.reads.held.items c.read_more.new.held.items c.read_more.new.turns c.in-Err-read_more.end
    c.reads.invariant.count c.in-Err-read_more.ensures.end)

pub returns-in-Err-read_more-clause-turns : goal.returns-in-Err-read_more-clause-turns
returns-in-Err-read_more-clause-turns g c = rw c.untold_by.ensures
    (turns_by g.L.Link c.reads.link c.read_more.new.link c.reads.held.items c.read_more.new.held.items c.args.turns.now c.read_more.new.turns c.in-Err-read_more.end
    (omega (arith, c.read_more.ensures.turns, c.reads.invariant.turns)) c.in-Err-read_more.ensures.end)
