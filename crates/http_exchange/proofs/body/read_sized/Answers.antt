use Rattle.std.proofs.Common.{List, ℕ, ◌≤◌, length, refl, subst, ◌∙◌, arith, ap, take, Err}
use Rattle.http_exchange.proofs.Giving.{more_on, none_more}
use Rattle.http_exchange.proofs.Spending.{moves_on, no_move, spent_inside, spent_on}
use Rattle.http_exchange.proofs.Stops.{fewer_ends}
use Rattle.http_exchange.proofs.body.read_sized.Goals as goal

pub reads-init : goal.reads-init
reads-init g c = record {
  empty = c.requires;
  more = none_more g.L.Link c.args.link.now c.args.body.now.items;
  turns = omega arith;
  spent = no_move c.args.turns.now (g.L.Link.moves c.args.link.now);
  count = refl;
}

pub reads-preserved : goal.reads-preserved
reads-preserved g c = record {
  empty = c.in-Ok.ensures.empty;
  more = more_on g.L.Link c.args.link.now c.reads.link c.read_more.new.link c.args.body.now.items c.reads.body.items c.read_more.new.held.items c.reads.invariant.more c.in-Ok.ensures.end.0;
  turns = omega (arith, c.in-Ok.ensures.less, c.reads.invariant.turns);
  spent = moves_on c.args.turns.now (g.L.Link.moves c.args.link.now) c.reads.turns (g.L.Link.moves c.reads.link) c.read_more.new.turns (g.L.Link.moves c.read_more.new.link) c.reads.invariant.spent c.in-Ok.ensures.spent.1;
  count = c.in-Ok.ensures.end.1 ∙ c.reads.invariant.count;
}

pub returns-in-Err-clause-cause : goal.returns-in-Err-clause-cause
returns-in-Err-clause-cause g c = rw c.inside.ensures
    (fewer_ends g.L.Link c.args.link.now c.reads.link c.read_more.new.link c.args.body.now.items c.reads.body.items c.read_more.new.held.items c.args.length c.read_more.new.turns c.in-Err.end
    c.reads.invariant.more c.reads.invariant.count (omega (arith, c.len.ensures, c.reads-test.true)) c.in-Err.ensures.end)

pub returns-in-Err-clause-spent : goal.returns-in-Err-clause-spent
returns-in-Err-clause-spent g c = rw c.inside.ensures
    (spent_inside (Unit {0}) (Unit {0}) c.in-Err.end c.args.turns.now (g.L.Link.moves c.args.link.now) c.read_more.new.turns (g.L.Link.moves c.read_more.new.link)
    (spent_on {T = Unit {0}} (Err c.in-Err.end) c.args.turns.now (g.L.Link.moves c.args.link.now) c.reads.turns (g.L.Link.moves c.reads.link) c.read_more.new.turns (g.L.Link.moves c.read_more.new.link)
    c.reads.invariant.turns c.reads.invariant.spent c.in-Err.ensures.spent))

pub returns-clause-whole : goal.returns-clause-whole
returns-clause-whole g c = (
  record {
    more = c.reads.invariant.more.more;
    gave = c.reads.invariant.more.gave;
    enough = subst (λ (bytes : List ℕ). c.args.length ≤ length bytes) c.reads.invariant.more.behind (omega (arith, c.len.ensures, c.reads-test.false));
  },
  c.truncate.ensures.items ∙ ap (λ (bytes : List ℕ). take c.args.length bytes) c.reads.invariant.more.behind,
)
