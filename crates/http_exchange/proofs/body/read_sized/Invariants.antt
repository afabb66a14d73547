use Rattle.std.proofs.Common.{◌≡◌, ◌≤◌, []}
use Rattle.link_session.specs.Spending.{Moves}
use Rattle.http_exchange.specs.Reading.{GaveMore}
use Rattle.http_exchange.proofs.body.read_sized.Given as goal

abbrev pub invariant-reads : goal.invariant-reads
invariant-reads g l = record {
  empty : l.piece ≡ [];
  more : GaveMore g.L.Link l.initial.link l.link l.initial.body.items l.body.items;
  turns : l.turns ≤ l.initial.turns;
  spent : Moves l.initial.turns (g.L.Link.moves l.initial.link) l.turns (g.L.Link.moves l.link);
  count : g.L.Link.faults l.link ≡ g.L.Link.faults l.initial.link;
}

abbrev pub decreases-reads : goal.decreases-reads
decreases-reads g l = l.turns
