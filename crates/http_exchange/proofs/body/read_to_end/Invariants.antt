use Rattle.std.proofs.Common.{◌≡◌, ◌≤◌, []}
use Rattle.http_exchange.specs.Reading.{GaveMore}
use Rattle.http_exchange.proofs.body.read_to_end.Given as goal

abbrev pub invariant-reads : goal.invariant-reads
invariant-reads g l = record {
  empty : l.piece ≡ [];
  more : GaveMore g.L.Link l.initial.link l.link l.initial.body.items l.body.items;
  turns : l.turns ≤ l.initial.turns;
  count : g.L.Link.faults l.link ≡ g.L.Link.faults l.initial.link;
}

abbrev pub decreases-reads : goal.decreases-reads
decreases-reads g l = l.turns
