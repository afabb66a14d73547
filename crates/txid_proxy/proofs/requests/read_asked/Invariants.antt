use Rattle.std.proofs.Common.{◌≡◌, ◌≤◌, []}
use Rattle.http_exchange.specs.Reading.{Gave}
use Rattle.link_session.specs.Spending.{Moves}
use Rattle.txid_proxy.proofs.requests.read_asked.Given as goal

abbrev pub invariant-reads : goal.invariant-reads
invariant-reads g l = record {
  empty : l.piece ≡ [];
  gave : Gave g.L.Link l.initial.link l.link l.held.items;
  turns : l.turns ≤ l.initial.turns;
  spent : Moves l.initial.turns (g.L.Link.moves l.initial.link) l.turns (g.L.Link.moves l.link);
  count : g.L.Link.faults l.link ≡ g.L.Link.faults l.initial.link;
}

abbrev pub decreases-reads : goal.decreases-reads
decreases-reads g l = l.turns
