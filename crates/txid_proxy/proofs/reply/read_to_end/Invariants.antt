use Rattle.std.proofs.Common.{◌≡◌, ◌≤◌, []}
use Rattle.http_exchange.specs.Reading.{Gave}
use Rattle.txid_proxy.proofs.reply.read_to_end.Given as goal

abbrev pub invariant-reads : goal.invariant-reads
invariant-reads g l = record {
  empty : l.piece ≡ [];
  gave : Gave g.L.Link l.initial.link l.link l.reply.items;
  turns : l.turns ≤ l.initial.turns;
  count : g.L.Link.faults l.link ≡ g.L.Link.faults l.initial.link;
}

abbrev pub decreases-reads : goal.decreases-reads
decreases-reads g l = l.turns
