use Rattle.std.proofs.Common.{◌≡◌, ◌≤◌, ◌+◌, ◌*◌, ◌++◌, length}
use Rattle.httparse.specs.Grammar.{HasNoResponse}
use Rattle.http_exchange.specs.Reading.{Gave}
use Rattle.backup_link.proofs.head_reading.read_head.Given as goal

-- what came is less than a head, and what was read ahead of it
abbrev pub invariant-bytes : goal.invariant-bytes
invariant-bytes g l = record {
  none : HasNoResponse l.head.items;
  gave : Gave g.L.Link l.initial.link l.link (l.head.items ++ l.piece);
  turns : l.turns ≤ l.initial.turns;
  count : g.L.Link.faults l.link ≡ g.L.Link.faults l.initial.link;
}

abbrev pub decreases-bytes : goal.decreases-bytes
decreases-bytes g l = length l.piece + l.turns * 65536
