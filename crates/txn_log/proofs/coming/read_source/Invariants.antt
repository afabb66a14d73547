use Rattle.std.proofs.Common.{◌≡◌, ◌-◌, length}
use Rattle.txn_log.proofs.Comings.{ReadSome}
use Rattle.txn_log.proofs.coming.read_source.Given as goal

-- some bytes of the source were taken, which never failed
abbrev pub invariant-pieces : goal.invariant-pieces
invariant-pieces g l = record {
  some : ReadSome l.coming (g.S.Source.left l.fn.source) (g.S.Source.left l.source);
  faults : g.S.Source.faults l.source ≡ g.S.Source.faults l.fn.source;
  room : length l.page ≡ 65536;
}

abbrev pub decreases-pieces : goal.decreases-pieces
decreases-pieces g l = 4294967297 - l.coming.taken
