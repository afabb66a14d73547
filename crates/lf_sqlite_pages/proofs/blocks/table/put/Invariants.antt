use Rattle.std.proofs.Common.{◌≡◌, ◌+◌, ◌-◌, ◌≤◌, length, drop}
use Rattle.lf_sqlite_pages.specs.BlockTable.{IsPut}
use Rattle.lf_sqlite_pages.proofs.blocks.table.put.Given as goal

-- the bytes before the place were put
abbrev pub invariant-loop-rest : goal.invariant-loop-rest
invariant-loop-rest l = record {
  from : l.at ≤ l.place;
  to : l.place + length l.rest ≡ l.at + length l.bytes;
  rest : l.rest ≡ drop (l.place - l.at) l.bytes;
  put : IsPut l.initial.blocks l.at l.place l.bytes l.blocks;
}

abbrev pub decreases-loop-rest : goal.decreases-loop-rest
decreases-loop-rest l = length l.rest
