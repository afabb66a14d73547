use Rattle.std.proofs.Common.{◌≤◌, min, vec_len, vec_capacity}
use Rattle.lf_sqlite_pages.specs.BlockTable.{IsReleased}
use Rattle.lf_sqlite_pages.proofs.blocks.table.release.Given as goal

-- the last blocks were given up
abbrev pub invariant-loop-blocks : goal.invariant-loop-blocks
invariant-loop-blocks l = record {
  low : min l.count (vec_len l.initial.blocks) ≤ vec_len l.blocks;
  high : vec_len l.blocks ≤ vec_len l.initial.blocks;
  released : IsReleased l.initial.blocks.items l.first l.initial.ready (vec_len l.blocks) l.blocks.items l.ready;
  capacity : vec_capacity l.initial.blocks ≤ vec_capacity l.blocks;
}

abbrev pub decreases-loop-blocks : goal.decreases-loop-blocks
decreases-loop-blocks l = vec_len l.blocks
