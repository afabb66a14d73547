use Rattle.std.proofs.Common.{◌≡◌, ◌≤◌, ℕ, max, vec_len, vec_capacity}
use Rattle.lf_sqlite_pages.specs.BlockTable.{block_at, kept_in}
use Rattle.lf_sqlite_pages.proofs.blocks.table.lengthen.Given as goal

-- so many places, and no other block
abbrev pub invariant-loop-added : goal.invariant-loop-added
invariant-loop-added l = record {
  len : vec_len l.blocks ≡ l._added;
  stop : l._added ≤ max (vec_len l.initial.blocks) l.count;
  same : (n : ℕ) → block_at l.blocks.items n ≡ block_at l.initial.blocks.items n;
  count : kept_in l.blocks.items ≡ kept_in l.initial.blocks.items;
  capacity : vec_capacity l.initial.blocks ≤ vec_capacity l.blocks;
}
