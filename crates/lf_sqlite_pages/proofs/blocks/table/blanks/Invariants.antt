use Rattle.std.proofs.Common.{◌≡◌, ◌-◌, ◌<◌, ◌≤◌, ℕ, max, vec_len}
use Rattle.lf_sqlite_pages.specs.BlockTable.{IsReady}
use Rattle.lf_sqlite_pages.proofs.blocks.table.blanks.Given as goal

-- a blank for each block before n
abbrev pub invariant-loop-n : goal.invariant-loop-n
invariant-loop-n l = record {
  len : vec_len l.ready ≡ l.n - l.from;
  stop : l.n ≤ max l.from l.to;
  ready : (m : ℕ) → l.from ≤ m → m < l.n → IsReady l.blocks l.from l.ready.items m;
}
