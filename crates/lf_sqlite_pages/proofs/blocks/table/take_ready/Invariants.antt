use Rattle.lf_sqlite_pages.specs.BlockTable.{IsFilled}
use Rattle.lf_sqlite_pages.proofs.blocks.table.take_ready.Given as goal

-- the blocks before n are kept
abbrev pub invariant-loop-n : goal.invariant-loop-n
invariant-loop-n l = IsFilled l.initial.blocks l.first l.initial.ready l.from l.n l.blocks l.ready
