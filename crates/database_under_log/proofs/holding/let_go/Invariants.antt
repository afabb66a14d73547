-- The numbers so far were let go.
use Rattle.std.proofs.Common.{◌≡◌, take}
use Rattle.database_under_log.specs.Staying.{without}
use Rattle.database_under_log.proofs.holding.let_go.Given as goal

abbrev pub invariant-loop-n : goal.invariant-loop-n
invariant-loop-n l = record { file : l.file ≡ record l.fn.file { kept = without l.fn.file.kept (take l.n-index l.numbers) } }
