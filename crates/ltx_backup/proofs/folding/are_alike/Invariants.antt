use Rattle.std.proofs.Common.{◌↔◌, drop}
use Rattle.ltx_backup.specs.Moving.{AreAlike}
use Rattle.ltx_backup.proofs.folding.are_alike.Given as goal

abbrev pub invariant-loop-entry : goal.invariant-loop-entry
invariant-loop-entry l = AreAlike l.size l.entries ↔ AreAlike l.size (drop l.entry-index l.entries)
