use Rattle.std.proofs.Common.{drop}
use Rattle.ltx_backup.specs.Applying.{Ends}
use Rattle.ltx_backup.proofs.restoring.ends.Given as goal

abbrev pub invariant-loop-entry : goal.invariant-loop-entry
invariant-loop-entry l = (Ends l.entries l.txid → Ends (drop l.entry-index l.entries) l.txid) × (Ends (drop l.entry-index l.entries) l.txid → Ends l.entries l.txid)
