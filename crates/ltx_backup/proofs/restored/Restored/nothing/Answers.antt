use Rattle.ltx_codec.proofs.ChangedSumLemmas.{sum_of_none}
use Rattle.ltx_backup.proofs.restored.Restored.nothing.Goals as goal

pub invariant_of-result : goal.invariant_of-result
invariant_of-result c = record { summed = sum_of_none c.empty.result c.empty.ensures }
