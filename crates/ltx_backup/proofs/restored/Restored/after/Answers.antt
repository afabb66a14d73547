use Rattle.std.proofs.Common.{◌∙◌, ap}
use Rattle.page_checksum.specs.Sums.{flagged}
use Rattle.ltx_codec.specs.Sums.{joined_sums}
use Rattle.lf_sqlite_pages.specs.Writes.{data_writes}
use Rattle.ltx_codec.proofs.SumLemmas.{flagged-twice}
use Rattle.ltx_backup.proofs.restored.Restored.after.Goals as goal

pub sum_after-requires-clause-sum : goal.sum_after-requires-clause-sum
sum_after-requires-clause-sum c = ap flagged c.args.self.summed ∙ flagged-twice (joined_sums (data_writes c.args.self.image))
