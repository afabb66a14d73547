use Rattle.ltx_backup.proofs.Images.{by_one}
use Rattle.ltx_backup.proofs.laws.a_compaction_changes_no_image.Goals as goal

pub returns : goal.returns
returns c = by_one
