use Rattle.std.proofs.Common.{refl, [], List, ℕ}
use Rattle.std.specs.Ordering.{nat_cmp}
use Rattle.std.specs.FinMap.{len-empty}
use Rattle.database_file.specs.DatabaseFile.{new_file}
use Rattle.database_under_log.proofs.KeepLemmas.{clean-agrees, empty_none}
use Rattle.database_under_log.proofs.laws.new_file_agrees.Goals as goal

pub returns : goal.returns
returns c = λ image. clean-agrees new_file image [] empty_none (rw (len-empty nat_cmp (List ℕ)) refl)
