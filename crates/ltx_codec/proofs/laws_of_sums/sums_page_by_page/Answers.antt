use Rattle.ltx_codec.proofs.SumLaws.{image_sum-table, image_sum-between}
use Rattle.ltx_codec.proofs.laws_of_sums.sums_page_by_page.Goals as goal

pub returns-clause-table : goal.returns-clause-table
returns-clause-table c = image_sum-table

pub returns-clause-between : goal.returns-clause-between
returns-clause-between c = image_sum-between
