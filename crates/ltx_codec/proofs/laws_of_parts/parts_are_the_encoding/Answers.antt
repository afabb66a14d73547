use Rattle.ltx_codec.proofs.PartLaws.{started, page_added, finished}
use Rattle.ltx_codec.proofs.laws_of_parts.parts_are_the_encoding.Goals as goal

pub returns-clause-start : goal.returns-clause-start
returns-clause-start c = started

pub returns-clause-page : goal.returns-clause-page
returns-clause-page c = page_added

pub returns-clause-finish : goal.returns-clause-finish
returns-clause-finish c = finished
