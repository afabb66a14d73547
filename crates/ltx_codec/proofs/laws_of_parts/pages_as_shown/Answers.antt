use Rattle.ltx_codec.proofs.ReaderLemmas.{whole_none, whole_more, whole_page}
use Rattle.ltx_codec.proofs.FileLemmas.{whole_file}
use Rattle.ltx_codec.proofs.laws_of_parts.pages_as_shown.Goals as goal

pub returns-clause-first : goal.returns-clause-first
returns-clause-first c = whole_none

pub returns-clause-more : goal.returns-clause-more
returns-clause-more c = λ encoding piece change. whole_more change encoding piece

pub returns-clause-next : goal.returns-clause-next
returns-clause-next c = λ decoder limit used number encoding piece change. whole_page decoder limit change encoding piece used number

pub returns-clause-whole : goal.returns-clause-whole
returns-clause-whole c = λ used encoding piece change file. whole_file change encoding piece used file
