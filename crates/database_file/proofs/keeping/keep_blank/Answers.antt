-- By the lemmas on zeros at one number.
use Rattle.std.proofs.Common.{◌∙◌, ap}
use Rattle.std.specs.FinMap as pages
use Rattle.lf_sqlite_pages.specs.Overlay.{PageOverlay}
use Rattle.database_file.proofs.ZeroLemmas.{blank_others, blank_is, blank_told}
use Rattle.database_file.proofs.keeping.keep_blank.Goals as goal

pub returns-clause-told : goal.returns-clause-told
returns-clause-told g c = blank_told _ _ _ _ _ _ _ c.put.ensures.pages c.requires.blank c.in_ok-same.ensures.same

pub returns-clause-others : goal.returns-clause-others
returns-clause-others g c k ne =
    blank_others _ _ _ k _ _ c.put.ensures.pages ne ∙ (let e = c.in_ok-reserve.ensures.ok in ap (λ (o : PageOverlay). pages.get o.pages k) e)

pub returns-clause-zeros : goal.returns-clause-zeros
returns-clause-zeros g c page is =
    let found = blank_is _ _ _ _ page _ c.put.ensures.pages is in
    (found.0 ∙ c.requires.blank, λ lock. absurd (let was = c.in_ok-same.was in let same = c.is_blank.ensures.lock_page lock in let no = found.1 in cc (was, same, no)))
