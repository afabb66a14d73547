use Rattle.std.proofs.Common.{◌≡◌, ◌∙◌, inl, true, refl, sym}
use Rattle.std.proofs.lemmas.Bool.{false≢true}
use Rattle.ltx_backup.proofs.Makings.{makes_one}
use Rattle.ltx_backup.proofs.target.applied.Goals as goal

pub returns-then-not-fits-clause-makes : goal.returns-then-not-fits-clause-makes
returns-then-not-fits-clause-makes c = (refl, inl (refl, refl, λ fits. let yes : c.fits.result ≡ true = c.fits.ensures.1 fits in false≢true (sym c.if-not-fits.true ∙ yes)))

pub returns-in-Ok-clause-makes : goal.returns-in-Ok-clause-makes
returns-in-Ok-clause-makes c = makes_one c.args.level c.args.before c.in-Ok.next c.args.file (c.fits.ensures.0 c.if-not-fits.false) c.in-Ok.ensures.image c.in-Ok.ensures.post
