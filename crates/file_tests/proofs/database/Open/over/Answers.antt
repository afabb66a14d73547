-- A new file fits each shape.
use Rattle.file_tests.proofs.database.Open.over.Goals as goal

pub returns : goal.returns
returns g c = c.new.ensures.fits.fits _ _ (λ some. c.commit-commit.ensures.sized (rw c.commit-commit.ensures.value some))
