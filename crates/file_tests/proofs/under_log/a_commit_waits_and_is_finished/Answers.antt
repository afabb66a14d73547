-- A new file fits an image without pages.
use Rattle.std.proofs.Common.{◌≡◌, length, refl, arith}
use Rattle.file_tests.proofs.under_log.a_commit_waits_and_is_finished.Goals as goal

pub prepare_log_write-written-requires-clause-fits : goal.prepare_log_write-written-requires-clause-fits
prepare_log_write-written-requires-clause-fits g c =
    let none : length c.empty-base.result.pages ≡ 0 = rw c.empty-base.ensures refl in
    c.new-file.ensures.fits.fits c.empty-base.result.page_size (length c.empty-base.result.pages) (λ some. absurd (omega (arith, some, none)))
