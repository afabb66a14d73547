-- Pages by number.
use Rattle.std.proofs.Common.{◌≡◌, ℕ, ◌+◌, ◌-◌, ◌<◌, ◌≤◌, false, eqb, None, refl, ap, ◌∙◌, arith, length}
use Rattle.std.specs.List.{slice_get}
use Rattle.std.proofs.lemmas.Bool.Decides.{nat_tests}
use Rattle.std.proofs.lemmas.Option.{slice_get_past}
use Rattle.lf_sqlite_pages.specs.Image.{DatabaseImage, page_at}

-- there is no page 0
pub page_at-zero : (image : DatabaseImage) → page_at image 0 ≡ None
page_at-zero image = refl

-- a page by its number
pub page_at-first : (image : DatabaseImage) (n : ℕ) → 1 ≤ n → page_at image n ≡ slice_get image.pages (n - 1)
page_at-first image n first =
    let test : eqb n 0 ≡ false = grind (arith, nat_tests) in
    rw test refl

-- a page by its place in the list
pub page_at-next : (image : DatabaseImage) (i : ℕ) → page_at image (i + 1) ≡ slice_get image.pages i
page_at-next image i =
    let back : i + 1 - 1 ≡ i = omega arith in
    page_at-first image (i + 1) (omega arith) ∙ ap (slice_get image.pages) back

-- there is no page past the last
pub page_at-past : (image : DatabaseImage) (n : ℕ) → length image.pages < n → page_at image n ≡ None
page_at-past image n past = page_at-first image n (omega arith) ∙ slice_get_past image.pages (n - 1) (omega arith)
