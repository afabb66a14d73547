-- A change leads from one image to the next.
use Rattle.std.proofs.Common.{◌≡◌, ℕ, ◌<◌, ◌^◌, Some, List, [], length, subst, sym, ap, ◌∙◌, arith}
use Rattle.std.specs.List.{All}
use Rattle.std.proofs.lemmas.List.Elements.{All-nil}
use Rattle.lf_sqlite_pages.specs.LockPage.{lock_page_of}
use Rattle.lf_sqlite_pages.specs.Change.{PageChange, IsChange}
use Rattle.lf_sqlite_pages.specs.Image.{DatabaseImage, IsImage}
use Rattle.lf_sqlite_pages.specs.Apply.{Fits, apply}
use Rattle.lf_sqlite_pages.proofs.Applying.{apply-by_steps, whole-resized}
use Rattle.lf_sqlite_pages.proofs.PlacingLemmas.{whole-kept, whole-overwritten}
use Rattle.lf_sqlite_pages.proofs.LockPages.{lock_page-first}
use Rattle.lf_sqlite_pages.proofs.Laws.{length-apply, page_at-apply, page_after-lock_page}

-- each page has the page size afterwards
pub whole-apply : (image : DatabaseImage) (change : PageChange) → IsImage image → IsChange change → Fits image change →
    All (λ page. length page ≡ change.page_size) (apply image change).pages
whole-apply image change whole valid fits =
    let P : List (List ℕ) → Type 0 = λ pages. All (λ page. length page ≡ change.page_size) pages in
    subst P (apply-by_steps image change whole valid fits)
    (whole-overwritten change.page_size _ change.pages
    (whole-resized _ change.page_size change.commit (whole-kept image.page_size change.page_size image.pages whole.whole))
    valid.whole)

-- an image without pages and without a page size
pub IsImage-no_pages : (pages : List (List ℕ)) → pages ≡ [] → IsImage (record { page_size = 0; pages = pages })
IsImage-no_pages pages none = rw none record {
  sized = λ some. absurd (omega (arith, some));
  of_a_page_size = λ some. absurd (omega (arith, some));
  whole = All-nil (λ page. length page ≡ 0);
  blank = λ within. absurd (omega (arith, within, lock_page-first 0));
  numbered = omega arith;
}

-- what a change makes of an image is an image
pub IsImage-apply : (image : DatabaseImage) (change : PageChange) → IsImage image → IsChange change → Fits image change → change.commit < 2 ^ 32 →
    IsImage (apply image change)
IsImage-apply image change whole valid fits few = record {
  sized = λ _. valid.of_a_page_size;
  of_a_page_size = λ _. valid.of_a_page_size;
  whole = whole-apply image change whole valid fits;
  blank = λ within.
      page_at-apply image change (lock_page_of change.page_size) (lock_page-first change.page_size) (rw length-apply at within)
      ∙ ap Some (page_after-lock_page image change);
  numbered = rw length-apply few;
}

-- the same of an image that is read as another
pub IsImage-made : (inside seen made : DatabaseImage) (change : PageChange) → IsImage inside → inside ≡ seen → IsChange change → Fits seen change →
    change.commit < 2 ^ 32 → made ≡ apply seen change → IsImage made
IsImage-made inside seen made change whole same valid fits few is =
    let P : DatabaseImage → Type 0 = λ image. IsImage image in
    subst P (sym is) (IsImage-apply seen change (subst P same whole) valid fits few)
