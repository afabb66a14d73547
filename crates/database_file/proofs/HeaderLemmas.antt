-- The header's size of the file as it reads.
use Rattle.std.proofs.Common.{◌≡◌, ℕ, ◌≤◌, length, List, Option, Some, None, refl, ap, ◌∙◌, arith}
use Rattle.std.specs.Prelude.{IfSome}
use Rattle.lf_sqlite_pages.specs.Image.{DatabaseImage}
use Rattle.lf_sqlite_pages.specs.Header.{header_pages, image_header_pages}
use Rattle.database_file.specs.DatabaseFile.{DatabaseFile, as_read, page_of, count_over}
use Rattle.database_file.proofs.WriteLemmas.{read-at, length-read}

header_of : (file : DatabaseFile) (image : DatabaseImage) → 1 ≤ count_over file (length image.pages) →
    header_pages (page_of file image 1) (count_over file (length image.pages)) ≡ image_header_pages (as_read file image)
header_of file image some = rw (read-at file image 1 (omega arith) some, length-read file image) refl

pub told-header : (told : Option DatabaseImage) (file : DatabaseFile) (commit count : ℕ) (first : List ℕ) → IfSome told (λ i. commit ≡ length i.pages) →
    count ≡ count_over file commit → 1 ≤ count → IfSome told (λ i. first ≡ page_of file i 1) →
    IfSome told (λ i. header_pages first count ≡ image_header_pages (as_read file i))
told-header None file commit count first same is some read = tt
told-header (Some i) file commit count first same is some read =
    let own : count ≡ count_over file (length i.pages) = is ∙ ap (count_over file) same in
    rw (read, own) (header_of file i (rw (← own) some))
