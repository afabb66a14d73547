-- The pages of a change, as what is written at each number.
use Rattle.std.proofs.Common.{◌≡◌, ℕ, zero, suc, ◌+◌, Option, Some, None, List, [], ◌∷◌, ◌++◌, refl, sym, ap, ◌∙◌, add-one}
use Rattle.std.specs.Option.{option_map}
use Rattle.lf_sqlite_pages.specs.Writes.{writes_of}
use Rattle.lf_sqlite_pages.specs.declared.page_write.PageWrite.{PageWrite}
use Rattle.lf_sqlite_pages.proofs.Writes.{writes_of-none, writes_of-some}
use Rattle.wal_watch.specs.Frames.{page_in}
use Rattle.wal_watch.specs.News.{change_frame, changed_page, latest_pages, write_in}
use Rattle.wal_watch.proofs.ChangeLemmas.{no_pages, pages_none, pages_push}

writes-none : (page : ℕ → Option (List ℕ)) → writes_of page 0 ≡ []
unfolding writes_of
writes-none page = refl

next-write : (contents : List ℕ) (first n count : ℕ) (frame : Option ℕ) → change_frame contents (count + 1) first n ≡ frame
    → latest_pages contents first n count ≡ writes_of (changed_page contents first n) count → latest_pages contents first n (count + 1) ≡ writes_of (changed_page contents first n) (count + 1)
next-write contents first n count None is before =
    pages_none contents first n count is ∙ before ∙ sym (writes_of-none (changed_page contents first n) count (ap (λ (f : Option ℕ). option_map (page_in contents) f) is))
next-write contents first n count (Some k) is before =
    pages_push contents first n count k is ∙ ap (λ (ws : List PageWrite). ws ++ write_in contents (count + 1) k ∷ []) before
    ∙ sym (writes_of-some (changed_page contents first n) count (page_in contents k) (ap (λ (f : Option ℕ). option_map (page_in contents) f) is))

pub latest-writes : (contents : List ℕ) (first n count : ℕ) → latest_pages contents first n count ≡ writes_of (changed_page contents first n) count
latest-writes contents first n zero = no_pages contents first n ∙ sym (writes-none (changed_page contents first n))
latest-writes contents first n (suc count) =
    ap (λ (m : ℕ). latest_pages contents first n m) (sym (add-one count))
    ∙ next-write contents first n count (change_frame contents (count + 1) first n) refl (latest-writes contents first n count)
    ∙ ap (λ (m : ℕ). writes_of (changed_page contents first n) m) (add-one count)
