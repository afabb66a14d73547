-- Whether a change alters an image.
use Rattle.std.proofs.Common.{◌≡◌, ℕ, ◌+◌, ◌<◌, ◌≤◌, length, List, [], ◌∷◌, Bool, true, false, inl, inr, Option, Some, None, take, replicate, unwrap_or, refl, sym, ap, ◌∙◌, subst, arith}
use Rattle.std.specs.Prelude.{IfSome, IsTrue, ◌↔◌}
use Rattle.std.specs.Option.{option_or}
use Rattle.std.proofs.lemmas.Bool.{cases_eq}
use Rattle.std.proofs.lemmas.List.{take_all}
use Rattle.lf_sqlite_pages.specs.LockPage.{lock_page_of, IsDataPage}
use Rattle.lf_sqlite_pages.specs.Image.{DatabaseImage, SameImage, IsImage, page_at}
use Rattle.lf_sqlite_pages.specs.Change.{PageChange, written}
use Rattle.lf_sqlite_pages.specs.Apply.{apply, page_after}
use Rattle.lf_sqlite_pages.specs.declared.page_write.PageWrite.{PageWrite}
use Rattle.database_file.specs.WritingParts.{TellsSame}
use Rattle.lf_sqlite_pages.proofs.Laws.{length-apply, page_at-apply, page_after-data, page_after-lock_page}
use Rattle.database_file.proofs.DifferenceLemmas.{same-all, page-there}
use Rattle.database_file.proofs.KeptLemmas.{written-append, written-one, written-one_other, or_none}
use Rattle.database_under_log.proofs.OverLemmas.{at-pages}
use Rattle.database_under_log.proofs.ToldSteps.{IsWrite}

-- the first writes of a change are the image's pages
abbrev pub AreThere : PageChange → ℕ → DatabaseImage → Type 0
AreThere change at image = (n : ℕ) (page : List ℕ) → written (take at change.pages) n ≡ Some page → page_at image n ≡ Some page

pub there-none : (change : PageChange) (image : DatabaseImage) → AreThere change 0 image
there-none change image n page is = absurd cc

there-more : (change : PageChange) (at : ℕ) (image : DatabaseImage) (w : PageWrite) → IsWrite change at w → page_at image w.number ≡ Some w.bytes → AreThere change at image → AreThere change (at + 1) image
there-more change at image w is own there n page wrote = elim (cases_eq n w.number) [
  | inl here ↦ here_is (written (take at change.pages) n) refl (sym (ap (λ (ws : List PageWrite). written ws n) is.next ∙ written-append (take at change.pages) (w ∷ []) n) ∙ wrote) here
  | inr apart ↦ there n page (sym (ap (λ (ws : List PageWrite). written ws n) is.next ∙ written-append (take at change.pages) (w ∷ []) n
      ∙ ap (λ (o : Option (List ℕ)). option_or (written (take at change.pages) n) o) (written-one_other w.number n (Some w.bytes) apart) ∙ or_none (written (take at change.pages) n)) ∙ wrote)
] where
  here_is : (o : Option (List ℕ)) → written (take at change.pages) n ≡ o → option_or o (written (w ∷ []) n) ≡ Some page → n ≡ w.number → page_at image n ≡ Some page
  here_is (Some q) e some same = there n page (e ∙ some)
  here_is None e some same = ap (page_at image) same ∙ own ∙ sym (written-one w.number (Some w.bytes)) ∙ ap (written (w ∷ [])) (sym same) ∙ some

same-there : (change : PageChange) (image : DatabaseImage) → IsImage image → change.commit ≡ length image.pages → (0 < length image.pages → image.page_size ≡ change.page_size) →
    ((n : ℕ) (page : List ℕ) → written change.pages n ≡ Some page → page_at image n ≡ Some page) → SameImage (apply image change) image
same-there change image valid count size there = same-all (apply image change) image (length-apply image change ∙ count)
    (λ n low high.
    let within : n ≤ change.commit = omega (arith, high, length-apply image change) in
    let inside : n ≤ length image.pages = omega (arith, within, count) in
    let own : image.page_size ≡ change.page_size = size (omega (arith, low, inside)) in
    elim (cases_eq n (lock_page_of change.page_size)) [
      | inl lock ↦
          page_at-apply image change n low within ∙ ap Some (ap (page_after image change) lock ∙ page_after-lock_page image change)
          ∙ sym (ap (page_at image) lock ∙ subst (λ (s : ℕ). lock_page_of s ≤ length image.pages → page_at image (lock_page_of s) ≡ Some (replicate s 0)) own valid.blank (omega (arith, lock, inside)))
      | inr data_page ↦
          page_at-apply image change n low within ∙ ap Some (page_after-data image change n data_page)
          ∙ by n low inside (written change.pages n) refl
    ]) where
      by : (n : ℕ) → 1 ≤ n → n ≤ length image.pages → (o : Option (List ℕ)) → written change.pages n ≡ o → Some (unwrap_or (written change.pages n) (unwrap_or (page_at image n) (replicate change.page_size 0))) ≡ page_at image n
      by n low inside (Some page) e = ap (λ (o : Option (List ℕ)). Some (unwrap_or o (unwrap_or (page_at image n) (replicate change.page_size 0)))) e ∙ sym (there n page e)
      by n low inside None e =
          let own = page-there image n low inside in
          ap (λ (o : Option (List ℕ)). Some (unwrap_or o (unwrap_or (page_at image n) (replicate change.page_size 0)))) e
          ∙ ap (λ (o : Option (List ℕ)). Some (unwrap_or o (replicate change.page_size 0))) own.1 ∙ sym own.1

-- where the image is told
pub told-more : (told here : Option DatabaseImage) (change : PageChange) (at : ℕ) (w : PageWrite) (same : Bool) → here ≡ told → IsWrite change at w → TellsSame here w.number w.bytes same → same ≡ true →
    IfSome told (AreThere change at) → IfSome told (AreThere change (at + 1))
told-more None here change at w same stays is tells on there = tt
told-more (Some i) here change at w same stays is tells on there =
    there-more change at i w is ((subst (λ (o : Option DatabaseImage). TellsSame o w.number w.bytes same) stays tells).0 on) there

pub told-none : (told : Option DatabaseImage) (change : PageChange) → IfSome told (AreThere change 0)
told-none None change = tt
told-none (Some i) change = there-none change i

pub told-same : (told : Option DatabaseImage) (change : PageChange) (page_size commit at : ℕ) → IfSome told IsImage → IfSome told (λ i. page_size ≡ i.page_size) → IfSome told (λ i. commit ≡ length i.pages) →
    change.commit ≡ commit → (0 < commit → page_size ≡ change.page_size) → length change.pages ≤ at → IfSome told (AreThere change at) →
    IfSome told (λ i. IsTrue true ↔ SameImage (apply i change) i)
told-same None change page_size commit at valid t1 t2 count size end there = tt
told-same (Some i) change page_size commit at valid t1 t2 count size end there = (
  λ on. same-there change i valid (count ∙ t2) (λ some. sym t1 ∙ size (omega (arith, some, t2)))
      (λ n page is. there n page (ap (λ (ws : List PageWrite). written ws n) (take_all at change.pages end) ∙ is)),
  λ alike. refl,
)

pub told-other : (told here : Option DatabaseImage) (change : PageChange) (at : ℕ) (w : PageWrite) (same : Bool) → here ≡ told → IsWrite change at w → w.number ≤ change.commit → IsDataPage change.page_size w.number →
    TellsSame here w.number w.bytes same → same ≡ false → IfSome told (λ i. IsTrue false ↔ SameImage (apply i change) i)
told-other None here change at w same stays is high data_page tells off = tt
told-other (Some i) here change at w same stays is high data_page tells off = (
  λ never. absurd cc,
  λ alike. absurd (
      let after : page_at (apply i change) w.number ≡ Some w.bytes =
      page_at-apply i change w.number is.first high
      ∙ ap Some (page_after-data i change w.number data_page ∙ ap (λ (o : Option (List ℕ)). unwrap_or o (unwrap_or (page_at i w.number) (replicate change.page_size 0))) is.wrote) in
      (subst (λ (o : Option DatabaseImage). TellsSame o w.number w.bytes same) stays tells).1 off (sym (at-pages (apply i change) i w.number alike) ∙ after)),
)

pub told-count : (told : Option DatabaseImage) (change : PageChange) (commit : ℕ) → IfSome told (λ i. commit ≡ length i.pages) → (change.commit ≡ commit → ⊥) →
    IfSome told (λ i. IsTrue false ↔ SameImage (apply i change) i)
told-count None change commit t2 other = tt
told-count (Some i) change commit t2 other = (
  λ never. absurd cc,
  λ alike. absurd (other (sym (length-apply i change) ∙ ap (λ (ps : List (List ℕ)). length ps) alike ∙ sym t2)),
)
