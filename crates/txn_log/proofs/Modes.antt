-- The journal mode of a database after a change.
use Rattle.std.proofs.Common.{◌≡◌, inl, inr, ℕ, ◌≤◌, Bool, true, false, eqb, Option, Some, List, [], length, get_or, replicate, sym, ◌∙◌, ap, arith, unwrap_or}
use Rattle.std.specs.Option.{option_map}
use Rattle.std.proofs.lemmas.Bool.{cases_lt, cases_eq}
use Rattle.std.proofs.lemmas.Bool.Decides.{nat_tests}
use Rattle.std.proofs.lemmas.Option.{slice_get-get_or}
use Rattle.lf_sqlite_pages.specs.LockPage.{IsDataPage}
use Rattle.lf_sqlite_pages.specs.Change.{PageChange, written}
use Rattle.lf_sqlite_pages.specs.Image.{DatabaseImage, page_at}
use Rattle.lf_sqlite_pages.specs.Header.{is_wal, image_is_wal}
use Rattle.lf_sqlite_pages.specs.Apply.{apply}
use Rattle.lf_sqlite_pages.proofs.Laws.{page_at-apply, page_after-data}
use Rattle.lf_sqlite_pages.proofs.PageNumbers.{page_at-first}
use Rattle.txn_log.specs.Kept.{IsComplete}
use Rattle.txn_log.specs.Modes.{wal_after}
use Rattle.txn_log.proofs.Puttings.{cases_option}
use Rattle.std.proofs.lemmas.Grind.{common_steps}
use Rattle.std.specs.Prelude.{map}
use Rattle.std.specs.List.{range_with_len}
use Rattle.lf_sqlite_pages.specs.PageSize.{IsPageSize, is_page_size}
use Rattle.lf_sqlite_pages.specs.Apply.{page_after}
use Rattle.lf_sqlite_pages.proofs.LockPages.{page_size-positive, IsDataPage-below}

pub page_size-most : (page_size : ℕ) → IsPageSize page_size → page_size ≤ 65536
unfolding is_page_size
page_size-most page_size is = grind (arith, common_steps, nat_tests)

-- the first page holds data
pub first-data : (page_size : ℕ) → IsPageSize page_size → IsDataPage page_size 1
first-data page_size is = IsDataPage-below page_size 1 (page_size-positive page_size is) (omega (arith, page_size-most page_size is))

pub mode_after : (image : DatabaseImage) (wal : Bool) (change : PageChange) → IsPageSize change.page_size → IsComplete image change → wal ≡ image_is_wal image → wal_after wal change ≡ image_is_wal (apply image change)
mode_after image wal change sized complete is = elim (cases_eq change.commit 0) [
  | inl none ↦
      let test : eqb change.commit 0 ≡ true = grind (arith, nat_tests) in
      let gone : image_is_wal (apply image change) ≡ false =
      ap (λ (c : ℕ). image_is_wal (record { page_size = change.page_size; pages = map (page_after image change) (range_with_len 1 c) })) none in
      rw test (sym gone)
  | inr some ↦
      let test : eqb change.commit 0 ≡ false = grind (arith, nat_tests) in
      let last : 1 ≤ change.commit = omega (arith, some) in
      let data_page : IsDataPage change.page_size 1 = first-data change.page_size sized in
      let there : image_is_wal (apply image change) ≡ is_wal (unwrap_or (written change.pages 1) (unwrap_or (page_at image 1) (replicate change.page_size 0))) =
      ap (λ (o : Option (List ℕ)). is_wal (unwrap_or o [])) (page_at-apply image change 1 (omega arith) last) ∙ ap is_wal (page_after-data image change 1 data_page) in
      rw test (first last data_page ∙ sym there)
]
  where
    first : 1 ≤ change.commit → IsDataPage change.page_size 1 → unwrap_or (option_map is_wal (written change.pages 1)) wal ≡ is_wal (unwrap_or (written change.pages 1) (unwrap_or (page_at image 1) (replicate change.page_size 0)))
    first last data_page = elim (cases_option (written change.pages 1)) [
      | inl none ↦ elim (cases_lt (length image.pages) 1) [
        | inl past ↦ absurd (complete.past 1 past last data_page none)
        | inr within ↦
            let page : List ℕ = get_or image.pages 0 [] in
            let at : page_at image 1 ≡ Some page = page_at-first image 1 (omega arith) ∙ slice_get-get_or image.pages 0 [] (omega (arith, within)) in
            ap (λ (o : Option (List ℕ)). unwrap_or (option_map is_wal o) wal) none
            ∙ is
            ∙ ap (λ (o : Option (List ℕ)). is_wal (unwrap_or o [])) at
            ∙ sym (ap (λ (o : Option (List ℕ)). is_wal (unwrap_or o (unwrap_or (page_at image 1) (replicate change.page_size 0)))) none
            ∙ ap (λ (o : Option (List ℕ)). is_wal (unwrap_or o (replicate change.page_size 0))) at)
      ]
      | inr some ↦
          ap (λ (o : Option (List ℕ)). unwrap_or (option_map is_wal o) wal) some.1
          ∙ sym (ap (λ (o : Option (List ℕ)). is_wal (unwrap_or o (unwrap_or (page_at image 1) (replicate change.page_size 0)))) some.1)
    ]
