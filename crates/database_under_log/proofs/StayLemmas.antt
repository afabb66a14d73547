-- The file stays as it reads, page by page.
use Rattle.std.proofs.Common.{◌≡◌, ◌≢◌, ℕ, ◌<◌, ◌≤◌, ◌&&◌, ◌||◌, length, List, [], ◌∷◌, ◌++◌, Bool, true, false, inl, inr, Option, Some, None, replicate, unwrap_or, refl, sym, ap, ◌∙◌, subst, arith, if◌then◌else◌}
use Rattle.std.specs.Prelude.{◌==◌, is_some, IsSome}
use Rattle.std.specs.Str.{bytes_eq}
use Rattle.std.specs.FinMap as pages
use Rattle.std.proofs.lemmas.Bool.{cases_eq, cases_lt, cases_Bool, cond-false, ne_eqb}
use Rattle.std.proofs.lemmas.Slice.Eq.{bytes_eq-Decides}
use Rattle.lf_sqlite_pages.specs.LockPage.{lock_page_of, IsDataPage}
use Rattle.lf_sqlite_pages.specs.Image.{DatabaseImage, IsImage, page_at}
use Rattle.lf_sqlite_pages.specs.Change.{PageChange, written}
use Rattle.lf_sqlite_pages.specs.Apply.{apply, page_after}
use Rattle.lf_sqlite_pages.proofs.Laws.{page_at-apply, page_after-data, page_after-lock_page}
use Rattle.lf_sqlite_pages.proofs.LockPages.{lock_page-first}
use Rattle.lf_sqlite_pages.proofs.PageNumbers.{page_at-past}
use Rattle.database_file.specs.DatabaseFile.{DatabaseFile, FitsShape, KeepsDifferences, size_over, size_of, page_of}
use Rattle.database_file.specs.WritingParts.{Pages}
use Rattle.database_file.proofs.DifferenceLemmas.{lock-kept, page-there}
use Rattle.database_file.proofs.PutLemmas.{get-inserted, get-inserted_other}
use Rattle.database_under_log.specs.Staying.{without}
use Rattle.database_under_log.specs.HoldingParts.{among, is_left, StaysAt, ReadsOn}
use Rattle.database_under_log.proofs.HoldLemmas.{get-without, get-in, get-off, among-end, among-more, not-more}

-- a page that the change doesn't write, within both sizes
pub lock-zeros : (file : DatabaseFile) (image : DatabaseImage) (size : ℕ) → FitsShape file image.page_size (length image.pages) → IsImage image → size_of file image ≡ size →
    page_of file image (lock_page_of size) ≡ replicate size 0
lock-zeros file image size fits valid is =
    let n : ℕ = lock_page_of size in
    let kept : pages.get file.kept n ≡ None = subst (λ (s : ℕ). pages.get file.kept (lock_page_of s) ≡ None) is (lock-kept file image.page_size (length image.pages) fits) in
    let P : Option (List ℕ) → ℕ → Type 0 = λ o s. unwrap_or o (unwrap_or (page_at image n) (replicate s 0)) ≡ replicate size 0 in
    subst (λ (o : Option (List ℕ)). P o (size_of file image)) (sym kept) (subst (P None) (sym is) (elim (cases_lt (length image.pages) n) [
      | inl past ↦ ap (λ (o : Option (List ℕ)). unwrap_or o (replicate size 0)) (page_at-past image n past)
      | inr within ↦
          let some : 0 < length image.pages = omega (arith, within, lock_page-first size) in
          let own : image.page_size ≡ size = sized file image some ∙ is in
          ap (λ (o : Option (List ℕ)). unwrap_or o (replicate size 0))
          (subst (λ (s : ℕ). lock_page_of s ≤ length image.pages → page_at image (lock_page_of s) ≡ Some (replicate s 0)) own valid.blank within)
    ])) where
      sized : (f : DatabaseFile) (i : DatabaseImage) → 0 < length i.pages → i.page_size ≡ size_of f i
      sized f i some = elim (cases_eq (length i.pages) 0) [
        | inl none ↦ absurd (omega (arith, none, some))
        | inr other ↦ let test : (length i.pages == 0) ≡ false = ne_eqb (length i.pages) 0 other in sym (cond-false (length i.pages == 0) f.page_size i.page_size test)
      ]

pub unwritten : (file : DatabaseFile) (image : DatabaseImage) (change : PageChange) (n : ℕ) → FitsShape file image.page_size (length image.pages) → KeepsDifferences file image → IsImage image →
    size_of file image ≡ change.page_size → (length image.pages < n → IsDataPage change.page_size n → IsSome (written change.pages n)) →
    1 ≤ n → n ≤ change.commit → written change.pages n ≡ None →
    StaysAt (pages.get file.kept n) (apply image change) change.page_size n (page_of file image n)
unwritten file image change n fits keeps valid size complete low high none = elim (cases_eq n (lock_page_of change.page_size)) [
  | inl lock ↦
      let kept : pages.get file.kept n ≡ None = ap (pages.get file.kept) lock ∙ subst (λ (s : ℕ). pages.get file.kept (lock_page_of s) ≡ None) size (lock-kept file image.page_size (length image.pages) fits) in
      let there : page_at (apply image change) n ≡ Some (replicate change.page_size 0) =
      page_at-apply image change n low high ∙ ap Some (ap (page_after image change) lock ∙ page_after-lock_page image change) in
      let zeros : page_of file image n ≡ replicate change.page_size 0 = ap (page_of file image) lock ∙ lock-zeros file image change.page_size fits valid size in
      subst (λ (o : Option (List ℕ)). StaysAt o (apply image change) change.page_size n (page_of file image n)) (sym kept) (record {
        read = ap (λ (o : Option (List ℕ)). unwrap_or o (replicate change.page_size 0)) there ∙ sym zeros;
        differ = λ other is. absurd cc;
      })
  | inr data_page ↦ elim (cases_lt (length image.pages) n) [
    | inl past ↦ absurd (let some = complete past data_page in no_some (written change.pages n) none some)
    | inr within ↦
        let own = page-there image n low within in
        let there : page_at (apply image change) n ≡ page_at image n =
        page_at-apply image change n low high
        ∙ ap Some (page_after-data image change n data_page ∙ ap (λ (o : Option (List ℕ)). unwrap_or o (unwrap_or (page_at image n) (replicate change.page_size 0))) none ∙ ap (λ (o : Option (List ℕ)). unwrap_or o (replicate change.page_size 0)) own.1)
        ∙ sym own.1 in
        record {
          read = ap (λ (o : Option (List ℕ)). unwrap_or (pages.get file.kept n) (unwrap_or o (replicate change.page_size 0))) there
              ∙ ap (λ (s : ℕ). unwrap_or (pages.get file.kept n) (unwrap_or (page_at image n) (replicate s 0))) (sym size);
          differ = λ other is same. keeps.pages n other is (sym there ∙ same);
        }
  ]
] where
  no_some : (o : Option (List ℕ)) → o ≡ None → IsSome o → ⊥
  no_some None none some = absurd cc
  no_some (Some page) none some = absurd cc

-- what is kept once a page was noted
pub noted-at : (m : Pages) (same : List ℕ) (n : ℕ) (page : List ℕ) (left : Bool) (image : DatabaseImage) (size : ℕ) → among same n ≡ false →
    ((p : List ℕ) → pages.get m n ≡ Some p → p ≡ page) → (left ≡ true → page_at image n ≡ Some page) → (left ≡ false → page_at image n ≢ Some page) →
    StaysAt (pages.get (without (if is_some (pages.get m n) || left then m else pages.insert m n page) (if is_some (pages.get m n) && left then same ++ n ∷ [] else same)) n) image size n page
noted-at m same n page left image size off own there other = by (pages.get m n) left refl refl where
  Goal : Pages → List ℕ → Type 0
  Goal k s = StaysAt (pages.get (without k s) n) image size n page

  gone : (k : Pages) (s : List ℕ) → pages.get (without k s) n ≡ None → page_at image n ≡ Some page → Goal k s
  gone k s none at = subst (λ (o : Option (List ℕ)). StaysAt o image size n page) (sym none) (record {
    read = ap (λ (o : Option (List ℕ)). unwrap_or o (replicate size 0)) at;
    differ = λ p is. absurd cc;
  })

  stands : (k : Pages) (s : List ℕ) → pages.get (without k s) n ≡ Some page → page_at image n ≢ Some page → Goal k s
  stands k s some at = subst (λ (o : Option (List ℕ)). StaysAt o image size n page) (sym some) (record {
    read = refl;
    differ = λ p is same. at (same ∙ sym is);
  })

  by : (o : Option (List ℕ)) (l : Bool) → pages.get m n ≡ o → left ≡ l → Goal (if is_some (pages.get m n) || left then m else pages.insert m n page) (if is_some (pages.get m n) && left then same ++ n ∷ [] else same)
  by (Some p) true e f = rw (e, f) (gone m (same ++ n ∷ []) (get-in m (same ++ n ∷ []) n (among-end same n)) (there f))
  by (Some p) false e f = rw (e, f) (stands m same (get-off m same n off ∙ e ∙ ap Some (own p e)) (other f))
  by None true e f = rw (e, f) (gone m same (get-off m same n off ∙ e) (there f))
  by None false e f = rw (e, f) (stands (pages.insert m n page) same (get-off (pages.insert m n page) same n off ∙ get-inserted m n page) (other f))

pub noted-others : (m : Pages) (same : List ℕ) (n k : ℕ) (page : List ℕ) (left : Bool) → k ≢ n →
    pages.get (without (if is_some (pages.get m n) || left then m else pages.insert m n page) (if is_some (pages.get m n) && left then same ++ n ∷ [] else same)) k
    ≡ pages.get (without m same) k
noted-others m same n k page left apart = by (is_some (pages.get m n)) left where
  more : among (same ++ n ∷ []) k ≡ among same k
  more = elim (cases_Bool (among (same ++ n ∷ []) k)) [
    | inl on ↦ elim (among-more same n k on) [ inl was ↦ on ∙ sym was | inr here ↦ absurd (apart here) ]
    | inr off ↦ off ∙ sym (not-more same n k off).0
  ]

  by : (b l : Bool) → pages.get (without (if b || l then m else pages.insert m n page) (if b && l then same ++ n ∷ [] else same)) k ≡ pages.get (without m same) k
  by true true = get-without m (same ++ n ∷ []) k ∙ ap (λ (t : Bool). if t then None else pages.get m k) more ∙ sym (get-without m same k)
  by true false = refl
  by false true = refl
  by false false = get-without (pages.insert m n page) same k ∙ ap (λ (o : Option (List ℕ)). if among same k then None else o) (get-inserted_other m n k page apart) ∙ sym (get-without m same k)

-- the file reads on
pub noted-reads : (before after new : DatabaseFile) (image : DatabaseImage) (n : ℕ) (page : List ℕ) (left : Bool) →
    new.kept ≡ (if is_some (pages.get after.kept n) || left then after.kept else pages.insert after.kept n page) → new.page_size ≡ after.page_size →
    page ≡ page_of after image n → ReadsOn before after image → ReadsOn before new image
noted-reads before after new image n page left kept size own reads k low high =
    ap (λ (s : ℕ). unwrap_or (pages.get new.kept k) (unwrap_or (page_at image k) (replicate (size_over (record { kept = new.kept; page_size = s; count = new.count }) image.page_size (length image.pages)) 0))) size
    ∙ ap (λ (m : Pages). unwrap_or (pages.get m k) (unwrap_or (page_at image k) (replicate (size_of after image) 0))) kept
    ∙ by (pages.get after.kept n) left refl ∙ reads k low high where
      rest : List ℕ
      rest = unwrap_or (page_at image k) (replicate (size_of after image) 0)

      by : (o : Option (List ℕ)) (l : Bool) → pages.get after.kept n ≡ o →
          unwrap_or (pages.get (if is_some o || l then after.kept else pages.insert after.kept n page) k) (unwrap_or (page_at image k) (replicate (size_of after image) 0)) ≡ page_of after image k
      by (Some p) l e = refl
      by None true e = refl
      by None false e = elim (cases_eq k n) [
        | inl here ↦
            ap (λ (j : ℕ). unwrap_or (pages.get (pages.insert after.kept n page) j) (unwrap_or (page_at image k) (replicate (size_of after image) 0))) here
            ∙ ap (λ (q : Option (List ℕ)). unwrap_or q (unwrap_or (page_at image k) (replicate (size_of after image) 0))) (get-inserted after.kept n page)
            ∙ own ∙ ap (page_of after image) (sym here)
        | inr apart ↦ ap (λ (q : Option (List ℕ)). unwrap_or q (unwrap_or (page_at image k) (replicate (size_of after image) 0))) (get-inserted_other after.kept n k page apart)
      ]

-- whether a page is left
pub left-is : (o : Option (List ℕ)) (page : List ℕ) → is_left o page ≡ true → o ≡ Some page
left-is None page is = absurd cc
left-is (Some other) page is = ap Some ((bytes_eq-Decides other page).0 is)

pub left-not : (o : Option (List ℕ)) (page : List ℕ) → is_left o page ≡ false → o ≢ Some page
left-not None page is same = absurd cc
left-not (Some other) page is same = let on : bytes_eq other page ≡ true = (bytes_eq-Decides other page).1 (grind (arith, same)) in cc (on, is)
