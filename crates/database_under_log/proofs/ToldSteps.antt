-- The same where the image is told.
use Rattle.std.proofs.Common.{◌≡◌, ℕ, ◌+◌, ◌<◌, ◌≤◌, length, List, [], ◌∷◌, ◌++◌, false, inl, inr, Option, Some, None, take, get_or, min, replicate, unwrap_or, refl, sym, ap, ◌∙◌, subst, arith}
use Rattle.std.specs.Prelude.{IsSome, IfSome}
use Rattle.std.specs.FinMap as pages
use Rattle.std.proofs.lemmas.Bool.{cases_eq, cases_lt, cases_Bool}
use Rattle.std.proofs.lemmas.List.{take_more}
use Rattle.lf_sqlite_pages.specs.LockPage.{lock_page_of, IsDataPage}
use Rattle.lf_sqlite_pages.specs.Image.{DatabaseImage, IsImage, page_at}
use Rattle.lf_sqlite_pages.specs.Change.{PageChange, IsChange, written}
use Rattle.lf_sqlite_pages.specs.Apply.{apply}
use Rattle.lf_sqlite_pages.specs.declared.page_write.PageWrite.{PageWrite}
use Rattle.lf_sqlite_pages.proofs.Laws.{length-apply}
use Rattle.lf_sqlite_pages.proofs.Lookup.{written-at}
use Rattle.lf_sqlite_pages.proofs.PageNumbers.{page_at-past}
use Rattle.database_file.specs.DatabaseFile.{DatabaseFile, FitsShape, KeepsDifferences, count_over, size_over, size_of, page_of}
use Rattle.database_file.specs.WritingParts.{Pages}
use Rattle.database_file.proofs.DifferenceLemmas.{lock-kept}
use Rattle.database_file.proofs.WalLemmas.{above-none}
use Rattle.database_under_log.specs.Staying.{without}
use Rattle.database_under_log.specs.HoldingParts.{among, is_left, IsNoted, StaysAt, AreBelow, ReadsOn, StaysBy, StaysTo}
use Rattle.database_under_log.specs.declared.holding.Held.{Held}
use Rattle.database_under_log.proofs.HoldLemmas.{get-without, get-off}
use Rattle.database_under_log.proofs.StayLemmas.{unwritten, noted-reads, lock-zeros}
use Rattle.database_under_log.proofs.HoldingSteps.{by-more, by-past, by-all, to-more}

-- what a write of a change has
pub record IsWrite (change : PageChange) (at : ℕ) (w : PageWrite) : Type 0 where
  pub first : 1 ≤ w.number
  pub wrote : written change.pages w.number ≡ Some w.bytes
  pub next : take (at + 1) change.pages ≡ take at change.pages ++ w ∷ []

pub write-is : (change : PageChange) (ws : List PageWrite) (at : ℕ) (w : PageWrite) → IsChange change → ws ≡ change.pages → at < length ws → w ≡ get_or ws at w → IsWrite change at w
write-is change ws at w valid same inside is =
    let own : w ≡ get_or change.pages at w = is ∙ ap (λ (vs : List PageWrite). get_or vs at w) same in
    let within : at < length change.pages = rw (← same) inside in
    record {
      first = subst (λ (v : PageWrite). 1 ≤ v.number) (sym own) (above-none change at w valid within);
      wrote = subst (λ (v : PageWrite). written change.pages v.number ≡ Some v.bytes) (sym own) (written-at 0 change.pages valid.ascending at w within);
      next = take_more change.pages at w within ∙ ap (λ (v : PageWrite). take at change.pages ++ v ∷ []) (sym own);
    }

pub told-start : (told : Option DatabaseImage) (file : DatabaseFile) (same : List ℕ) (change : PageChange) (page_size commit : ℕ) → same ≡ [] → FitsShape file page_size commit →
    IfSome told (λ i. page_size ≡ i.page_size) → IfSome told (λ i. commit ≡ length i.pages) → IfSome told IsImage →
    (0 < count_over file commit → size_over file page_size commit ≡ change.page_size) →
    ((n : ℕ) → commit < n → n ≤ change.commit → IsDataPage change.page_size n → IsSome (written change.pages n)) →
    IfSome told (λ i. KeepsDifferences file i → ReadsOn file file i × StaysBy file file same i change 0)
told-start None file same change page_size commit none fits t1 t2 valid sized complete = tt
told-start (Some i) file same change page_size commit none fits t1 t2 valid sized complete = λ keeps. (
  λ n low high. refl,
  λ n low high inside is.
      let fits_i : FitsShape file i.page_size (length i.pages) = subst (λ (p : ℕ). FitsShape file p (length i.pages)) t1 (subst (λ (c : ℕ). FitsShape file page_size c) t2 fits) in
      let size : size_of file i ≡ change.page_size =
      subst (λ (p : ℕ). size_over file p (length i.pages) ≡ change.page_size) t1
      (subst (λ (c : ℕ). 0 < count_over file c → size_over file page_size c ≡ change.page_size) t2 sized (omega (arith, low, inside))) in
      let each = subst (λ (c : ℕ). c < n → n ≤ change.commit → IsDataPage change.page_size n → IsSome (written change.pages n)) t2 (complete n) in
      subst (λ (s : List ℕ). StaysAt (pages.get (without file.kept s) n) (apply i change) change.page_size n (page_of file i n)) (sym none)
      (unwritten file i change n fits_i keeps valid size (λ past data_page. each past high data_page) low high is),
)

pub told-by-more : (told here : Option DatabaseImage) (before file new : DatabaseFile) (held later : Held) (change : PageChange) (at : ℕ) (w : PageWrite) (page : List ℕ) → here ≡ told →
    IsNoted file held w.number page (is_left (Some w.bytes) page) new later → AreBelow held.same.items w.number → IfSome here (λ i. page ≡ page_of file i w.number) →
    IsWrite change at w → IsDataPage change.page_size w.number →
    IfSome told (λ i. KeepsDifferences before i → ReadsOn before file i × StaysBy before file held.same.items i change at) →
    IfSome told (λ i. KeepsDifferences before i → ReadsOn before new i × StaysBy before new later.same.items i change (at + 1))
told-by-more None here before file new held later change at w page same noted below own is data_page old = tt
told-by-more (Some i) here before file new held later change at w page same noted below own is data_page old = λ keeps.
    let own_i : page ≡ page_of file i w.number = subst (λ (o : Option DatabaseImage). IfSome o (λ j. page ≡ page_of file j w.number)) same own in
    let both = old keeps in (
      noted-reads before file new i w.number page (is_left (Some w.bytes) page) noted.kept noted.page_size own_i both.0,
      by-more before file new held later i change at w page noted below own_i both.0 is.wrote data_page is.next both.1,
    )

pub told-by-past : (told : Option DatabaseImage) (before file : DatabaseFile) (same : List ℕ) (change : PageChange) (at commit : ℕ) (w : PageWrite) → IfSome told (λ i. commit ≡ length i.pages) →
    count_over before commit < w.number → IsWrite change at w →
    IfSome told (λ i. KeepsDifferences before i → ReadsOn before file i × StaysBy before file same i change at) →
    IfSome told (λ i. KeepsDifferences before i → ReadsOn before file i × StaysBy before file same i change (at + 1))
told-by-past None before file same change at commit w t2 past is old = tt
told-by-past (Some i) before file same change at commit w t2 past is old = λ keeps.
    let both = old keeps in
    (both.0, by-past before file same i change at w (subst (λ (c : ℕ). count_over before c < w.number) t2 past) is.next both.1)

pub told-by-all : (told : Option DatabaseImage) (before file : DatabaseFile) (same : List ℕ) (change : PageChange) (at : ℕ) → length change.pages ≤ at →
    IfSome told (λ i. KeepsDifferences before i → ReadsOn before file i × StaysBy before file same i change at) →
    IfSome told (λ i. KeepsDifferences before i → ReadsOn before file i × StaysTo before file same i change change.commit)
told-by-all None before file same change at end old = tt
told-by-all (Some i) before file same change at end old = λ keeps. let both = old keeps in (both.0, by-all before file same i change at end both.1)

pub told-to-more : (told here : Option DatabaseImage) (before file new : DatabaseFile) (held later : Held) (change : PageChange) (n : ℕ) (page : List ℕ) → here ≡ told →
    IsNoted file held (n + 1) page (is_left None page) new later → AreBelow held.same.items (n + 1) → IfSome here (λ i. page ≡ page_of file i (n + 1)) → change.commit ≤ n →
    IfSome told (λ i. KeepsDifferences before i → ReadsOn before file i × StaysTo before file held.same.items i change n) →
    IfSome told (λ i. KeepsDifferences before i → ReadsOn before new i × StaysTo before new later.same.items i change (n + 1))
told-to-more None here before file new held later change n page same noted below own past old = tt
told-to-more (Some i) here before file new held later change n page same noted below own past old = λ keeps.
    let own_i : page ≡ page_of file i (n + 1) = subst (λ (o : Option DatabaseImage). IfSome o (λ j. page ≡ page_of file j (n + 1))) same own in
    let both = old keeps in (
      noted-reads before file new i (n + 1) page (is_left None page) noted.kept noted.page_size own_i both.0,
      to-more before file new held later i change n page noted below own_i both.0 past both.1,
    )

-- the lock page past the image stays without a word
gone : (m : Pages) (same : List ℕ) (n : ℕ) → pages.get m n ≡ None → pages.get (without m same) n ≡ None
gone m same n none = get-without m same n ∙ elim (cases_Bool (among same n)) [
  | inl on ↦ rw on refl
  | inr off ↦ rw off none
]

pub told-to-lock : (told : Option DatabaseImage) (before file : DatabaseFile) (same : List ℕ) (change : PageChange) (n page_size commit : ℕ) →
    IfSome told (λ i. page_size ≡ i.page_size) → IfSome told (λ i. commit ≡ length i.pages) → IfSome told IsImage → FitsShape before page_size commit → FitsShape file page_size commit →
    file.page_size ≡ before.page_size → (0 < count_over before commit → size_over before page_size commit ≡ change.page_size) → n + 1 ≡ lock_page_of change.page_size → change.commit ≤ n →
    IfSome told (λ i. KeepsDifferences before i → ReadsOn before file i × StaysTo before file same i change n) →
    IfSome told (λ i. KeepsDifferences before i → ReadsOn before file i × StaysTo before file same i change (n + 1))
told-to-lock None before file same change n page_size commit t1 t2 valid fits fits_now size_now sized lock past old = tt
told-to-lock (Some i) before file same change n page_size commit t1 t2 valid fits fits_now size_now sized lock past old = λ keeps.
    let both = old keeps in (
      both.0,
      λ k low high inside. elim (cases_eq k (n + 1)) [
        | inr apart ↦ both.1 k low (omega (arith, high, apart)) inside
        | inl here ↦
            let size : size_of before i ≡ change.page_size =
            subst (λ (p : ℕ). size_over before p (length i.pages) ≡ change.page_size) t1
            (subst (λ (c : ℕ). 0 < count_over before c → size_over before page_size c ≡ change.page_size) t2 sized (omega (arith, low, inside))) in
            let fits_i : FitsShape before i.page_size (length i.pages) = subst (λ (p : ℕ). FitsShape before p (length i.pages)) t1 (subst (λ (c : ℕ). FitsShape before page_size c) t2 fits) in
            let now_i : FitsShape file i.page_size (length i.pages) = subst (λ (p : ℕ). FitsShape file p (length i.pages)) t1 (subst (λ (c : ℕ). FitsShape file page_size c) t2 fits_now) in
            let size_i : size_of file i ≡ change.page_size = ap (λ (s : ℕ). size_over (record { kept = before.kept; page_size = s; count = before.count }) i.page_size (length i.pages)) size_now ∙ size in
            let is : k ≡ lock_page_of change.page_size = here ∙ lock in
            let none : pages.get file.kept k ≡ None = ap (pages.get file.kept) is ∙ subst (λ (s : ℕ). pages.get file.kept (lock_page_of s) ≡ None) size_i (lock-kept file i.page_size (length i.pages) now_i) in
            let zeros : page_of before i k ≡ replicate change.page_size 0 = ap (page_of before i) is ∙ lock-zeros before i change.page_size fits_i valid size in
            let nothing : page_at (apply i change) k ≡ None = page_at-past (apply i change) k (omega (arith, past, here, length-apply i change)) in
            subst (λ (o : Option (List ℕ)). StaysAt o (apply i change) change.page_size k (page_of before i k)) (sym (gone file.kept same k none)) (record {
              read = ap (λ (o : Option (List ℕ)). unwrap_or o (replicate change.page_size 0)) nothing ∙ sym zeros;
              differ = λ other off. absurd cc;
            })
      ],
    )

-- past all of them the file keeps what it keeps
pub told-end : (told : Option DatabaseImage) (before file : DatabaseFile) (same : List ℕ) (change : PageChange) (n page_size commit : ℕ) →
    IfSome told (λ i. page_size ≡ i.page_size) → IfSome told (λ i. commit ≡ length i.pages) →
    file.page_size ≡ before.page_size → (0 < count_over before commit → size_over before page_size commit ≡ change.page_size) → AreBelow same (n + 1) → change.commit ≤ n → min (count_over before commit) commit ≤ n →
    IfSome told (λ i. KeepsDifferences before i → ReadsOn before file i × StaysTo before file same i change n) →
    IfSome told (λ i. KeepsDifferences before i → ReadsOn before file i × StaysTo before file same i change (count_over before (length i.pages)))
told-end None before file same change n page_size commit t1 t2 size_now sized below past end old = tt
told-end (Some i) before file same change n page_size commit t1 t2 size_now sized below past end old = λ keeps.
    let both = old keeps in (
      both.0,
      λ k low high inside. elim (cases_lt n k) [
        | inr within ↦ both.1 k low within inside
        | inl more ↦
            let size : size_of before i ≡ change.page_size =
            subst (λ (p : ℕ). size_over before p (length i.pages) ≡ change.page_size) t1
            (subst (λ (c : ℕ). 0 < count_over before c → size_over before page_size c ≡ change.page_size) t2 sized (omega (arith, low, inside))) in
            let size_i : size_of file i ≡ change.page_size = ap (λ (s : ℕ). size_over (record { kept = before.kept; page_size = s; count = before.count }) i.page_size (length i.pages)) size_now ∙ size in
            let end_i : min (count_over before (length i.pages)) (length i.pages) ≤ n = subst (λ (c : ℕ). min (count_over before c) c ≤ n) t2 end in
            let beyond : length i.pages < k = omega (arith, more, end_i, inside) in
            let nothing : page_at (apply i change) k ≡ None = page_at-past (apply i change) k (omega (arith, past, more, length-apply i change)) in
            let off : among same k ≡ false = elim (cases_Bool (among same k)) [ inl on ↦ absurd (let less = below k on in omega (arith, less, more)) | inr fresh ↦ fresh ] in
            subst (λ (o : Option (List ℕ)). StaysAt o (apply i change) change.page_size k (page_of before i k)) (sym (get-off file.kept same k off)) (record {
              read = ap (λ (o : Option (List ℕ)). unwrap_or (pages.get file.kept k) (unwrap_or o (replicate change.page_size 0))) nothing
                  ∙ ap (λ (s : ℕ). unwrap_or (pages.get file.kept k) (replicate s 0)) (sym size_i)
                  ∙ ap (λ (o : Option (List ℕ)). unwrap_or (pages.get file.kept k) (unwrap_or o (replicate (size_of file i) 0))) (sym (page_at-past i k beyond))
                  ∙ both.0 k low inside;
              differ = λ other is there. let none = nothing in cc (none, there);
            })
      ],
    )
