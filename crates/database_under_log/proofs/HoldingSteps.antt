-- The pages of a change, noted one after another.
use Rattle.std.proofs.Common.{◌≡◌, ◌≢◌, ℕ, ◌+◌, ◌<◌, ◌≤◌, ◌&&◌, ◌||◌, length, List, [], ◌∷◌, ◌++◌, Bool, true, false, inl, inr, ◌⊎◌, Option, Some, None, take, replicate, unwrap_or, sym, ap, ◌∙◌, subst, arith, if◌then◌else◌}
use Rattle.std.specs.Prelude.{is_some, ◌==◌}
use Rattle.std.specs.Option.{option_or}
use Rattle.std.specs.FinMap as pages
use Rattle.std.proofs.lemmas.Bool.{cases_eq, cases_Bool}
use Rattle.std.proofs.lemmas.List.{take_all}
use Rattle.lf_sqlite_pages.specs.LockPage.{IsDataPage}
use Rattle.lf_sqlite_pages.specs.Image.{DatabaseImage, page_at}
use Rattle.lf_sqlite_pages.specs.Change.{PageChange, written}
use Rattle.lf_sqlite_pages.specs.Apply.{apply}
use Rattle.lf_sqlite_pages.specs.declared.page_write.PageWrite.{PageWrite}
use Rattle.lf_sqlite_pages.proofs.Laws.{length-apply, page_at-apply, page_after-data}
use Rattle.lf_sqlite_pages.proofs.PageNumbers.{page_at-past}
use Rattle.database_file.specs.DatabaseFile.{DatabaseFile, FitsShape, count_over, size_over, size_of, page_of}
use Rattle.database_file.specs.WritingParts.{Pages}
use Rattle.database_file.proofs.KeptLemmas.{written-append, written-one_other, or_none}
use Rattle.database_file.proofs.PutLemmas.{get-inserted, get-inserted_other}
use Rattle.database_under_log.specs.Staying.{without}
use Rattle.database_under_log.specs.HoldingParts.{among, is_left, IsNoted, StaysAt, AreBelow, ReadsOn, StaysBy, StaysTo}
use Rattle.database_under_log.specs.declared.holding.Held.{Held}
use Rattle.database_under_log.proofs.HoldLemmas.{among-more}
use Rattle.database_under_log.proofs.StayLemmas.{noted-at, noted-others, left-is, left-not}

-- the file that was noted fits as before
noted-found : (m : Pages) (n k : ℕ) (page p : List ℕ) (b : Bool) → pages.get (if b then m else pages.insert m n page) k ≡ Some p →
    (pages.get m k ≡ Some p) ⊎ ((k ≡ n) × (page ≡ p))
noted-found m n k page p true is = inl is
noted-found m n k page p false is = elim (cases_eq k n) [
  | inl here ↦ inr (here, let own : Some page ≡ Some p = sym (get-inserted m n page) ∙ sym (ap (pages.get (pages.insert m n page)) here) ∙ is in grind (arith, own))
  | inr apart ↦ inl (sym (get-inserted_other m n k page apart) ∙ is)
]

pub noted-fits : (file new : DatabaseFile) (held later : Held) (n page_size commit : ℕ) (page : List ℕ) (left : Bool) → IsNoted file held n page left new later →
    FitsShape file page_size commit → 1 ≤ n → n ≤ count_over file commit → IsDataPage (size_over file page_size commit) n → length page ≡ size_over file page_size commit →
    FitsShape new page_size commit
noted-fits file new held later n page_size commit page left noted fits low high data_page whole =
    let found : (k : ℕ) (p : List ℕ) → pages.get new.kept k ≡ Some p → (pages.get file.kept k ≡ Some p) ⊎ ((k ≡ n) × (page ≡ p)) =
    λ k p is. noted-found file.kept n k page p (is_some (pages.get file.kept n) || left) (ap (λ (m : Pages). pages.get m k) (sym noted.kept) ∙ is) in
    let size : size_over new page_size commit ≡ size_over file page_size commit = ap (λ (s : ℕ). if commit == 0 then s else page_size) noted.page_size in
    let count : count_over new commit ≡ count_over file commit = ap (λ (c : Option ℕ). unwrap_or c commit) noted.count in
    record {
      sized = λ some. rw size (fits.sized (omega (arith, some, count)));
      whole = λ k p is. elim (found k p is) [
        | inl was ↦ fits.whole k p was ∙ sym size
        | inr own ↦ ap (λ (q : List ℕ). length q) (sym own.1) ∙ whole ∙ sym size
      ];
      within = λ k p is. elim (found k p is) [
        | inl was ↦ let both = fits.within k p was in (both.0, omega (arith, both.1, count))
        | inr own ↦ (omega (arith, own.0, low), omega (arith, own.0, high, count))
      ];
      data_pages = λ k p is. elim (found k p is) [
        | inl was ↦ rw size (fits.data_pages k p was)
        | inr own ↦ rw (size, own.0) data_page
      ];
      count = λ same. fits.count (sym noted.count ∙ same);
    }

-- the numbers that were noted stay below one
pub below-added : (file new : DatabaseFile) (held later : Held) (n limit : ℕ) (page : List ℕ) (left : Bool) → IsNoted file held n page left new later →
    n < limit → AreBelow held.added.items limit → AreBelow later.added.items limit
below-added file new held later n limit page left noted less below =
    subst (λ ns. AreBelow ns limit) (sym noted.added) (by (is_some (pages.get file.kept n) || left)) where
      by : (b : Bool) → AreBelow (if b then held.added.items else held.added.items ++ n ∷ []) limit
      by true = below
      by false = λ k on. elim (among-more held.added.items n k on) [ inl was ↦ below k was | inr here ↦ omega (arith, here, less) ]

pub below-same : (file new : DatabaseFile) (held later : Held) (n limit : ℕ) (page : List ℕ) (left : Bool) → IsNoted file held n page left new later →
    n < limit → AreBelow held.same.items limit → AreBelow later.same.items limit
below-same file new held later n limit page left noted less below =
    subst (λ ns. AreBelow ns limit) (sym noted.same) (by (is_some (pages.get file.kept n) && left)) where
      by : (b : Bool) → AreBelow (if b then held.same.items ++ n ∷ [] else held.same.items) limit
      by true = λ k on. elim (among-more held.same.items n k on) [ inl was ↦ below k was | inr here ↦ omega (arith, here, less) ]
      by false = below

pub below-off : (ns : List ℕ) (n : ℕ) → AreBelow ns n → among ns n ≡ false
below-off ns n below = elim (cases_Bool (among ns n)) [ inl on ↦ absurd (let less = below n on in omega (arith, less)) | inr off ↦ off ]

-- a kept page is what the file reads there
kept-own : (file : DatabaseFile) (image : DatabaseImage) (n : ℕ) (page p : List ℕ) → page ≡ page_of file image n → pages.get file.kept n ≡ Some p → p ≡ page
kept-own file image n page p own is = sym (own ∙ ap (λ (o : Option (List ℕ)). unwrap_or o (unwrap_or (page_at image n) (replicate (size_of file image) 0))) is)

-- page n stays, and each other one as it did
pub noted-here : (before file new : DatabaseFile) (held later : Held) (image next : DatabaseImage) (n size : ℕ) (page : List ℕ) (other : Option (List ℕ)) →
    IsNoted file held n page (is_left other page) new later → AreBelow held.same.items n → page ≡ page_of file image n → page_of file image n ≡ page_of before image n →
    page_at next n ≡ other → StaysAt (pages.get (without new.kept later.same.items) n) next size n (page_of before image n)
noted-here before file new held later image next n size page other noted below own reads at =
    subst (λ (k : Pages). StaysAt (pages.get (without k later.same.items) n) next size n (page_of before image n)) (sym noted.kept)
    (subst (λ (s : List ℕ). StaysAt (pages.get (without (if is_some (pages.get file.kept n) || is_left other page then file.kept else pages.insert file.kept n page) s) n) next size n (page_of before image n)) (sym noted.same)
    (subst (λ (q : List ℕ). StaysAt (pages.get (without (if is_some (pages.get file.kept n) || is_left other page then file.kept else pages.insert file.kept n page) (if is_some (pages.get file.kept n) && is_left other page then held.same.items ++ n ∷ [] else held.same.items)) n) next size n q) (own ∙ reads)
    (noted-at file.kept held.same.items n page (is_left other page) next size (below-off held.same.items n below)
    (λ p is. kept-own file image n page p own is)
    (λ left. at ∙ left-is other page left)
    (λ left is. left-not other page left (sym at ∙ is)))))

pub noted-there : (file new : DatabaseFile) (held later : Held) (n k : ℕ) (page : List ℕ) (left : Bool) → IsNoted file held n page left new later → k ≢ n →
    pages.get (without new.kept later.same.items) k ≡ pages.get (without file.kept held.same.items) k
noted-there file new held later n k page left noted apart =
    ap (λ (m : Pages). pages.get (without m later.same.items) k) noted.kept
    ∙ ap (λ (s : List ℕ). pages.get (without (if is_some (pages.get file.kept n) || left then file.kept else pages.insert file.kept n page) s) k) noted.same
    ∙ noted-others file.kept held.same.items n k page left apart

-- one write of the change more
pub by-more : (before file new : DatabaseFile) (held later : Held) (image : DatabaseImage) (change : PageChange) (at : ℕ) (w : PageWrite) (page : List ℕ) →
    IsNoted file held w.number page (is_left (Some w.bytes) page) new later → AreBelow held.same.items w.number → page ≡ page_of file image w.number →
    ReadsOn before file image → written change.pages w.number ≡ Some w.bytes → IsDataPage change.page_size w.number → take (at + 1) change.pages ≡ take at change.pages ++ w ∷ [] →
    StaysBy before file held.same.items image change at → StaysBy before new later.same.items image change (at + 1)
by-more before file new held later image change at w page noted below own reads wrote data_page next stays n low high inside is = elim (cases_eq n w.number) [
  | inl here ↦ subst (λ (k : ℕ). StaysAt (pages.get (without new.kept later.same.items) k) (apply image change) change.page_size k (page_of before image k)) (sym here)
      (noted-here before file new held later image (apply image change) w.number change.page_size page (Some w.bytes) noted below own
      (reads w.number (omega (arith, here, low)) (omega (arith, here, inside)))
      (page_at-apply image change w.number (omega (arith, here, low)) (omega (arith, here, high))
      ∙ ap Some (page_after-data image change w.number data_page ∙ ap (λ (o : Option (List ℕ)). unwrap_or o (unwrap_or (page_at image w.number) (replicate change.page_size 0))) wrote)))
  | inr apart ↦
      let less : written (take (at + 1) change.pages) n ≡ written (take at change.pages) n =
      ap (λ (ws : List PageWrite). written ws n) next ∙ written-append (take at change.pages) (w ∷ []) n
      ∙ ap (λ (o : Option (List ℕ)). option_or (written (take at change.pages) n) o) (written-one_other w.number n (Some w.bytes) apart) ∙ or_none (written (take at change.pages) n) in
      subst (λ (o : Option (List ℕ)). StaysAt o (apply image change) change.page_size n (page_of before image n)) (sym (noted-there file new held later w.number n page (is_left (Some w.bytes) page) noted apart))
      (stays n low high inside (is ∙ less))
]

-- a write past the file
pub by-past : (before file : DatabaseFile) (same : List ℕ) (image : DatabaseImage) (change : PageChange) (at : ℕ) (w : PageWrite) → count_over before (length image.pages) < w.number →
    take (at + 1) change.pages ≡ take at change.pages ++ w ∷ [] → StaysBy before file same image change at → StaysBy before file same image change (at + 1)
by-past before file same image change at w past next stays n low high inside is =
    let apart : n ≢ w.number = λ here. omega (arith, here, past, inside) in
    stays n low high inside
    (is ∙ ap (λ (ws : List PageWrite). written ws n) next ∙ written-append (take at change.pages) (w ∷ []) n
    ∙ ap (λ (o : Option (List ℕ)). option_or (written (take at change.pages) n) o) (written-one_other w.number n (Some w.bytes) apart) ∙ or_none (written (take at change.pages) n))

-- all of them
pub by-all : (before file : DatabaseFile) (same : List ℕ) (image : DatabaseImage) (change : PageChange) (at : ℕ) → length change.pages ≤ at →
    StaysBy before file same image change at → StaysTo before file same image change change.commit
by-all before file same image change at end stays n low high inside =
    stays n low high inside (ap (λ (ws : List PageWrite). written ws n) (sym (take_all at change.pages end)))

-- one page past the change more
pub to-more : (before file new : DatabaseFile) (held later : Held) (image : DatabaseImage) (change : PageChange) (n : ℕ) (page : List ℕ) →
    IsNoted file held (n + 1) page (is_left None page) new later → AreBelow held.same.items (n + 1) → page ≡ page_of file image (n + 1) → ReadsOn before file image →
    change.commit ≤ n → StaysTo before file held.same.items image change n → StaysTo before new later.same.items image change (n + 1)
to-more before file new held later image change n page noted below own reads past stays k low high inside = elim (cases_eq k (n + 1)) [
  | inl here ↦ subst (λ (j : ℕ). StaysAt (pages.get (without new.kept later.same.items) j) (apply image change) change.page_size j (page_of before image j)) (sym here)
      (noted-here before file new held later image (apply image change) (n + 1) change.page_size page None noted below own
      (reads (n + 1) (omega arith) (omega (arith, here, inside)))
      (page_at-past (apply image change) (n + 1) (omega (arith, past, length-apply image change))))
  | inr apart ↦
      subst (λ (o : Option (List ℕ)). StaysAt o (apply image change) change.page_size k (page_of before image k)) (sym (noted-there file new held later (n + 1) k page (is_left None page) noted apart))
      (stays k low (omega (arith, high, apart)) inside)
]
