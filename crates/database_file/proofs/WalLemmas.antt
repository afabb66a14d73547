-- The change of a commit in the log, one page after another.
use Rattle.std.proofs.Common.{◌≡◌, ◌≢◌, ℕ, zero, suc, ◌+◌, ◌<◌, ◌≤◌, length, List, [], ◌∷◌, ◌++◌, Bool, true, false, cond, inl, inr, Option, Some, None, refl, sym, ap, ◌∙◌, arith, take, get_or, eqb}
use Rattle.std.specs.Prelude.{nat_le, if◌then◌else◌}
use Rattle.std.specs.Option.{option_or}
use Rattle.std.proofs.lemmas.Bool.{cases_eq, cases_lt}
use Rattle.std.proofs.lemmas.Bool.Decides.{nat_tests}
use Rattle.std.proofs.lemmas.List.{take_more}
use Rattle.std.proofs.lemmas.Option.{slice_get-get_or}
use Rattle.lf_sqlite_pages.specs.LockPage.{lock_page_of}
use Rattle.lf_sqlite_pages.specs.Change.{PageChange, IsChange, AscendsAbove, written}
use Rattle.lf_sqlite_pages.specs.Writes.{writes_of}
use Rattle.lf_sqlite_pages.specs.declared.page_write.PageWrite.{PageWrite}
use Rattle.lf_sqlite_pages.proofs.Applying.{AscendsAbove-each, written-lock_page, whole-written}
use Rattle.lf_sqlite_pages.proofs.Writes.{writes_of-same, writes_of-change}
use Rattle.database_file.specs.DatabaseFile.{DatabaseFile}
use Rattle.database_file.specs.CommitParts.{WritesTo, one_write}
use Rattle.database_file.specs.WalCommit.{change_page, change_over}
use Rattle.database_file.proofs.KeptLemmas.{written-append, written-one, written-one_other, or_none, same_change}

-- a page that a change writes is whole
pub news_whole : (change : PageChange) (n : ℕ) (page : List ℕ) → IsChange change → written change.pages n ≡ Some page → length page ≡ change.page_size
news_whole change n page valid some = whole-written change valid n page some

-- a later write has a greater number
pub numbers-later : (low : ℕ) (ws : List PageWrite) → AscendsAbove low ws → (i j : ℕ) (d : PageWrite) → i < j → j < length ws →
    (get_or ws i d).number < (get_or ws j d).number
numbers-later low [] ascends i j d up inside = absurd (omega (arith, inside))
numbers-later low (w ∷ ws) ascends i zero d up inside = absurd (omega (arith, up))
numbers-later low (w ∷ ws) ascends zero (suc j) d up inside = AscendsAbove-each w.number ws ascends.1 j d (omega (arith, inside))
numbers-later low (w ∷ ws) ascends (suc i) (suc j) d up inside = numbers-later w.number ws ascends.1 i j d (omega (arith, up)) (omega (arith, inside))

-- one page of the log more
past-or : (b : Bool) (x : Option (List ℕ)) (bytes : List ℕ) →
    option_or (cond b x None) (if b then Some bytes else None) ≡ cond b (option_or x (Some bytes)) None
past-or true x bytes = refl
past-or false x bytes = refl

within-more : (ws : List PageWrite) (w : PageWrite) (count : ℕ) (writes : List PageWrite) → WritesTo (written ws) count writes →
    WritesTo (written (ws ++ w ∷ [])) count (writes ++ one_write w.number (if nat_le w.number count then Some w.bytes else None))
within-more ws w count writes kept n =
    written-append writes (one_write w.number (if nat_le w.number count then Some w.bytes else None)) n
    ∙ elim (cases_eq n w.number) [
      | inl here ↦
          rw (
            here,
            kept w.number,
            written-one w.number (if nat_le w.number count then Some w.bytes else None),
            written-append ws (w ∷ []) w.number,
            written-one w.number (Some w.bytes),
          )
          (past-or (nat_le w.number count) (written ws w.number) w.bytes)
      | inr other ↦
          rw (
            kept n,
            written-one_other w.number n (if nat_le w.number count then Some w.bytes else None) other,
            written-append ws (w ∷ []) n,
            written-one_other w.number n (Some w.bytes) other,
            or_none (written ws n),
          )
          (or_none (if nat_le n count then written ws n else None))
    ]

pub within-none : (count : ℕ) → WritesTo (written []) count []
within-none count n = either (nat_le n count) where
  either : (b : Bool) → written [] n ≡ (if b then written [] n else None)
  either true = refl
  either false = refl

pub within-next : (ws : List PageWrite) (at count : ℕ) (old new : PageChange) (d : PageWrite) → at < length ws → WritesTo (written (take at ws)) count old.pages →
    new ≡ record old { pages = old.pages ++ one_write (get_or ws at d).number (if nat_le (get_or ws at d).number count then Some (get_or ws at d).bytes else None) } →
    WritesTo (written (take (at + 1) ws)) count new.pages
within-next ws at count old new d inside kept is =
    rw (take_more ws at d inside, ap (λ (c : PageChange). c.pages) is) (within-more (take at ws) (get_or ws at d) count old.pages kept)

-- within the image the change writes what the log does
no_lock_page : (file : DatabaseFile) (news : PageChange) (commit n : ℕ) → eqb n (lock_page_of news.page_size) ≡ true → change_page file news commit n ≡ None
no_lock_page file news commit n test = rw test refl

data_page_over : (file : DatabaseFile) (news : PageChange) (commit n : ℕ) → eqb n (lock_page_of news.page_size) ≡ false → nat_le n commit ≡ true →
    change_page file news commit n ≡ written news.pages n
data_page_over file news commit n a b = rw (a, b) refl

over-within : (file : DatabaseFile) (news : PageChange) (commit n : ℕ) → IsChange news → nat_le n commit ≡ true → written news.pages n ≡ change_page file news commit n
over-within file news commit n valid test = elim (cases_eq n (lock_page_of news.page_size)) [
  | inl lock ↦
      let is_lock : eqb n (lock_page_of news.page_size) ≡ true = grind (arith, nat_tests) in
      ap (written news.pages) lock ∙ written-lock_page news valid ∙ sym (no_lock_page file news commit n is_lock)
  | inr data_page ↦
      let other : eqb n (lock_page_of news.page_size) ≡ false = grind (arith, nat_tests) in
      sym (data_page_over file news commit n other test)
]

pub within-all : (file : DatabaseFile) (news : PageChange) (commit : ℕ) (writes : List PageWrite) → IsChange news →
    WritesTo (written news.pages) commit writes → WritesTo (change_page file news commit) commit writes
within-all file news commit writes valid kept n =
    kept n
    ∙ elim (cases_lt commit n) [
      | inl past ↦ let test : nat_le n commit ≡ false = grind (arith, nat_tests) in rw test refl
      | inr low ↦
          let test : nat_le n commit ≡ true = grind (arith, nat_tests) in
          ap (λ (o : Option (List ℕ)). if nat_le n commit then o else None) (over-within file news commit n valid test)
    ]

-- a log that grows the image by nothing makes its own change
pub over_same : (file : DatabaseFile) (news : PageChange) (commit : ℕ) → IsChange news → news.commit ≤ commit → news ≡ change_over file news commit
over_same file news commit valid shrinks =
    same_change news news.page_size news.commit (writes_of (change_page file news commit) news.commit) refl refl
    (sym (writes_of-change news valid)
    ∙ writes_of-same (written news.pages) (change_page file news commit) news.commit
    (λ n first last.
    let test : nat_le n commit ≡ true = grind (arith, nat_tests) in
    over-within file news commit n valid test))

-- one page past the image more
next-one : (page : ℕ → Option (List ℕ)) (at : ℕ) (writes : List PageWrite) → WritesTo page at writes → WritesTo page (at + 1) (writes ++ one_write (at + 1) (page (at + 1)))
next-one page at writes kept n =
    written-append writes (one_write (at + 1) (page (at + 1))) n
    ∙ elim (cases_eq n (at + 1)) [
      | inl here ↦
          let past : nat_le (at + 1) at ≡ false = grind (arith, nat_tests) in
          let within : nat_le (at + 1) (at + 1) ≡ true = grind (arith, nat_tests) in
          rw (here, kept (at + 1), past, within, written-one (at + 1) (page (at + 1))) refl
      | inr other ↦
          let same : nat_le n at ≡ nat_le n (at + 1) = same_test other in
          rw (kept n, written-one_other (at + 1) n (page (at + 1)) other, same) (or_none (if nat_le n (at + 1) then page n else None))
    ] where
      same_test : n ≢ at + 1 → nat_le n at ≡ nat_le n (at + 1)
      same_test other = elim (cases_lt at n) [
        | inl past ↦
            let far : at + 1 < n = omega (arith, past, other) in
            let one : nat_le n at ≡ false = grind (arith, nat_tests) in
            let two : nat_le n (at + 1) ≡ false = grind (arith, nat_tests) in
            one ∙ sym two
        | inr low ↦
            let one : nat_le n at ≡ true = grind (arith, nat_tests) in
            let two : nat_le n (at + 1) ≡ true = grind (arith, nat_tests) in
            one ∙ sym two
      ]

pub over-next : (page : ℕ → Option (List ℕ)) (at : ℕ) (old new : PageChange) → WritesTo page at old.pages →
    new ≡ record old { pages = old.pages ++ one_write (at + 1) (page (at + 1)) } → WritesTo page (at + 1) new.pages
over-next page at old new kept is = rw (ap (λ (c : PageChange). c.pages) is) (next-one page at old.pages kept)

-- all of them
pub over-all : (page : ℕ → Option (List ℕ)) (news change : PageChange) (at : ℕ) → change.page_size ≡ news.page_size → change.commit ≡ news.commit → IsChange change →
    WritesTo page at change.pages → news.commit ≤ at → change ≡ record news { pages = writes_of page news.commit }
over-all page news change at size commit valid kept end =
    same_change change news.page_size news.commit (writes_of page news.commit) size commit
    (sym (writes_of-change change valid) ∙ ap (writes_of (written change.pages)) commit
    ∙ writes_of-same (written change.pages) page news.commit
    (λ n first last.
    let test : nat_le n at ≡ true = grind (arith, nat_tests) in
    kept n ∙ rw test refl))

-- an element within a list is the same whatever stands for a missing one
pub element-same : (ws : List PageWrite) (k : ℕ) (d w : PageWrite) → k < length ws → w ≡ get_or ws k w → (get_or ws k d).number ≡ w.number
element-same ws k d w inside is =
    let one = slice_get-get_or ws k d inside in
    let two = slice_get-get_or ws k w inside in
    let same : get_or ws k d ≡ get_or ws k w = cc (one, two) in
    ap (λ (x : PageWrite). x.number) (same ∙ sym is)

-- the first number is above none
pub above-none : (news : PageChange) (k : ℕ) (d : PageWrite) → IsChange news → k < length news.pages → 0 < (get_or news.pages k d).number
above-none news k d valid inside = AscendsAbove-each 0 news.pages valid.ascending k d inside
