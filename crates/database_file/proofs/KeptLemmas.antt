-- A change that writes what is kept, one page after another.
use Rattle.std.proofs.Common.{◌≡◌, ◌≢◌, ℕ, zero, suc, ◌+◌, ◌<◌, ◌≤◌, length, List, [], ◌∷◌, ◌++◌, Bool, true, false, cond, ◌||◌, is_some, inl, inr, Option, Some, None, refl, sym, ap, ◌∙◌, arith, take, get_or, eqb}
use Rattle.std.specs.Prelude.{find, nat_le, ◌==◌}
use Rattle.std.specs.Option.{option_or, option_map}
use Rattle.std.specs.List.{list_any}
use Rattle.std.specs.Ordering.{nat_cmp, eq_by_cmp}
use Rattle.std.specs.Cmp.{unsigned_tied}
use Rattle.std.specs.FinMap as pages
use Rattle.std.specs.FinMap.{contains_key-keys}
use Rattle.std.proofs.lemmas.Bool.{cases_eq}
use Rattle.std.proofs.lemmas.Bool.Decides.{nat_tests}
use Rattle.std.proofs.lemmas.List.{take_more, take_all}
use Rattle.std.proofs.lemmas.List.Folds.{list_any-append}
use Rattle.lf_sqlite_pages.specs.Change.{PageChange, IsChange, written}
use Rattle.lf_sqlite_pages.specs.Writes.{writes_of}
use Rattle.lf_sqlite_pages.specs.declared.page_write.PageWrite.{PageWrite}
use Rattle.lf_sqlite_pages.proofs.Writes.{writes_of-same, writes_of-change}
use Rattle.database_file.specs.DatabaseFile.{DatabaseFile}
use Rattle.database_file.specs.CommitParts.{one_write, kept_to}
use Rattle.database_file.proofs.ZeroLemmas.{get_cut}

-- whether a number is among some numbers
abbrev pub among : List ℕ → ℕ → Bool
among numbers n = list_any (eq_by_cmp nat_cmp n) numbers

-- so far a change writes what is kept at some numbers
abbrev pub WritesKept : DatabaseFile → ℕ → List ℕ → List PageWrite → Type 0
WritesKept file count numbers writes = (n : ℕ) → written writes n ≡ cond (among numbers n) (kept_to file count n) None

found-first : (b : Bool) (x : PageWrite) (r s : Option PageWrite) (t : Option (List ℕ)) →
    option_map (λ (w : PageWrite). w.bytes) s ≡ option_or (option_map (λ (w : PageWrite). w.bytes) r) t →
    option_map (λ (w : PageWrite). w.bytes) (cond b (Some x) s) ≡ option_or (option_map (λ (w : PageWrite). w.bytes) (cond b (Some x) r)) t
found-first true x r s t h = refl
found-first false x r s t h = h

-- what writes one after another write
pub written-append : (xs ys : List PageWrite) (n : ℕ) → written (xs ++ ys) n ≡ option_or (written xs n) (written ys n)
written-append [] ys n = refl
written-append (x ∷ xs) ys n =
    found-first (x.number == n) x (find (λ w. w.number == n) xs) (find (λ w. w.number == n) (xs ++ ys)) (written ys n) (written-append xs ys n)

pub written-one : (n : ℕ) (o : Option (List ℕ)) → written (one_write n o) n ≡ o
written-one n None = refl
written-one n (Some page) =
    let test : eqb n n ≡ true = grind (arith, nat_tests) in
    rw test refl

pub written-one_other : (k n : ℕ) (o : Option (List ℕ)) → n ≢ k → written (one_write k o) n ≡ None
written-one_other k n None ne = refl
written-one_other k n (Some page) ne =
    let test : eqb k n ≡ false = grind (arith, nat_tests) in
    rw test refl

either-one : (a : Bool) (o : Option (List ℕ)) → option_or (cond a o None) o ≡ cond (a || true) o None
either-one true None = refl
either-one true (Some x) = refl
either-one false o = refl

pub or_none : (o : Option (List ℕ)) → option_or o None ≡ o
or_none None = refl
or_none (Some x) = refl

or_false : (a : Bool) → (a || false) ≡ a
or_false true = refl
or_false false = refl

-- no page yet
pub writes-none : (file : DatabaseFile) (count : ℕ) → WritesKept file count [] []
writes-none file count n = refl

-- one number more
writes-more : (file : DatabaseFile) (count k : ℕ) (numbers : List ℕ) (writes : List PageWrite) → WritesKept file count numbers writes →
    WritesKept file count (numbers ++ k ∷ []) (writes ++ one_write k (kept_to file count k))
writes-more file count k numbers writes kept n =
    written-append writes (one_write k (kept_to file count k)) n
    ∙ elim (cases_eq n k) [
      | inl here ↦
          let test : (eqb n k || false) ≡ true = grind (arith, nat_tests) in
          rw (list_any-append (eq_by_cmp nat_cmp n) numbers (k ∷ []), unsigned_tied n k, test, kept n, here, written-one k (kept_to file count k))
          (either-one (among numbers k) (kept_to file count k))
      | inr other ↦
          let test : (eqb n k || false) ≡ false = grind (arith, nat_tests) in
          rw (list_any-append (eq_by_cmp nat_cmp n) numbers (k ∷ []), unsigned_tied n k, test, kept n, written-one_other k n (kept_to file count k) other, or_false (among numbers n))
          (or_none (cond (among numbers n) (kept_to file count n) None))
    ]

pub writes-next : (file : DatabaseFile) (count at : ℕ) (numbers : List ℕ) (old new : PageChange) → at < length numbers →
    old.commit ≡ count →
    WritesKept file count (take at numbers) old.pages →
    new ≡ record old { pages = old.pages ++ one_write (get_or numbers at 0) (kept_to file old.commit (get_or numbers at 0)) } →
    WritesKept file count (take (at + 1) numbers) new.pages
writes-next file count at numbers old new inside same kept is =
    let k : ℕ = get_or numbers at 0 in
    let pages : new.pages ≡ old.pages ++ one_write k (kept_to file count k) =
    ap (λ (c : PageChange). c.pages) is ∙ ap (λ (c : ℕ). old.pages ++ one_write k (kept_to file c k)) same in
    rw (take_more numbers at 0 inside, pages) (writes-more file count k (take at numbers) old.pages kept)

-- all of them
kept-by : (b : Bool) (kept at : Option (List ℕ)) → is_some at ≡ b → (at ≡ None → kept ≡ None) → cond b kept None ≡ kept
kept-by true kept at some none = refl
kept-by false kept None some none = sym (none refl)
kept-by false kept (Some page) some none = absurd (cc)

none_either_way : (b : Bool) (o : Option (List ℕ)) → o ≡ None → cond b o None ≡ None
none_either_way true o none = none
none_either_way false o none = refl

kept_to-none : (file : DatabaseFile) (count n : ℕ) → pages.get file.kept n ≡ None → kept_to file count n ≡ None
kept_to-none file count n none = get_cut file.kept count n ∙ none_either_way (nat_le n count) (pages.get file.kept n) none

kept_to-within : (file : DatabaseFile) (count n : ℕ) → n ≤ count → kept_to file count n ≡ pages.get file.kept n
kept_to-within file count n within =
    let test : nat_le n count ≡ true = grind (arith, nat_tests) in
    get_cut file.kept count n ∙ rw test refl

pub writes-all : (file : DatabaseFile) (count at : ℕ) (numbers : List ℕ) (change : PageChange) → numbers ≡ pages.keys file.kept → length numbers ≤ at →
    WritesKept file count (take at numbers) change.pages → IsChange change → change.commit ≡ count → change.pages ≡ writes_of (pages.get file.kept) count
writes-all file count at numbers change keys end kept valid same =
    let all : take at numbers ≡ pages.keys file.kept = take_all at numbers end ∙ keys in
    let told : WritesKept file count (pages.keys file.kept) change.pages = rw all at kept in
    sym (writes_of-change change valid)
    ∙ ap (writes_of (written change.pages)) same
    ∙ writes_of-same (written change.pages) (pages.get file.kept) count
    (λ n first last. told n ∙ kept-by (among (pages.keys file.kept) n) (kept_to file count n) (pages.get file.kept n) (contains_key-keys file.kept n) (kept_to-none file count n)
    ∙ kept_to-within file count n last)

-- each number of a kept page is among the keys, and kept
among-at : (xs : List ℕ) (k d : ℕ) → k < length xs → among xs (get_or xs k d) ≡ true
among-at [] k d inside = absurd (omega (arith, inside))
among-at (x ∷ xs) zero d inside =
    let test : eqb x x ≡ true = grind (arith, nat_tests) in
    rw (unsigned_tied x x, test) refl
among-at (x ∷ xs) (suc k) d inside =
    rw (among-at xs k d (omega (arith, inside))) (either (eq_by_cmp nat_cmp (get_or xs k d) x)) where
      either : (b : Bool) → (b || true) ≡ true
      either true = refl
      either false = refl

pub first-key : (m : pages.FinMap nat_cmp (List ℕ)) → ((n : ℕ) (page : List ℕ) → pages.get m n ≡ Some page → 1 ≤ n) →
    (k : ℕ) → k < length (pages.keys m) → 1 ≤ get_or (pages.keys m) k 0
first-key m first k inside =
    looked (pages.get m (get_or (pages.keys m) k 0)) refl where
      looked : (o : Option (List ℕ)) → pages.get m (get_or (pages.keys m) k 0) ≡ o → 1 ≤ get_or (pages.keys m) k 0
      looked (Some page) e = first (get_or (pages.keys m) k 0) page e
      looked None e =
          let some : is_some (pages.get m (get_or (pages.keys m) k 0)) ≡ true =
          contains_key-keys m (get_or (pages.keys m) k 0) ∙ among-at (pages.keys m) k 0 inside in
          absurd (let none = ap (λ (o : Option (List ℕ)). is_some o) e in cc (none, some))

-- a change by its parts
pub same_change : (x : PageChange) (size count : ℕ) (ws : List PageWrite) → x.page_size ≡ size → x.commit ≡ count → x.pages ≡ ws →
    x ≡ record { page_size = size; commit = count; pages = ws }
same_change x size count ws a b d =
    let made : record { page_size = x.page_size; commit = x.commit; pages = x.pages } ≡ record { page_size = size; commit = count; pages = ws } = rw (a, b, d) refl in
    made
