-- Pages that are compared with those of a store.
use Rattle.std.proofs.Common.{◌≡◌, ◌≢◌, ℕ, ◌+◌, ◌-◌, ◌*◌, ◌<◌, ◌≤◌, Bool, true, false, inl, inr, eqb, Some, None, List, [], ◌∷◌, ◌++◌, drop, length, length-drop, length-take, replicate, refl, sym, ◌∙◌, ap, subst, arith}
use Rattle.std.specs.List.{All}
use Rattle.std.specs.Prelude.{◌==◌, ◌&&◌, nat_le, IfSome, IsSome, Option, if◌then◌else◌}
use Rattle.std.proofs.Math.Nat.{mul-le-mul_right}
use Rattle.std.proofs.lemmas.Bool.{and_parts, cases_eq, cases_lt, eqb-true}
use Rattle.std.proofs.lemmas.Bool.Decides.{nat_tests}
use Rattle.std.proofs.lemmas.List.{length-replicate}
use Rattle.lf_disk.specs.declared.name.FileName.TheVariants.{Database}
use Rattle.lf_disk.specs.Folder.{Folder, bytes_of}
use Rattle.lf_sqlite_pages.specs.Change.{FitsOver, PageChange, with_page, written}
use Rattle.lf_sqlite_pages.specs.Header.{page_size_of, stated_page_size}
use Rattle.lf_sqlite_pages.specs.Image.{DatabaseImage, SameImage, page_at}
use Rattle.lf_sqlite_pages.specs.LockPage.{lock_page_of, IsDataPage}
use Rattle.lf_sqlite_pages.specs.PageSize.{IsPageSize, is_page_size}
use Rattle.lf_sqlite_pages.specs.Writes.{writes_of}
use Rattle.lf_sqlite_pages.specs.declared.page_write.PageWrite.{PageWrite}
use Rattle.lf_sqlite_pages.proofs.LockPages.{IsDataPage-below, page_size-positive}
use Rattle.lf_sqlite_pages.proofs.PageNumbers.{page_at-past}
use Rattle.lf_sqlite_pages.proofs.Writes.{All-writes_of, writes_of-none, writes_of-some, written-writes_of}
use Rattle.database_file.specs.Commit.{LeadsTo, difference, has_page, page_changed}
use Rattle.database_file.specs.CommitParts.{changes_nothing}
use Rattle.database_file.proofs.DifferenceLemmas.{has-is, has-no, has-yes, page-there, same-all}
use Rattle.world_laws.proofs.Snapshots.{some_alike}
use Rattle.txn_log.specs.Pages.{in_place, page_in}
use Rattle.txn_log.specs.Store.{image_in}
use Rattle.txn_log.proofs.PagesRead.{count, page_at-in}
use Rattle.txn_log.proofs.Places.{page_end}
use Rattle.txn_log.proofs.Puttings.{page_in-data, page_in-lock}
use Rattle.snapshot.specs.Bytes.{image_of_pages}
use Rattle.snapshot.specs.Pages.{HasPages}
use Rattle.snapshot.proofs.StoreLemmas.{page_size-most}

-- a page that lies whole in the bytes is of the page size
whole_page : (size pages : ℕ) (bytes : List ℕ) (n : ℕ) → pages * size ≤ length bytes → 1 ≤ n → n ≤ pages → length (page_in size bytes n) ≡ size
whole_page size pages bytes n room first last = elim (cases_eq n (lock_page_of size)) [
  | inl lock ↦ ap length (page_in-lock size bytes n lock) ∙ length-replicate {A = ℕ} size 0
  | inr other ↦
      let at = (n - 1) * size in
      let inside : n * size ≤ pages * size = mul-le-mul_right size last in
      ap length (page_in-data size bytes n other)
      ∙ omega (arith, page_end size n first, inside, room, length-take size (drop at bytes), length-drop at bytes)
]

pub whole_in : (size commit : ℕ) (f : Folder) (n : ℕ) → HasPages size commit f → 1 ≤ n → n ≤ commit → length (page_in size (bytes_of (f Database)) n) ≡ size
whole_in size commit f n has first last = whole_page size commit (bytes_of (f Database)) n (omega (arith, has)) first last

-- there is no page past the last
pub absent : (size commit : ℕ) (f : Folder) (n : ℕ) (page : List ℕ) → commit < n → false ≡ has_page (image_in size commit f) n page
absent size commit f n page past = sym (has-no (image_in size commit f) n page
    (λ same.
    let none : page_at (image_in size commit f) n ≡ None = page_at-past (image_in size commit f) n (omega (arith, past, count size commit f)) in
    let both : Some page ≡ None = sym same ∙ none in
    cc))

-- and none of another size
pub other_size : (size commit : ℕ) (f : Folder) (n : ℕ) (page : List ℕ) → HasPages size commit f → 1 ≤ n → n ≤ commit → length page ≢ size → false ≡ has_page (image_in size commit f) n page
other_size size commit f n page has first last other = sym (has-no (image_in size commit f) n page
    (λ same.
    let it = some_alike _ page (sym (page_at-in size commit f n first last) ∙ same) in
    other (ap length (sym it) ∙ whole_in size commit f n has first last)))

-- bytes as the file of a folder
abbrev holding : List ℕ → Folder
holding bytes = λ _. Some bytes

pub length_of : (size pages : ℕ) (bytes : List ℕ) → length (image_of_pages size pages bytes).pages ≡ pages
length_of size pages bytes = count size pages (holding bytes)

place_is : (size n : ℕ) (bytes : List ℕ) → n ≢ lock_page_of size → page_in size bytes n ≡ in_place size n bytes
place_is size n bytes other =
    let test : eqb n (lock_page_of size) ≡ false = grind (arith, nat_tests) in
    rw test refl

-- a data page of the bytes
pub page_there : (size pages n : ℕ) (bytes : List ℕ) → 1 ≤ n → n ≤ pages → n ≢ lock_page_of size → page_at (image_of_pages size pages bytes) n ≡ Some (in_place size n bytes)
page_there size pages n bytes first last other = page_at-in size pages (holding bytes) n first last ∙ ap (λ (p : List ℕ). Some p) (place_is size n bytes other)

changed_is : (image other : DatabaseImage) (n : ℕ) (page : List ℕ) → n ≢ lock_page_of other.page_size → page_at other n ≡ Some page →
    page_changed image other n ≡ (if has_page image n page then None else Some page)
changed_is image other n page is_data is =
    let test : eqb n (lock_page_of other.page_size) ≡ false = grind (arith, nat_tests) in
    rw (test, is) refl

unchanged_lock : (image other : DatabaseImage) (n : ℕ) → n ≡ lock_page_of other.page_size → page_changed image other n ≡ None
unchanged_lock image other n lock =
    let test : eqb n (lock_page_of other.page_size) ≡ true = grind (arith, nat_tests) in
    rw test refl

pub writes_lock : (image other : DatabaseImage) (k : ℕ) → k + 1 ≡ lock_page_of other.page_size → writes_of (page_changed image other) (k + 1) ≡ writes_of (page_changed image other) k
writes_lock image other k lock = writes_of-none (page_changed image other) k (unchanged_lock image other (k + 1) lock)

next : (image other : DatabaseImage) (k : ℕ) (page : List ℕ) (old new : PageChange) (b : Bool) → page_changed image other (k + 1) ≡ (if b then None else Some page) →
    old.pages ≡ writes_of (page_changed image other) k → new ≡ (if b then old else with_page old (k + 1) page) → new.pages ≡ writes_of (page_changed image other) (k + 1)
next image other k page old new true is so_far new_is = ap (λ (c : PageChange). c.pages) new_is ∙ so_far ∙ sym (writes_of-none (page_changed image other) k is)
next image other k page old new false is so_far new_is =
    ap (λ (c : PageChange). c.pages) new_is ∙ ap (λ (ws : List PageWrite). ws ++ record { number = k + 1; bytes = page } ∷ []) so_far
    ∙ sym (writes_of-some (page_changed image other) k page is)

-- one page further
pub compared : (image other : DatabaseImage) (k : ℕ) (page : List ℕ) (old new : PageChange) → k + 1 ≢ lock_page_of other.page_size → page_at other (k + 1) ≡ Some page →
    old.pages ≡ writes_of (page_changed image other) k → new ≡ (if has_page image (k + 1) page then old else with_page old (k + 1) page) →
    new.pages ≡ writes_of (page_changed image other) (k + 1)
compared image other k page old new is_data is so_far new_is = next image other k page old new (has_page image (k + 1) page) (changed_is image other (k + 1) page is_data is) so_far new_is

pub all_compared : (image other : DatabaseImage) (k : ℕ) (change : PageChange) → change.page_size ≡ other.page_size → change.commit ≡ length other.pages → k ≡ length other.pages →
    change.pages ≡ writes_of (page_changed image other) k → change ≡ difference image other
all_compared image other k change size commit all pages =
    let last : change.pages ≡ writes_of (page_changed image other) (length other.pages) = pages ∙ ap (writes_of (page_changed image other)) all in
    λ i. record { page_size = size i; commit = commit i; pages = last i }

pub none_compared : (image other : DatabaseImage) → [] ≡ writes_of (page_changed image other) 0
unfolding writes_of
none_compared image other = refl

-- a page size that a first page states is one
same_number : (s size : ℕ) → Some s ≡ Some size → s ≡ size
same_number s size e = cc

stated : (b p : Bool) (s size : ℕ) → is_page_size s ≡ p → (if b && p then Some s else None) ≡ Some size → IsPageSize size
stated true true s size is e = subst IsPageSize (same_number s size e) is
stated true false s size is e = absurd (cc)
stated false p s size is e = absurd (cc)

pub stated_size : (bytes : List ℕ) (size : ℕ) → page_size_of bytes ≡ Some size → IsPageSize size
stated_size bytes size is = stated (nat_le 18 (length bytes)) (is_page_size (stated_page_size bytes)) (stated_page_size bytes) size refl is

-- images of the same pages differ nowhere
if_true : (b : Bool) (page : List ℕ) → b ≡ true → (if b then None else Some page) ≡ None
if_true true page e = refl
if_true false page e = absurd (cc)

from_none : (b : Bool) (page : List ℕ) → (if b then None else Some page) ≡ None → b ≡ true
from_none true page e = refl
from_none false page e = absurd (cc)

unchanged : (image other : DatabaseImage) (n : ℕ) (bytes : List ℕ) → SameImage other image → 1 ≤ n → n ≤ length other.pages → page_changed image other n ≢ Some bytes
unchanged image other n bytes same first last is = elim (cases_eq n (lock_page_of other.page_size)) [
  | inl lock ↦
      let none : page_changed image other n ≡ None = unchanged_lock image other n lock in
      let both : Some bytes ≡ None = sym is ∙ none in
      cc
  | inr is_data ↦
      let there = page-there other n first last in
      let kept : page_at image n ≡ Some there.0 = sym (ap (λ (all : List (List ℕ)). page_at (record { page_size = 0; pages = all }) n) same) ∙ there.1 in
      let none : page_changed image other n ≡ None = changed_is image other n there.0 is_data there.1 ∙ if_true (has_page image n there.0) there.0 (has-yes image n there.0 kept) in
      let both : Some bytes ≡ None = sym is ∙ none in
      cc
]

none_left : (ws : List PageWrite) → All (λ (w : PageWrite). ⊥) ws → ws ≡ []
none_left [] all = refl
none_left (w ∷ ws) all = absurd (all 0 w (omega arith))

differs_nowhere : (image other : DatabaseImage) → SameImage other image → (difference image other).pages ≡ []
differs_nowhere image other same =
    none_left (difference image other).pages (All-writes_of (λ (w : PageWrite). ⊥) (page_changed image other) (length other.pages) (λ n bytes first last is. unchanged image other n bytes same first last is))

-- where the difference writes nothing each data page is the same
same_page : (image other : DatabaseImage) (n : ℕ) → (difference image other).pages ≡ [] → n ≢ lock_page_of other.page_size → 1 ≤ n → n ≤ length other.pages → page_at other n ≡ page_at image n
same_page image other n none is_data first last =
    let there = page-there other n first last in
    let changed : page_changed image other n ≡ None =
    sym (written-writes_of (page_changed image other) (length other.pages) n first last) ∙ ap (λ (ws : List PageWrite). written ws n) none in
    let kept = sym (changed_is image other n there.0 is_data there.1) ∙ changed in
    there.1 ∙ sym (has-is image n there.0 (from_none (has_page image n there.0) there.0 kept))

page_one : (s : ℕ) → IsPageSize s → IsDataPage s 1
page_one s is = IsDataPage-below s 1 (page_size-positive s is) (omega (arith, page_size-most s is))

-- so is the page size, and with it the lock page, which is zeros
pub same_images : (size commit : ℕ) (f : Folder) (s pages : ℕ) (bytes : List ℕ) → HasPages size commit f → IsPageSize s → 1 ≤ pages → pages * s ≤ length bytes →
    (difference (image_in size commit f) (image_of_pages s pages bytes)).pages ≡ [] → pages ≡ commit → SameImage (image_of_pages s pages bytes) (image_in size commit f)
same_images size commit f s pages bytes has is_size some room none long =
    let image : DatabaseImage = image_in size commit f in
    let other : DatabaseImage = image_of_pages s pages bytes in
    let file : List ℕ = bytes_of (f Database) in
    let all : length other.pages ≡ pages = length_of s pages bytes in
    let one : page_at other 1 ≡ page_at image 1 = same_page image other 1 none (page_one s is_size) (omega arith) (omega (arith, some, all)) in
    let first_page : page_in s bytes 1 ≡ page_in size file 1 =
    some_alike (page_in s bytes 1) (page_in size file 1)
    (sym (page_at-in s pages (holding bytes) 1 (omega arith) some) ∙ one ∙ page_at-in size commit f 1 (omega arith) (omega (arith, some, long))) in
    let sizes : s ≡ size =
    sym (whole_page s pages bytes 1 room (omega arith) some) ∙ ap length first_page ∙ whole_in size commit f 1 has (omega arith) (omega (arith, some, long)) in
    same-all other image (all ∙ long ∙ sym (count size commit f))
    (λ n first last. elim (cases_eq n (lock_page_of s)) [
      | inl lock ↦
          let blank : page_in s bytes n ≡ page_in size file n =
          page_in-lock s bytes n lock ∙ ap (λ (k : ℕ). replicate k 0) sizes ∙ sym (page_in-lock size file n (lock ∙ ap lock_page_of sizes)) in
          page_at-in s pages (holding bytes) n first (omega (arith, last, all)) ∙ ap (λ (p : List ℕ). Some p) blank
          ∙ sym (page_at-in size commit f n first (omega (arith, last, all, long)))
      | inr is_data ↦ same_page image other n none is_data first last
    ])

-- where the difference changes nothing there is none, else it leads to the other image
pub leads : (image other : DatabaseImage) (change : PageChange) (b : Bool) → ((difference image other).pages ≡ [] → length other.pages ≡ length image.pages → SameImage other image) →
    change ≡ difference image other → changes_nothing change (length image.pages) ≡ b → LeadsTo image other (if b then None else Some change)
leads image other change false alike is nothing = (
  λ same.
      let none : (difference image other).pages ≡ [] = differs_nowhere image other same in
      let long : length other.pages ≡ length image.pages = ap length same in
      let test : eqb (length other.pages) (length image.pages) ≡ true = grind (arith, nat_tests) in
      let here : changes_nothing (difference image other) (length image.pages) ≡ true = rw (none, test) refl in
      let all : changes_nothing change (length image.pages) ≡ true = rw is here in
      absurd (cc (all, nothing)),
  is,
)
leads image other change true alike is nothing =
    let parts : ((length other.pages == length image.pages) && (length (difference image other).pages == 0)) ≡ true = rw is at nothing in
    let both = and_parts _ _ parts in
    alike (empty (difference image other).pages (eqb-true _ _ both.1)) (eqb-true _ _ both.0) where
      empty : (ws : List PageWrite) → length ws ≡ 0 → ws ≡ []
      empty [] e = refl
      empty (w ∷ ws) e = absurd (omega (arith, e))

-- a data page of the bytes is written where the image has no page of its size there
writes_other : (size commit : ℕ) (f : Folder) (s pages n : ℕ) (bytes : List ℕ) → HasPages size commit f → pages * s ≤ length bytes → size ≢ s → 1 ≤ n → n ≤ pages → n ≢ lock_page_of s →
    written (difference (image_in size commit f) (image_of_pages s pages bytes)).pages n ≡ Some (in_place s n bytes)
writes_other size commit f s pages n bytes has room other first last is_data =
    let image : DatabaseImage = image_in size commit f in
    let made : DatabaseImage = image_of_pages s pages bytes in
    let page : List ℕ = in_place s n bytes in
    let long : length page ≡ s = ap length (sym (place_is s n bytes is_data)) ∙ whole_page s pages bytes n room first last in
    let none : has_page image n page ≡ false = elim (cases_lt commit n) [
      | inl past ↦ sym (absent size commit f n page past)
      | inr within ↦ sym (other_size size commit f n page has first within (λ same. other (sym same ∙ long)))
    ] in
    let writes : page_changed image made n ≡ Some page = changed_is image made n page is_data (page_there s pages n bytes first last is_data) ∙ ap (λ (b : Bool). if b then None else Some page) none in
    written-writes_of (page_changed image made) (length made.pages) n first (omega (arith, last, length_of s pages bytes)) ∙ writes

-- so the change fits the database whatever its page size is
pub fits : (size commit : ℕ) (f : Folder) (s pages : ℕ) (bytes : List ℕ) → HasPages size commit f → pages * s ≤ length bytes →
    FitsOver size commit (difference (image_in size commit f) (image_of_pages s pages bytes))
fits size commit f s pages bytes has room = elim (cases_eq size s) [
  | inl same ↦ inl same
  | inr other ↦
      inr (inr (λ n first last is_data.
      let within : n ≤ pages = omega (arith, last, length_of s pages bytes) in
      subst IsSome (sym (writes_other size commit f s pages n bytes has room other first within is_data)) refl))
]

-- and where it changes nothing there is none
pub fits-some : (size commit : ℕ) (change : PageChange) (b : Bool) → FitsOver size commit change → IfSome (if b then None else Some change) (FitsOver size commit)
fits-some size commit change true fit = tt
fits-some size commit change false fit = fit
