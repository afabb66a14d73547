-- Filling slots, one after another, and what slots hold that files filled.
use Rattle.std.proofs.Common.{◌≡◌, ℕ, ◌+◌, ◌-◌, ◌<◌, ◌≤◌, Bool, true, false, ltb, eqb, cond, Option, Some, None, List, [], ◌∷◌, ◌++◌, length, take, drop, get_or, min, replicate, refl, sym, ◌∙◌, ap, subst, inl, inr, arith}
use Rattle.std.specs.List.{All, find}
use Rattle.std.specs.Option.{IsSome, option_or, option_map}
use Rattle.std.proofs.lemmas.Bool.{cases_eq, cases_lt}
use Rattle.std.proofs.lemmas.Bool.Decides.{nat_tests}
use Rattle.std.proofs.lemmas.List.{take_more, drop_more, get_or-replicate, length-replicate}
use Rattle.std.proofs.lemmas.List.Elements.{All-cons}
use Rattle.std.proofs.lemmas.List.Folds.{find-append}
use Rattle.lf_sqlite_pages.specs.Change.{AscendsAbove, written}
use Rattle.lf_sqlite_pages.specs.declared.page_write.PageWrite.{PageWrite}
use Rattle.ltx_codec.specs.declared.file.Ltx.{Ltx}
use Rattle.ltx_compact.specs.Compaction.{page_past, page_of}
use Rattle.ltx_compact.specs.Slots.{Slots, page_in, AreFilled, cut_page, HoldPages}
use Rattle.ltx_compact.proofs.Left.{option_or-none, option_or_assoc, page_of-before, page_of-none}

-- some slots are filled, and then some more
pub AreFilled-more : (before now after : Slots) (p q r : ℕ → Option (List ℕ)) → AreFilled before p now → AreFilled now q after →
    ((n : ℕ) → r n ≡ option_or (p n) (q n)) → AreFilled before r after
AreFilled-more before now after p q r first second both = record {
  count = second.count ∙ first.count;
  pages = λ n low high.
      second.pages n low (omega (arith, first.count)) ∙ ap (λ o. option_or o (q n)) (first.pages n low high)
      ∙ option_or_assoc (page_in before n) (p n) (q n) ∙ ap (option_or (page_in before n)) (sym (both n));
}

-- the bytes of one of two writes
option_map-or : (f : PageWrite → List ℕ) (o p : Option PageWrite) → option_map f (option_or o p) ≡ option_or (option_map f o) (option_map f p)
option_map-or f None p = refl
option_map-or f (Some w) p = refl

-- a write alone
written-one : (w : PageWrite) (index n : ℕ) → index + 1 ≡ w.number → written (w ∷ []) n ≡ cond (eqb n (index + 1)) (Some w.bytes) None
written-one w index n number =
    elim (cases_eq w.number n) [
      | inl same ↦
          let test : eqb w.number n ≡ true = grind (arith, nat_tests) in
          let place : eqb n (index + 1) ≡ true = grind (arith, nat_tests) in
          rw (test, place) refl
      | inr other ↦
          let test : eqb w.number n ≡ false = grind (arith, nat_tests) in
          let place : eqb n (index + 1) ≡ false = grind (arith, nat_tests) in
          rw (test, place) refl
    ]

-- one more page that is written
pub written-more : (pages : List PageWrite) (i index : ℕ) (w : PageWrite) (page : List ℕ) (n : ℕ) → i < length pages → w ≡ get_or pages i w →
    index + 1 ≡ w.number → page ≡ w.bytes →
    written (take (i + 1) pages) n ≡ option_or (written (take i pages) n) (cond (eqb n (index + 1)) (Some page) None)
written-more pages i index w page n within read number same =
    let p : PageWrite → Bool = λ v. eqb v.number n in
    let more : take (i + 1) pages ≡ take i pages ++ w ∷ [] =
    take_more pages i w within ∙ ap (λ (v : PageWrite). take i pages ++ v ∷ []) (sym read)
    in
    ap (λ (ws : List PageWrite). written ws n) more ∙ ap (option_map (λ (v : PageWrite). v.bytes)) (find-append p (take i pages) (w ∷ []))
    ∙ option_map-or (λ (v : PageWrite). v.bytes) (find p (take i pages)) (find p (w ∷ []))
    ∙ ap (option_or (written (take i pages) n)) (written-one w index n number ∙ ap (λ (b : List ℕ). cond (eqb n (index + 1)) (Some b) None) (sym same))

-- the numbers of pages that ascend above a number are above it
pub above-ascending : (number : ℕ) (ws : List PageWrite) → AscendsAbove number ws → All (λ w. number < w.number) ws
above-ascending number [] ascending = λ k d within. absurd (omega arith)
above-ascending number (w ∷ ws) ascending =
    All-cons (λ (v : PageWrite). number < v.number) w ws ascending.0
    (λ k d within. let later = above-ascending w.number ws ascending.1 k d within in omega (arith, later, ascending.0))

-- empty slots are those of no file
pub HoldPages-none : (commit : ℕ) (slots : Slots) → slots ≡ replicate commit None → HoldPages [] commit slots
HoldPages-none commit slots empty = record {
  count = ap length empty ∙ length-replicate commit None;
  pages = λ n first last.
      let inside : n - 1 < commit = omega arith in
      ap (λ (s : Slots). page_in s n) empty ∙ get_or-replicate commit (n - 1) None None inside ∙ sym (page_of-none n);
}

-- what one file fills, where a page past low is there
joined : (o w : Option (List ℕ)) (past cut : Bool) (zeros : List ℕ) → (cut ≡ true → IsSome o) →
    option_or (option_or o (cond past (cond cut None (Some zeros)) None)) w ≡ option_or o (cond past (Some zeros) (option_or w None))
joined (Some x) w past cut zeros there = refl
joined None w false cut zeros there = sym (option_or-none w)
joined None w true true zeros there = let none : IsSome {T = List ℕ} None = there refl in absurd cc
joined None w true false zeros there = refl

-- the pages past a number, up to commit, are all there
abbrev pub AreLeftPast : List Ltx → ℕ → ℕ → Type 0
AreLeftPast files low commit = (n : ℕ) → low < n → n ≤ commit → IsSome (page_of files n)

-- what a file does to slots that hold what the later ones leave
pub record IsTaken (file : Ltx) (zeros : List ℕ) (low : ℕ) (slots cut_slots new_slots : Slots) : Type 0 where
  pub zeros_are : zeros ≡ replicate file.change.page_size 0
  pub cut : AreFilled slots (cut_page file.change.commit low zeros) cut_slots
  pub wrote : AreFilled cut_slots (written file.change.pages) new_slots

-- the slots then hold what it leaves too
pub HoldPages-more : (file : Ltx) (later : List Ltx) (zeros : List ℕ) (commit low : ℕ) (slots cut_slots new_slots : Slots) →
    IsTaken file zeros low slots cut_slots new_slots → HoldPages later commit slots → AreLeftPast later low commit → HoldPages (file ∷ later) commit new_slots
HoldPages-more file later zeros commit low slots cut_slots new_slots taken held left = record {
  count = taken.wrote.count ∙ taken.cut.count ∙ held.count;
  pages = λ n first last.
      let in_old : n ≤ length slots = omega (arith, held.count) in
      let in_cut : n ≤ length cut_slots = omega (arith, taken.cut.count) in
      let w : Option (List ℕ) = written file.change.pages n in
      let there : ltb low n ≡ true → IsSome (page_of later n) = λ test. let past : low < n = grind (arith, nat_tests) in left n past last in
      taken.wrote.pages n first in_cut
      ∙ ap (λ o. option_or o w) (taken.cut.pages n first in_old ∙ ap (λ o. option_or o (cut_page file.change.commit low zeros n)) (held.pages n first last))
      ∙ joined (page_of later n) w (ltb file.change.commit n) (ltb low n) zeros there
      ∙ ap (λ (z : List ℕ). option_or (page_of later n) (cond (ltb file.change.commit n) (Some z) (option_or w None))) taken.zeros_are
      ∙ sym (page_of-before file later n);
}

-- one of two pages is there, where either is
first-some : (o p : Option (List ℕ)) → IsSome o → IsSome (option_or o p)
first-some None p some = absurd cc
first-some (Some x) p some = refl

-- the same of the second
second-some : (o : Option (List ℕ)) (x : List ℕ) → IsSome (option_or o (Some x))
second-some None x = refl
second-some (Some y) x = refl

-- and the pages past its end are there too
pub AreLeftPast-more : (file : Ltx) (later : List Ltx) (commit low : ℕ) → AreLeftPast later low commit →
    AreLeftPast (file ∷ later) (min low file.change.commit) commit
AreLeftPast-more file later commit low left n past within =
    let P : Option (List ℕ) → Type 0 = λ o. IsSome o in
    subst P (sym (page_of-before file later n)) (elim (cases_lt low n) [
      | inl above ↦ first-some (page_of later n) (page_past n None file) (left n above within)
      | inr below ↦
          let cut : file.change.commit < n = omega arith in
          let test : ltb file.change.commit n ≡ true = grind (arith, nat_tests) in
          rw test (second-some (page_of later n) (replicate file.change.page_size 0))
    ])

-- the files from one place on begin with the one that stands there
pub drop-before : (files : List Ltx) (at : ℕ) (d : Ltx) → 0 < at → at ≤ length files → drop (at - 1) files ≡ get_or files (at - 1) d ∷ drop at files
drop-before files at d some within =
    let next : at - 1 + 1 ≡ at = omega arith in
    drop_more files (at - 1) d (omega arith) ∙ ap (λ (k : ℕ). get_or files (at - 1) d ∷ drop k files) next

-- a page of a list, then those behind it
pub written-cons : (w : PageWrite) (rest : List PageWrite) (index n : ℕ) → index + 1 ≡ w.number →
    written (w ∷ rest) n ≡ option_or (cond (eqb n (index + 1)) (Some w.bytes) None) (written rest n)
written-cons w rest index n number =
    let p : PageWrite → Bool = λ v. eqb v.number n in
    ap (option_map (λ (v : PageWrite). v.bytes)) (find-append p (w ∷ []) rest)
    ∙ option_map-or (λ (v : PageWrite). v.bytes) (find p (w ∷ [])) (find p rest)
    ∙ ap (λ o. option_or o (written rest n)) (written-one w index n number)

-- no page fills no slot
pub AreFilled-none : (slots : Slots) → AreFilled slots (written []) slots
AreFilled-none slots = record {
  count = refl;
  pages = λ n first last. sym (option_or-none (page_in slots n));
}
