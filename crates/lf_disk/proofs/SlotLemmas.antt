-- What a list of names and files stands for.
use Rattle.std.proofs.Common.{◌≡◌, inl, inr, ℕ, zero, suc, ◌+◌, ◌<◌, ◌≤◌, Bool, true, false, cond, List, [], ◌∷◌, ◌++◌, length, slice_set, slice_index_or, Option, Some, None, refl, sym, ◌∙◌, ap, subst, arith}
use Rattle.std.proofs.lemmas.Bool.{cases_Bool, cases_lt, lt-ltb, le-ltb, false≢true}
use Rattle.std.proofs.Math.Numerals.{one-add}
use Rattle.std.specs.List.{position, position_or_len}
use Rattle.std.specs.Prelude.{not}
use Rattle.lf_disk.specs.declared.name.FileName.{FileName}
use Rattle.lf_disk.specs.declared.slots.Slot.{Slot}
use Rattle.lf_disk.specs.Folder.{same_name, with_file, Same}
use Rattle.lf_disk.specs.Slots.{folder_of, IsAbsent, IsStanding, IsOrderly, KeepsNames}
use Rattle.lf_disk.specs.Names.{same_name-refl, same_name-sym, same_name-one, same_name-trans, differs, differs_as}

-- the test that the search for a name makes
abbrev pub has : FileName → Slot → Bool
has name slot = same_name name slot.name

-- the name stands at this place, and at none before
abbrev pub IsPlace : FileName → List Slot → ℕ → Type 0
IsPlace name [] i = ⊥
IsPlace name (slot ∷ slots) zero = same_name name slot.name ≡ true
IsPlace name (slot ∷ slots) (suc i) = (same_name name slot.name ≡ false) × IsPlace name slots i

-- the list in which the name at a place has this file
abbrev pub with_file_at : ℕ → Option (List ℕ) → List Slot → List Slot
with_file_at i file [] = []
with_file_at zero file (slot ∷ slots) = record slot { file = file } ∷ slots
with_file_at (suc i) file (slot ∷ slots) = slot ∷ with_file_at i file slots

module _ (name : FileName) (slot : Slot) (slots : List Slot) where
  first : same_name name slot.name ≡ true → position_or_len (has name) (slot ∷ slots) ≡ 0
  first is = ap (λ (b : Bool). cond (not b) (1 + position_or_len (has name) slots) 0) is

  later : same_name name slot.name ≡ false → position_or_len (has name) (slot ∷ slots) ≡ suc (position_or_len (has name) slots)
  later isnt = ap (λ (b : Bool). cond (not b) (1 + position_or_len (has name) slots) 0) isnt ∙ one-add (position_or_len (has name) slots)

-- where the search ends
place_at : (name : FileName) (slots : List Slot) → position_or_len (has name) slots < length slots → IsPlace name slots (position_or_len (has name) slots)
place_at name [] within = absurd (omega arith)
place_at name (slot ∷ slots) within = elim (cases_Bool (same_name name slot.name)) [
  | inl is ↦ subst (λ (i : ℕ). IsPlace name (slot ∷ slots) i) (sym (first name slot slots is)) is
  | inr isnt ↦ subst (λ (i : ℕ). IsPlace name (slot ∷ slots) i) (sym (later name slot slots isnt)) (isnt, place_at name slots (omega (arith, later name slot slots isnt)))
]

-- and where it finds nothing
absent_past : (name : FileName) (slots : List Slot) → length slots ≤ position_or_len (has name) slots → IsAbsent name slots
absent_past name [] past = tt
absent_past name (slot ∷ slots) past = elim (cases_Bool (same_name name slot.name)) [
  | inl is ↦ absurd (omega (arith, first name slot slots is))
  | inr isnt ↦ (isnt, absent_past name slots (omega (arith, later name slot slots isnt)))
]

pub found : (name : FileName) (slots : List Slot) (i : ℕ) → position (has name) slots ≡ Some i → IsPlace name slots i
found name slots i is = elim (cases_lt (position_or_len (has name) slots) (length slots)) [
  | inl within ↦
      let here : Some (position_or_len (has name) slots) ≡ Some i = sym (ap (λ (b : Bool). cond b (Some (position_or_len (has name) slots)) None) (lt-ltb _ _ within)) ∙ is in
      let same : position_or_len (has name) slots ≡ i = cc in
      subst (λ (k : ℕ). IsPlace name slots k) same (place_at name slots within)
  | inr past ↦
      let none : None ≡ Some i = sym (ap (λ (b : Bool). cond b (Some (position_or_len (has name) slots)) None) (le-ltb _ _ past)) ∙ is in
      absurd (cc)
]

pub absent : (name : FileName) (slots : List Slot) → position (has name) slots ≡ None → IsAbsent name slots
absent name slots is = elim (cases_lt (position_or_len (has name) slots) (length slots)) [
  | inl within ↦
      let some : Some (position_or_len (has name) slots) ≡ None = sym (ap (λ (b : Bool). cond b (Some (position_or_len (has name) slots)) None) (lt-ltb _ _ within)) ∙ is in
      absurd (cc)
  | inr past ↦ absent_past name slots past
]

pub stands : (name : FileName) (slots : List Slot) (i : ℕ) → IsPlace name slots i → IsStanding name slots
stands name [] i here gone = here
stands name (slot ∷ slots) zero here gone = false≢true (sym gone.0 ∙ here)
stands name (slot ∷ slots) (suc i) here gone = stands name slots i here.1 gone.1

pub within : (name : FileName) (slots : List Slot) (i : ℕ) → IsPlace name slots i → i < length slots
within name [] i here = absurd here
within name (slot ∷ slots) zero here = omega arith
within name (slot ∷ slots) (suc i) here = omega (arith, within name slots i here.1)

-- a name that stands nowhere has no file
pub folder-absent : (name : FileName) (slots : List Slot) → IsAbsent name slots → folder_of slots name ≡ None
folder-absent name [] gone = refl
folder-absent name (slot ∷ slots) gone = rw gone.0 (folder-absent name slots gone.1)

neither : (b : Bool) → ◌≡◌ {A = Option (List ℕ)} (cond b None None) None
neither true = refl
neither false = refl

-- and at the end of the list it changes nothing
pub folder-push : (name : FileName) (slots : List Slot) → Same (folder_of slots) (folder_of (slots ++ record { name = name; file = None } ∷ []))
folder-push name [] n = neither (same_name n name)
folder-push name (slot ∷ slots) n = ap (λ (f : Option (List ℕ)). cond (same_name n slot.name) slot.file f) (folder-push name slots n)

pub stands-push : (name : FileName) (slots : List Slot) → IsStanding name (slots ++ record { name = name; file = None } ∷ [])
stands-push name [] gone = false≢true (sym gone.0 ∙ same_name-refl name)
stands-push name (slot ∷ slots) gone = stands-push name slots gone.1

absent-push : (other name : FileName) (slots : List Slot) → IsAbsent other slots → same_name other name ≡ false → IsAbsent other (slots ++ record { name = name; file = None } ∷ [])
absent-push other name [] gone differs = (differs, tt)
absent-push other name (slot ∷ slots) gone differs = (gone.0, absent-push other name slots gone.1 differs)

pub orderly-push : (name : FileName) (slots : List Slot) → IsAbsent name slots → IsOrderly slots → IsOrderly (slots ++ record { name = name; file = None } ∷ [])
orderly-push name [] gone orderly = (tt, tt)
orderly-push name (slot ∷ slots) gone orderly = (absent-push slot.name name slots orderly.0 (same_name-sym slot.name name ∙ gone.0), orderly-push name slots gone.1 orderly.1)

-- a file given to the name at a place
pub set-file : (slots : List Slot) (i : ℕ) (slot : Slot) (file : Option (List ℕ)) → slot ≡ slice_index_or slots i slot → slice_set slots i (record { name = slot.name; file = file }) ≡ with_file_at i file slots
set-file [] i slot file is = refl
set-file (first ∷ slots) zero slot file is = λ k. record { name = (is k).name; file = file } ∷ slots
set-file (first ∷ slots) (suc i) slot file is = ap (λ (l : List Slot). first ∷ l) (set-file slots i slot file is)

pub file-at : (name : FileName) (slots : List Slot) (i : ℕ) (d : Slot) → IsPlace name slots i → (slice_index_or slots i d).file ≡ folder_of slots name
file-at name [] i d here = absurd here
file-at name (slot ∷ slots) zero d here = rw here refl
file-at name (slot ∷ slots) (suc i) d here = rw here.0 (file-at name slots i d here.1)

pub folder-with_file_at : (name : FileName) (slots : List Slot) (i : ℕ) (file : Option (List ℕ)) → IsPlace name slots i → Same (with_file name file (folder_of slots)) (folder_of (with_file_at i file slots))
folder-with_file_at name [] i file here n = absurd here
folder-with_file_at name (slot ∷ slots) zero file here n = elim (cases_Bool (same_name n slot.name)) [
  | inl is ↦ rw (is, same_name-trans n slot.name name is (same_name-sym slot.name name ∙ here)) refl
  | inr isnt ↦ rw (isnt, differs n name slot.name here isnt) refl
]
folder-with_file_at name (slot ∷ slots) (suc i) file here n = elim (cases_Bool (same_name n slot.name)) [
  | inl is ↦ rw (is, differs_as n slot.name name is (same_name-sym slot.name name ∙ here.0)) refl
  | inr isnt ↦ rw isnt (folder-with_file_at name slots i file here.1 n)
]

-- names stay where they are
absent-stays : (name : FileName) (slots : List Slot) (j : ℕ) (file : Option (List ℕ)) → IsAbsent name slots → IsAbsent name (with_file_at j file slots)
absent-stays name [] j file gone = gone
absent-stays name (slot ∷ slots) zero file gone = gone
absent-stays name (slot ∷ slots) (suc j) file gone = (gone.0, absent-stays name slots j file gone.1)

absent-was : (name : FileName) (slots : List Slot) (j : ℕ) (file : Option (List ℕ)) → IsAbsent name (with_file_at j file slots) → IsAbsent name slots
absent-was name [] j file gone = gone
absent-was name (slot ∷ slots) zero file gone = gone
absent-was name (slot ∷ slots) (suc j) file gone = (gone.0, absent-was name slots j file gone.1)

orderly-stays : (slots : List Slot) (j : ℕ) (file : Option (List ℕ)) → IsOrderly slots → IsOrderly (with_file_at j file slots)
orderly-stays [] j file orderly = orderly
orderly-stays (slot ∷ slots) zero file orderly = orderly
orderly-stays (slot ∷ slots) (suc j) file orderly = (absent-stays slot.name slots j file orderly.0, orderly-stays slots j file orderly.1)

keeps-names : (slots : List Slot) (j : ℕ) (file : Option (List ℕ)) → KeepsNames slots (with_file_at j file slots)
keeps-names slots j file = record {
  standing = λ name stands gone. stands (absent-was name slots j file gone);
  orderly = orderly-stays slots j file;
}

-- what a write of a file at its name's place does
module _ (name : FileName) (slots : List Slot) (i : ℕ) (slot : Slot) (file : Option (List ℕ)) (here : position (has name) slots ≡ Some i) (is : slot ≡ slice_index_or slots i slot) where
  pub was : slot.file ≡ folder_of slots name
  was = ap (λ (s : Slot). s.file) is ∙ file-at name slots i slot (found name slots i here)

  pub folder-set : Same (with_file name file (folder_of slots)) (folder_of (slice_set slots i (record { name = slot.name; file = file })))
  folder-set n = ap (λ (l : List Slot). folder_of l n) (set-file slots i slot file is) ∙ folder-with_file_at name slots i file (found name slots i here) n

  pub names-set : KeepsNames slots (slice_set slots i (record { name = slot.name; file = file }))
  names-set = subst (λ (l : List Slot). KeepsNames slots l) (sym (set-file slots i slot file is)) (keeps-names slots i file)

-- a name without a file that gets none
pub folder-none : (name : FileName) (slots : List Slot) → position (has name) slots ≡ None → Same (with_file name None (folder_of slots)) (folder_of slots)
folder-none name slots none n = elim (cases_Bool (same_name n name)) [
  | inl is ↦ rw is (ap (λ (m : FileName). folder_of slots m) (same_name-one n name is) ∙ folder-absent name slots (absent name slots none))
  | inr isnt ↦ rw isnt refl
]
