-- The names that a folder in memory lists.
use Rattle.std.proofs.Common.{◌≡◌, inl, inr, ℕ, Bool, true, false, cond, List, [], ◌∷◌, Option, None, IsSome, sym, ◌∙◌, ap, subst, arith}
use Rattle.std.proofs.lemmas.Bool.{cases_Bool, false≢true}
use Rattle.std.proofs.lemmas.List.Elements.{Contains-append_right, Contains-append_cases, Contains-push_cases}
use Rattle.std.specs.Prelude.{map, filter, is_some, Contains}
use Rattle.std.specs.List.{IsDistinct, AllByRecursion}
use Rattle.lf_disk.specs.declared.name.FileName.{FileName}
use Rattle.lf_disk.specs.declared.slots.Slot.{Slot}
use Rattle.lf_disk.specs.Folder.{same_name}
use Rattle.lf_disk.specs.Names.{same_name-refl, same_name-one}
use Rattle.lf_disk.specs.Slots.{folder_of, names_of, IsAbsent, IsOrderly}
use Rattle.lf_disk.proofs.SlotLemmas.{folder-absent}

names-some : (slot : Slot) (slots : List Slot) → is_some slot.file ≡ true → names_of (slot ∷ slots) ≡ slot.name ∷ names_of slots
names-some slot slots some = ap (λ (b : Bool). map (λ (s : Slot). s.name) (cond b (slot ∷ filter (λ (s : Slot). is_some s.file) slots) (filter (λ (s : Slot). is_some s.file) slots))) some

names-none : (slot : Slot) (slots : List Slot) → is_some slot.file ≡ false → names_of (slot ∷ slots) ≡ names_of slots
names-none slot slots none = ap (λ (b : Bool). map (λ (s : Slot). s.name) (cond b (slot ∷ filter (λ (s : Slot). is_some s.file) slots) (filter (λ (s : Slot). is_some s.file) slots))) none

here : (n : FileName) (slot : Slot) (slots : List Slot) → same_name n slot.name ≡ true → folder_of (slot ∷ slots) n ≡ slot.file
here n slot slots is = ap (λ (b : Bool). cond b slot.file (folder_of slots n)) is

below : (n : FileName) (slot : Slot) (slots : List Slot) → same_name n slot.name ≡ false → folder_of (slot ∷ slots) n ≡ folder_of slots n
below n slot slots isnt = ap (λ (b : Bool). cond b slot.file (folder_of slots n)) isnt

-- a name that is not at the head of an orderly list
still : (n : FileName) (slot : Slot) (slots : List Slot) → IsOrderly (slot ∷ slots) → IsSome (folder_of slots n) → IsSome (folder_of (slot ∷ slots) n)
still n slot slots orderly some = elim (cases_Bool (same_name n slot.name)) [
  | inl is ↦
      let none : folder_of slots n ≡ None = ap (λ (m : FileName). folder_of slots m) (same_name-one n slot.name is) ∙ folder-absent slot.name slots orderly.0 in
      absurd (false≢true (ap (λ (f : Option (List ℕ)). is_some f) (sym none) ∙ some))
  | inr isnt ↦ subst (λ (f : Option (List ℕ)). IsSome f) (sym (below n slot slots isnt)) some
]

pub listed-stands : (n : FileName) (slots : List Slot) → IsOrderly slots → Contains (names_of slots) n → IsSome (folder_of slots n)
listed-stands n [] orderly (k, within, is) = absurd (omega arith)
listed-stands n (slot ∷ slots) orderly listed = elim (cases_Bool (is_some slot.file)) [
  | inl some ↦ elim (Contains-append_cases (slot.name ∷ []) (names_of slots) n (subst (λ (l : List FileName). Contains l n) (names-some slot slots some) listed)) [
    | inl first ↦ elim (Contains-push_cases [] slot.name n first) [
      | inl (k, within, is) ↦ absurd (omega arith)
      | inr is ↦ subst (λ (f : Option (List ℕ)). IsSome f) (sym (here n slot slots (ap (λ (m : FileName). same_name n m) is ∙ same_name-refl n))) some
    ]
    | inr later ↦ still n slot slots orderly (listed-stands n slots orderly.1 later)
  ]
  | inr none ↦ still n slot slots orderly (listed-stands n slots orderly.1 (subst (λ (l : List FileName). Contains l n) (names-none slot slots none) listed))
]

pub stands-listed : (n : FileName) (slots : List Slot) → IsSome (folder_of slots n) → Contains (names_of slots) n
stands-listed n [] some = absurd (false≢true some)
stands-listed n (slot ∷ slots) some = elim (cases_Bool (same_name n slot.name)) [
  | inl is ↦
      let file : is_some slot.file ≡ true = ap (λ (f : Option (List ℕ)). is_some f) (sym (here n slot slots is)) ∙ some in
      subst (λ (l : List FileName). Contains l n) (sym (names-some slot slots file)) (0, omega arith, sym (same_name-one n slot.name is))
  | inr isnt ↦
      let later : Contains (names_of slots) n = stands-listed n slots (subst (λ (f : Option (List ℕ)). IsSome f) (below n slot slots isnt) some) in
      elim (cases_Bool (is_some slot.file)) [
        | inl file ↦ subst (λ (l : List FileName). Contains l n) (sym (names-some slot slots file)) (Contains-append_right (slot.name ∷ []) (names_of slots) n later)
        | inr none ↦ subst (λ (l : List FileName). Contains l n) (sym (names-none slot slots none)) later
      ]
]

unlisted : (name : FileName) (slots : List Slot) → IsAbsent name slots → AllByRecursion (λ other. same_name name other ≡ false) (names_of slots)
unlisted name [] gone = tt
unlisted name (slot ∷ slots) gone = elim (cases_Bool (is_some slot.file)) [
  | inl some ↦ subst (λ (l : List FileName). AllByRecursion (λ other. same_name name other ≡ false) l) (sym (names-some slot slots some)) (gone.0, unlisted name slots gone.1)
  | inr none ↦ subst (λ (l : List FileName). AllByRecursion (λ other. same_name name other ≡ false) l) (sym (names-none slot slots none)) (unlisted name slots gone.1)
]

pub listed-once : (slots : List Slot) → IsOrderly slots → IsDistinct same_name (names_of slots)
unfolding IsDistinct
listed-once [] orderly = tt
listed-once (slot ∷ slots) orderly = elim (cases_Bool (is_some slot.file)) [
  | inl some ↦ subst (λ (l : List FileName). IsDistinct same_name l) (sym (names-some slot slots some)) (unlisted slot.name slots orderly.0, listed-once slots orderly.1)
  | inr none ↦ subst (λ (l : List FileName). IsDistinct same_name l) (sym (names-none slot slots none)) (listed-once slots orderly.1)
]
