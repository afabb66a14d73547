-- The first data page after a page number, and the pages that a snapshot writes.
use Rattle.std.proofs.Common.{◌≡◌, ◌≢◌, ℕ, ◌+◌, ◌<◌, ◌≤◌, true, false, eqb, Option, None, List, [], ◌∷◌, ◌++◌, arith, refl, sym, subst, inl, inr, ◌∙◌}
use Rattle.std.specs.Prelude.{IsSome}
use Rattle.std.proofs.lemmas.Bool.{cases_eq, cases_lt}
use Rattle.std.proofs.lemmas.Bool.Decides.{nat_tests}
use Rattle.lf_sqlite_pages.specs.LockPage.{lock_page_of, IsDataPage, data_page_after}
use Rattle.lf_sqlite_pages.specs.Change.{AscendsAbove, written}
use Rattle.lf_sqlite_pages.specs.declared.page_write.PageWrite.{PageWrite}
use Rattle.lf_sqlite_pages.proofs.Applying.{written-above}
use Rattle.ltx_codec.specs.declared.header.Header.{Header}
use Rattle.ltx_codec.specs.Numbering.{MayFollow}

-- the next number, or the one behind the lock page
after_data : (size n : ℕ) → (n + 1 ≢ lock_page_of size) → data_page_after size n ≡ n + 1
after_data size n data_page =
    let test : eqb (n + 1) (lock_page_of size) ≡ false = grind (arith, nat_tests) in
    rw test refl

after_lock : (size n : ℕ) → (n + 1 ≡ lock_page_of size) → data_page_after size n ≡ n + 2
after_lock size n lock =
    let test : eqb (n + 1) (lock_page_of size) ≡ true = grind (arith, nat_tests) in
    rw test refl

-- it lies behind the number
pub after-above : (size n : ℕ) → n < data_page_after size n
after-above size n = elim (cases_eq (n + 1) (lock_page_of size)) [
  | inl lock ↦ omega (arith, after_lock size n lock)
  | inr data_page ↦ omega (arith, after_data size n data_page)
]

-- it holds data
pub after-data : (size n : ℕ) → IsDataPage size (data_page_after size n)
after-data size n = elim (cases_eq (n + 1) (lock_page_of size)) [
  | inl lock ↦ λ same. omega (arith, after_lock size n lock, lock, same)
  | inr data_page ↦ λ same. data_page (sym (after_data size n data_page) ∙ same)
]

-- and no data page lies between
pub after-least : (size n m : ℕ) → n < m → IsDataPage size m → data_page_after size n ≤ m
after-least size n m above data_page = elim (cases_eq (n + 1) (lock_page_of size)) [
  | inl lock ↦
      let differs : m ≢ n + 1 = λ same. data_page (same ∙ lock) in
      omega (arith, after_lock size n lock, above, differs)
  | inr other ↦ omega (arith, after_data size n other, above)
]

-- what a number says that may follow another
module _ (h : Header) (before number : ℕ) (may : MayFollow h before number) where
  pub follows-end : number ≡ 0 → h.min ≡ 1 → h.commit < data_page_after h.page_size before
  follows-end ends snapshot = elim (cases_lt h.commit (data_page_after h.page_size before)) [
    | inl past ↦ past
    | inr left ↦ absurd (may.none_left_out (snapshot, inr (ends, left)))
  ]

  module _ (some : number ≢ 0) where
    pub follows-above : before < number
    follows-above = elim (cases_lt before number) [
      | inl above ↦ above
      | inr below ↦ absurd (may.in_order (some, below))
    ]

    pub follows-within : number ≤ h.commit
    follows-within = elim (cases_lt h.commit number) [
      | inl past ↦ absurd (may.in_range (follows-above, inl past))
      | inr within ↦ within
    ]

    pub follows-data : IsDataPage h.page_size number
    follows-data lock = may.in_range (follows-above, inr lock)

    pub follows-next : h.min ≡ 1 → number ≡ data_page_after h.page_size before
    follows-next snapshot = elim (cases_eq number (data_page_after h.page_size before)) [
      | inl same ↦ same
      | inr other ↦ absurd (may.none_left_out (snapshot, inl (follows-above, follows-within, follows-data, other)))
    ]

-- another number's write changes nothing
pub written-other : (w : PageWrite) (ws : List PageWrite) (n : ℕ) → n ≢ w.number → written (w ∷ ws) n ≡ written ws n
written-other w ws n differs =
    let test : eqb w.number n ≡ false = grind (arith, nat_tests) in
    rw test refl

pub written-here : (w : PageWrite) (ws : List PageWrite) → IsSome (written (w ∷ ws) w.number)
written-here w ws =
    let test : eqb w.number w.number ≡ true = grind (arith, nat_tests) in
    rw test refl

-- what is written by a front or by a back is written by both
pub written-front : (ws vs : List PageWrite) (n : ℕ) → IsSome (written ws n) → IsSome (written (ws ++ vs) n)
written-front [] vs n some = let no : false ≡ true = some in cc
written-front (w ∷ ws) vs n some = elim (cases_eq n w.number) [
  | inl here ↦ subst (λ (m : ℕ). IsSome (written (w ∷ (ws ++ vs)) m)) (sym here) (written-here w (ws ++ vs))
  | inr other ↦ rw (written-other w (ws ++ vs) n other) (written-front ws vs n (rw (← written-other w ws n other) some))
]

pub written-back : (ws vs : List PageWrite) (n : ℕ) → IsSome (written vs n) → IsSome (written (ws ++ vs) n)
written-back [] vs n some = some
written-back (w ∷ ws) vs n some = elim (cases_eq n w.number) [
  | inl here ↦ subst (λ (m : ℕ). IsSome (written (w ∷ (ws ++ vs)) m)) (sym here) (written-here w (ws ++ vs))
  | inr other ↦ rw (written-other w (ws ++ vs) n other) (written-back ws vs n some)
]

-- nothing is written below the first
pub first-written : (n : ℕ) (w : PageWrite) (ws : List PageWrite) → AscendsAbove w.number ws → IsSome (written (w ∷ ws) n) → w.number ≤ n
first-written n w ws ascends some = elim (cases_lt n w.number) [
  | inl below ↦
      let none : written (w ∷ ws) n ≡ None = written-above n (w ∷ ws) (below, ascends) n (omega arith) in
      let no : false ≡ true = subst (λ (o : Option (List ℕ)). IsSome o) none some in cc
  | inr above ↦ above
]
