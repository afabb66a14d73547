-- Pages to write, told by what is written at each number.
use Rattle.std.proofs.Common.{◌≡◌, ℕ, suc, zero, ◌+◌, ◌<◌, ◌≤◌, true, false, eqb, Option, Some, None, List, [], ◌∷◌, ◌++◌, inl, inr, ◌⊎◌, refl, sym, ap, ◌∙◌, arith}
use Rattle.std.specs.Prelude.{filter_map}
use Rattle.std.specs.List.{All, range_with_len}
use Rattle.std.proofs.lemmas.Bool.{cases_eq, cases_lt}
use Rattle.std.proofs.lemmas.Bool.Decides.{nat_tests}
use Rattle.std.proofs.lemmas.List.Elements.{All-nil, All-cons}
use Rattle.lf_sqlite_pages.specs.Change.{AscendsAbove, PageChange, IsChange, written}
use Rattle.lf_sqlite_pages.specs.Writes.{write_at, writes_of}
use Rattle.lf_sqlite_pages.specs.declared.page_write.PageWrite.{PageWrite}
use Rattle.lf_sqlite_pages.proofs.Applying.{written-above, written-none}

-- what is written at a count of numbers from one on
abbrev pub writes_from : (ℕ → Option (List ℕ)) → ℕ → ℕ → List PageWrite
writes_from page first count = filter_map (write_at page) (range_with_len first count)

-- an option is nothing or something
pub option_cases : (o : Option (List ℕ)) → (o ≡ None) ⊎ ((bytes : List ℕ) × (o ≡ Some bytes))
option_cases None = inl refl
option_cases (Some bytes) = inr (bytes, refl)

-- the first number
from-none : (page : ℕ → Option (List ℕ)) (first count : ℕ) → page first ≡ None → writes_from page first (suc count) ≡ writes_from page (first + 1) count
from-none page first count none = rw none refl

from-some : (page : ℕ → Option (List ℕ)) (first count : ℕ) (bytes : List ℕ) → page first ≡ Some bytes →
    writes_from page first (suc count) ≡ record { number = first; bytes = bytes } ∷ writes_from page (first + 1) count
from-some page first count bytes some = rw some refl

-- one more number
from-more-none : (page : ℕ → Option (List ℕ)) (first count n : ℕ) → first + count ≡ n → page n ≡ None →
    writes_from page first (count + 1) ≡ writes_from page first count
from-more-none page first zero n last none =
    let here : first ≡ n = omega (arith, last) in
    from-none page first zero (ap page here ∙ none)
from-more-none page first (suc count) n last none =
    let rest : writes_from page (first + 1) (count + 1) ≡ writes_from page (first + 1) count =
    from-more-none page (first + 1) count n (omega (arith, last)) none
    in
    let next : suc count + 1 ≡ suc (count + 1) = omega arith in
    let more : writes_from page first (suc count + 1) ≡ writes_from page first (suc (count + 1)) = ap (writes_from page first) next in
    elim (option_cases (page first)) [
      | inl nothing ↦ more ∙ from-none page first (count + 1) nothing ∙ rest ∙ sym (from-none page first count nothing)
      | inr (bytes, some) ↦
          more
          ∙ from-some page first (count + 1) bytes some
          ∙ ap (λ (ws : List PageWrite). record { number = first; bytes = bytes } ∷ ws) rest
          ∙ sym (from-some page first count bytes some)
    ]

from-more-some : (page : ℕ → Option (List ℕ)) (first count n : ℕ) (new : List ℕ) → first + count ≡ n → page n ≡ Some new →
    writes_from page first (count + 1) ≡ writes_from page first count ++ record { number = n; bytes = new } ∷ []
from-more-some page first zero n new last is =
    let here : first ≡ n = omega (arith, last) in
    from-some page first zero new (ap page here ∙ is) ∙ ap (λ (k : ℕ). record { number = k; bytes = new } ∷ []) here
from-more-some page first (suc count) n new last is =
    let rest : writes_from page (first + 1) (count + 1) ≡ writes_from page (first + 1) count ++ record { number = n; bytes = new } ∷ [] =
    from-more-some page (first + 1) count n new (omega (arith, last)) is
    in
    let next : suc count + 1 ≡ suc (count + 1) = omega arith in
    let more : writes_from page first (suc count + 1) ≡ writes_from page first (suc (count + 1)) = ap (writes_from page first) next in
    elim (option_cases (page first)) [
      | inl nothing ↦
          more ∙ from-none page first (count + 1) nothing ∙ rest
          ∙ ap (λ (ws : List PageWrite). ws ++ record { number = n; bytes = new } ∷ []) (sym (from-none page first count nothing))
      | inr (bytes, some) ↦
          more
          ∙ from-some page first (count + 1) bytes some
          ∙ ap (λ (ws : List PageWrite). record { number = first; bytes = bytes } ∷ ws) rest
          ∙ ap (λ (ws : List PageWrite). ws ++ record { number = n; bytes = new } ∷ []) (sym (from-some page first count bytes some))
    ]

-- a number at which nothing is written adds nothing
pub writes_of-none : (page : ℕ → Option (List ℕ)) (count : ℕ) → page (count + 1) ≡ None → writes_of page (count + 1) ≡ writes_of page count
unfolding writes_of
writes_of-none page count none = from-more-none page 1 count (count + 1) (omega arith) none

-- a number at which bytes are written adds them at the end
pub writes_of-some : (page : ℕ → Option (List ℕ)) (count : ℕ) (new : List ℕ) → page (count + 1) ≡ Some new →
    writes_of page (count + 1) ≡ writes_of page count ++ record { number = count + 1; bytes = new } ∷ []
unfolding writes_of
writes_of-some page count new some = from-more-some page 1 count (count + 1) new (omega arith) some

-- the numbers ascend
AscendsAbove-from : (page : ℕ → Option (List ℕ)) (below first count : ℕ) → below < first → AscendsAbove below (writes_from page first count)
AscendsAbove-from page below first zero h = tt
AscendsAbove-from page below first (suc count) h =
    elim (option_cases (page first)) [
      | inl nothing ↦ rw nothing (AscendsAbove-from page below (first + 1) count (omega arith))
      | inr (bytes, some) ↦ rw some (h, AscendsAbove-from page first (first + 1) count (omega arith))
    ]

pub AscendsAbove-writes_of : (page : ℕ → Option (List ℕ)) (count : ℕ) → AscendsAbove 0 (writes_of page count)
unfolding writes_of
AscendsAbove-writes_of page count = AscendsAbove-from page 0 1 count (omega arith)

-- what holds of each write
All-from : (P : PageWrite → Type 0) (page : ℕ → Option (List ℕ)) (first count : ℕ) →
    ((n : ℕ) (bytes : List ℕ) → first ≤ n → n < first + count → page n ≡ Some bytes → P (record { number = n; bytes = bytes })) →
    All P (writes_from page first count)
All-from P page first zero each = All-nil P
All-from P page first (suc count) each =
    let rest : All P (writes_from page (first + 1) count) =
    All-from P page (first + 1) count (λ n bytes low high some. each n bytes (omega (arith, low)) (omega (arith, high)) some)
    in
    elim (option_cases (page first)) [
      | inl nothing ↦ rw nothing rest
      | inr (bytes, some) ↦ rw some (All-cons P _ _ (each first bytes (omega arith) (omega arith) some) rest)
    ]

pub All-writes_of : (P : PageWrite → Type 0) (page : ℕ → Option (List ℕ)) (count : ℕ) →
    ((n : ℕ) (bytes : List ℕ) → 1 ≤ n → n ≤ count → page n ≡ Some bytes → P (record { number = n; bytes = bytes })) →
    All P (writes_of page count)
unfolding writes_of
All-writes_of P page count each = All-from P page 1 count (λ n bytes low high some. each n bytes low (omega (arith, high)) some)

-- what is written at a number
written-from : (page : ℕ → Option (List ℕ)) (first count n : ℕ) → first ≤ n → n < first + count → written (writes_from page first count) n ≡ page n
written-from page first zero n low high = absurd (omega (arith, low, high))
written-from page first (suc count) n low high =
    elim (cases_eq first n) [
      | inl here ↦
          let past : written (writes_from page (first + 1) count) n ≡ None =
          written-above first _ (AscendsAbove-from page first (first + 1) count (omega arith)) n (omega (arith, here))
          in
          elim (option_cases (page first)) [
            | inl nothing ↦ rw nothing (past ∙ sym (ap page (sym here) ∙ nothing))
            | inr (bytes, some) ↦
                let test : eqb first n ≡ true = grind (arith, nat_tests) in
                rw (some, test) (sym (ap page (sym here) ∙ some))
          ]
      | inr elsewhere ↦
          let rest : written (writes_from page (first + 1) count) n ≡ page n =
          written-from page (first + 1) count n (omega (arith, low, elsewhere)) (omega (arith, high))
          in
          elim (option_cases (page first)) [
            | inl nothing ↦ rw nothing rest
            | inr (bytes, some) ↦
                let test : eqb first n ≡ false = grind (arith, nat_tests) in
                rw (some, test) rest
          ]
    ]

pub written-writes_of : (page : ℕ → Option (List ℕ)) (count n : ℕ) → 1 ≤ n → n ≤ count → written (writes_of page count) n ≡ page n
unfolding writes_of
written-writes_of page count n low high = written-from page 1 count n low (omega arith)

-- nothing is written past the count
pub written-past : (n : ℕ) (ws : List PageWrite) → All (λ w. w.number < n) ws → written ws n ≡ None
written-past n ws below = written-none n ws (λ k w h same. omega (arith, below k w h, same))

pub written-writes_of_past : (page : ℕ → Option (List ℕ)) (count n : ℕ) → count < n → written (writes_of page count) n ≡ None
written-writes_of_past page count n past =
    written-past n (writes_of page count) (All-writes_of (λ w. w.number < n) page count (λ k bytes low high some. omega (arith, high, past)))

-- the same bytes at each number are the same writes
same-from : (page other : ℕ → Option (List ℕ)) (first count : ℕ) → ((n : ℕ) → first ≤ n → n < first + count → page n ≡ other n) →
    writes_from page first count ≡ writes_from other first count
same-from page other first zero same = refl
same-from page other first (suc count) same =
    let here : page first ≡ other first = same first (omega arith) (omega arith) in
    let rest : writes_from page (first + 1) count ≡ writes_from other (first + 1) count =
    same-from page other (first + 1) count (λ n low high. same n (omega (arith, low)) (omega (arith, high)))
    in
    elim (option_cases (page first)) [
      | inl nothing ↦ from-none page first count nothing ∙ rest ∙ sym (from-none other first count (sym here ∙ nothing))
      | inr (bytes, some) ↦
          from-some page first count bytes some
          ∙ ap (λ (ws : List PageWrite). record { number = first; bytes = bytes } ∷ ws) rest
          ∙ sym (from-some other first count bytes (sym here ∙ some))
    ]

pub writes_of-same : (page other : ℕ → Option (List ℕ)) (count : ℕ) → ((n : ℕ) → 1 ≤ n → n ≤ count → page n ≡ other n) →
    writes_of page count ≡ writes_of other count
unfolding writes_of
writes_of-same page other count same = same-from page other 1 count (λ n low high. same n low (omega (arith, high)))

-- two writes of one number and the same bytes
same_write : (w v : PageWrite) → w.number ≡ v.number → w.bytes ≡ v.bytes → w ≡ v
same_write w v number bytes =
    let made : record { number = w.number; bytes = w.bytes } ≡ record { number = v.number; bytes = v.bytes } = rw (number, bytes) refl in
    made

-- the first write of some writes
pub written-first : (w : PageWrite) (ws : List PageWrite) → written (w ∷ ws) w.number ≡ Some w.bytes
written-first w ws =
    let test : eqb w.number w.number ≡ true = grind (arith, nat_tests) in
    rw test refl

-- the others
pub written-other : (w : PageWrite) (ws : List PageWrite) (n : ℕ) → w.number < n → written (w ∷ ws) n ≡ written ws n
written-other w ws n above =
    let test : eqb w.number n ≡ false = grind (arith, nat_tests) in
    rw test refl

-- writes whose numbers ascend are told by what they write at each number
pub same_writes : (below : ℕ) (ws vs : List PageWrite) → AscendsAbove below ws → AscendsAbove below vs → ((n : ℕ) → written ws n ≡ written vs n) →
    ws ≡ vs
same_writes below [] [] ascending others same = refl
same_writes below [] (v ∷ vs) ascending others same =
    let no : None ≡ Some v.bytes = same v.number ∙ written-first v vs in
    cc
same_writes below (w ∷ ws) [] ascending others same =
    let no : None ≡ Some w.bytes = sym (same w.number) ∙ written-first w ws in
    cc
same_writes below (w ∷ ws) (v ∷ vs) ascending others same =
    elim (cases_lt w.number v.number) [
      | inl before ↦
          let none : written (v ∷ vs) w.number ≡ None = written-above w.number (v ∷ vs) (before, others.1) w.number (omega arith) in
          let no : Some w.bytes ≡ None = sym (written-first w ws) ∙ same w.number ∙ none in
          cc
      | inr after ↦
          elim (cases_lt v.number w.number) [
            | inl before ↦
                let none : written (w ∷ ws) v.number ≡ None = written-above v.number (w ∷ ws) (before, ascending.1) v.number (omega arith) in
                let no : Some v.bytes ≡ None = sym (written-first v vs) ∙ sym (same v.number) ∙ none in
                cc
            | inr not_after ↦
                let number : w.number ≡ v.number = omega (arith, after, not_after) in
                let some : Some w.bytes ≡ Some v.bytes =
                sym (written-first w ws) ∙ same w.number ∙ ap (written (v ∷ vs)) number ∙ written-first v vs
                in
                let bytes : w.bytes ≡ v.bytes = cc in
                let ascends : AscendsAbove w.number vs = rw number others.1 in
                let rest : ws ≡ vs =
                same_writes w.number ws vs ascending.1 ascends
                (λ n. elim (cases_lt w.number n) [
                  | inl above ↦ sym (written-other w ws n above) ∙ same n ∙ written-other v vs n (omega (arith, above, number))
                  | inr low ↦ written-above w.number ws ascending.1 n low ∙ sym (written-above w.number vs ascends n low)
                ])
                in
                let first : w ≡ v = same_write w v number bytes in
                cc
          ]
    ]

-- the writes of a change, told by what it writes at each number
pub writes_of-change : (change : PageChange) → IsChange change → writes_of (written change.pages) change.commit ≡ change.pages
writes_of-change change valid =
    same_writes 0 (writes_of (written change.pages) change.commit) change.pages (AscendsAbove-writes_of (written change.pages) change.commit) valid.ascending
    (λ n. elim (cases_lt change.commit n) [
      | inl past ↦
          written-writes_of_past (written change.pages) change.commit n past
          ∙ sym (written-past n change.pages (λ k w h. omega (arith, valid.within k w h, past)))
      | inr within ↦
          elim (cases_lt 0 n) [
            | inl first ↦ written-writes_of (written change.pages) change.commit n first within
            | inr zero_at ↦
                written-above 0 _ (AscendsAbove-writes_of (written change.pages) change.commit) n zero_at
                ∙ sym (written-above 0 change.pages valid.ascending n zero_at)
          ]
    ])
