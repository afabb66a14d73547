-- The front of the contents of a log through a write, and bytes that a write leaves as they are.
use Rattle.std.proofs.Common.{◌≡◌, ℕ, ◌+◌, ◌-◌, ◌≤◌, ◌<◌, Bool, true, false, not, List, [], ◌∷◌, length, take, drop, min, get_or, refl, sym, ap, ◌∙◌, inl, inr, arith}
use Rattle.std.proofs.lemmas.Bool.{cases_lt, cases_eq, cond-true, cond-false, eq-eqb, ne_eqb}
use Rattle.std.proofs.lemmas.List.{length-take, length-drop, get_or-take, get_or-drop, ext_get_or, take_all}
use Rattle.lf_base.specs.FileBytes.{resized, written}
use Rattle.lf_base.proofs.FileLemmas.{length-resized, get_or-resized, resized-there, length-written, written_before, written_within, written_behind}
use Rattle.wal_watch.specs.Frames.{committed_count, committed_end, frame_place}
use Rattle.wal_watch.proofs.CommitLemmas.{has_committed}

-- bytes of their own length
pub resized-whole : (bytes : List ℕ) → resized (length bytes) bytes ≡ bytes
resized-whole bytes = resized-there (length bytes) bytes (omega arith) ∙ take_all (length bytes) bytes (omega arith)

-- a write shortens nothing, and one within the bytes doesn't lengthen them
pub written-longer : (at : ℕ) (piece bytes : List ℕ) → length bytes ≤ length (written at piece bytes)
written-longer at [] bytes = omega arith
written-longer at (b ∷ bs) bytes = omega (arith, length-written at (b ∷ bs) bytes (omega arith))

pub written-inside : (at : ℕ) (piece bytes : List ℕ) → at + length piece ≤ length bytes → length (written at piece bytes) ≡ length bytes
written-inside at [] bytes fits = refl
written-inside at (b ∷ bs) bytes fits = omega (arith, length-written at (b ∷ bs) bytes (omega arith))

-- the first 32 bytes after a write, put together
module _ (at : ℕ) (piece contents front : List ℕ) (is : front ≡ take 32 (resized 32 contents)) (there : 32 ≤ length (written at piece contents)) where
  front-byte : (i : ℕ) → i < 32 → get_or front i 0 ≡ get_or contents i 0
  front-byte i less = ap (λ (f : List ℕ). get_or f i 0) is ∙ get_or-take 32 (resized 32 contents) i 0 less ∙ get_or-resized 32 contents i less

  front-size : length front ≡ 32
  front-size = omega (arith, ap (λ (f : List ℕ). length f) is, length-take 32 (resized 32 contents), length-resized 32 contents)

  pub front-past : 32 ≤ at → front ≡ take 32 (written at piece contents)
  front-past past = ext_get_or 0 front (take 32 (written at piece contents)) (omega (arith, front-size, length-take 32 (written at piece contents), there))
      (λ i under. let less : i < 32 = omega (arith, under, front-size) in
      front-byte i less ∙ sym (get_or-take 32 (written at piece contents) i 0 less ∙ written_before at piece contents i (omega (arith, less, past))))

  pub front-within : (part : List ℕ) (count : ℕ) → at < 32 → count ≡ min (length piece) (32 - at) → part ≡ take count piece → written at part front ≡ take 32 (written at piece contents)
  front-within part count inside count-is part-is =
      let size : length part ≡ count = omega (arith, ap (λ (p : List ℕ). length p) part-is, length-take count piece, count-is) in
      let whole : length (written at part front) ≡ 32 = written-inside at part front (omega (arith, size, count-is, front-size)) ∙ front-size in
      ext_get_or 0 (written at part front) (take 32 (written at piece contents)) (omega (arith, whole, length-take 32 (written at piece contents), there))
      (λ i under. let less : i < 32 = omega (arith, under, whole) in
      elim (cases_lt i at) [
        | inl low ↦ written_before at part front i low ∙ front-byte i less ∙ sym (get_or-take 32 (written at piece contents) i 0 less ∙ written_before at piece contents i low)
        | inr from ↦ elim (cases_lt (i - at) (length piece)) [
          | inl reached ↦
              written_within at part front i from (omega (arith, size, count-is, reached, less))
              ∙ ap (λ (p : List ℕ). get_or p (i - at) 0) part-is ∙ get_or-take count piece (i - at) 0 (omega (arith, count-is, reached, less, from))
              ∙ sym (get_or-take 32 (written at piece contents) i 0 less ∙ written_within at piece contents i from reached)
          | inr past ↦
              written_behind at part front i from (omega (arith, size, count-is, past))
              ∙ front-byte i less ∙ sym (get_or-take 32 (written at piece contents) i 0 less ∙ written_behind at piece contents i from past)
        ]
      ])

-- bytes that are the same as what they are written over change nothing before a place, and the other way round
module _ (at : ℕ) (bytes contents part : List ℕ) (end count : ℕ) (over : at < end) (there : end ≤ length contents) (count-is : count ≡ min (length bytes) (end - at))
    (part-is : part ≡ take count bytes) where
  part-size : length part ≡ count
  part-size = omega (arith, ap (λ (p : List ℕ). length p) part-is, length-take count bytes, count-is)

  part-byte : (i : ℕ) → i < count → get_or part i 0 ≡ get_or bytes i 0
  part-byte i less = ap (λ (p : List ℕ). get_or p i 0) part-is ∙ get_or-take count bytes i 0 less

  pub same-kept : take (length part) (drop at contents) ≡ part → take end (written at bytes contents) ≡ take end contents
  same-kept same = ext_get_or 0 (take end (written at bytes contents)) (take end contents)
      (omega (arith, length-take end (written at bytes contents), length-take end contents, written-longer at bytes contents, there))
      (λ i under.
      let less : i < end = omega (arith, under, length-take end (written at bytes contents)) in
      get_or-take end (written at bytes contents) i 0 less
      ∙ elim (cases_lt i at) [
        | inl low ↦ written_before at bytes contents i low
        | inr from ↦ elim (cases_lt (i - at) (length bytes)) [
          | inl within ↦
              let short : i - at < count = omega (arith, count-is, within, less, from) in
              let back : at + (i - at) ≡ i = omega (arith, from) in
              written_within at bytes contents i from within ∙ sym (part-byte (i - at) short) ∙ ap (λ (p : List ℕ). get_or p (i - at) 0) (sym same)
              ∙ get_or-take (length part) (drop at contents) (i - at) 0 (omega (arith, short, part-size)) ∙ get_or-drop at contents (i - at) 0 ∙ ap (λ (k : ℕ). get_or contents k 0) back
          | inr past ↦ written_behind at bytes contents i from past
        ]
      ]
      ∙ sym (get_or-take end contents i 0 less))

  pub kept-same : take end (written at bytes contents) ≡ take end contents → take (length part) (drop at contents) ≡ part
  kept-same kept = ext_get_or 0 (take (length part) (drop at contents)) part
      (omega (arith, length-take (length part) (drop at contents), length-drop at contents, part-size, count-is, there, over))
      (λ j under.
      let short : j < count = omega (arith, under, length-take (length part) (drop at contents), part-size) in
      let back : at + j - at ≡ j = omega arith in
      get_or-take (length part) (drop at contents) j 0 (omega (arith, short, part-size)) ∙ get_or-drop at contents j 0
      ∙ sym (get_or-take end contents (at + j) 0 (omega (arith, short, count-is))) ∙ ap (λ (t : List ℕ). get_or t (at + j) 0) (sym kept)
      ∙ get_or-take end (written at bytes contents) (at + j) 0 (omega (arith, short, count-is))
      ∙ written_within at bytes contents (at + j) (omega arith) (omega (arith, short, count-is)) ∙ ap (λ (k : ℕ). get_or bytes k 0) back ∙ sym (part-byte j short))

-- a test turned round
pub not-iff : (b : Bool) (P : Type 0) → (b ≡ true → P) → (P → b ≡ true) → (not b ≡ true → P → ⊥) × ((P → ⊥) → not b ≡ true)
not-iff true P to from = ((λ off p. cc), λ no. absurd (no (to refl)))
not-iff false P to from = ((λ off p. let on = from p in cc), λ no. refl)

-- where the committed frames end
pub end_there : (contents : List ℕ) → committed_end contents ≤ length contents
end_there contents = elim (cases_eq (committed_count contents) 0) [
  | inl none ↦ let end : committed_end contents ≡ 0 = cond-true _ _ _ (eq-eqb _ _ none) in omega (arith, end)
  | inr some ↦
      let end : committed_end contents ≡ frame_place contents (committed_count contents) = cond-false _ _ _ (ne_eqb _ _ some) in
      omega (arith, end, (has_committed contents (committed_count contents) refl (omega (arith, some))).room)
]
