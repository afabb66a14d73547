-- The bytes of a file after a write or a change of its length: how many there are, and what stands where.
use Rattle.std.proofs.Common.{◌≡◌, ℕ, ◌+◌, ◌-◌, ◌≤◌, ◌<◌, List, [], ◌∷◌, ◌++◌, length, take, drop, replicate, get_or, min, refl, sym, ap, ◌∙◌, inl, inr, arith}
use Rattle.std.proofs.lemmas.Bool.{cases_lt}
use Rattle.std.proofs.lemmas.List.{length-take, length-take-le, length-drop, length-append, length-replicate, get_or_append_left, get_or-append_right, get_or-take, get_or-drop, get_or_past, get_or-replicate, ext_get_or, take-append-le, take-take, take-append-drop, take-replicate, take_all, drop_all, drop_min, append-nil}
use Rattle.std.proofs.Math.Seq.{take-append-add, drop-nil}
use Rattle.lf_base.specs.FileBytes.{resized, overwritten, written, read_into}

-- bytes of a length that they have
pub resized-there : (len : ℕ) (bytes : List ℕ) → len ≤ length bytes → resized len bytes ≡ take len bytes
resized-there len bytes there =
    let none : len - length bytes ≡ 0 = omega arith in
    ap (λ (n : ℕ). take len bytes ++ replicate n 0) none ∙ append-nil (take len bytes)

pub length-resized : (len : ℕ) (bytes : List ℕ) → length (resized len bytes) ≡ len
length-resized len bytes = omega (arith, length-append (take len bytes) (replicate (len - length bytes) 0), length-take len bytes, length-replicate {A = ℕ} (len - length bytes) 0)

get_or-zeros : (n i : ℕ) → ◌≡◌ {A = ℕ} (get_or (replicate n 0) i 0) 0
get_or-zeros n i = elim (cases_lt i n) [
  | inl less ↦ get_or-replicate n i 0 0 less
  | inr past ↦ get_or_past (replicate n 0) i 0 (omega (arith, length-replicate {A = ℕ} n 0))
]

pub get_or-resized : (len : ℕ) (bytes : List ℕ) (i : ℕ) → i < len → get_or (resized len bytes) i 0 ≡ get_or bytes i 0
get_or-resized len bytes i less = elim (cases_lt i (length bytes)) [
  | inl there ↦
      get_or_append_left (take len bytes) (replicate (len - length bytes) 0) 0 i (omega (arith, length-take len bytes)) ∙ get_or-take len bytes i 0 less
  | inr past ↦
      get_or-append_right (take len bytes) (replicate (len - length bytes) 0) (length bytes) i 0 (omega (arith, length-take len bytes)) past
      ∙ get_or-zeros (len - length bytes) (i - length bytes) ∙ sym (get_or_past bytes i 0 past)
]

-- a piece in place of those from an offset on
module _ (at : ℕ) (piece bytes : List ℕ) where
  front-length : length (resized at bytes ++ piece) ≡ at + length piece
  front-length = omega (arith, length-append (resized at bytes) piece, length-resized at bytes)

  pub length-overwritten : length (overwritten at piece bytes) ≡ at + length piece + (length bytes - (at + length piece))
  length-overwritten = omega (arith, length-append (resized at bytes ++ piece) (drop (at + length piece) bytes), front-length, length-drop (at + length piece) bytes)

  pub overwritten_before : (i : ℕ) → i < at → get_or (overwritten at piece bytes) i 0 ≡ get_or bytes i 0
  overwritten_before i less =
      get_or_append_left (resized at bytes ++ piece) (drop (at + length piece) bytes) 0 i (omega (arith, front-length))
      ∙ get_or_append_left (resized at bytes) piece 0 i (omega (arith, length-resized at bytes))
      ∙ get_or-resized at bytes i less

  pub overwritten_within : (i : ℕ) → at ≤ i → i - at < length piece → get_or (overwritten at piece bytes) i 0 ≡ get_or piece (i - at) 0
  overwritten_within i from to =
      get_or_append_left (resized at bytes ++ piece) (drop (at + length piece) bytes) 0 i (omega (arith, front-length))
      ∙ get_or-append_right (resized at bytes) piece at i 0 (length-resized at bytes) from

  pub overwritten_behind : (i : ℕ) → at ≤ i → length piece ≤ i - at → get_or (overwritten at piece bytes) i 0 ≡ get_or bytes i 0
  overwritten_behind i from past =
      get_or-append_right (resized at bytes ++ piece) (drop (at + length piece) bytes) (at + length piece) i 0 front-length (omega arith)
      ∙ get_or-drop (at + length piece) bytes (i - (at + length piece)) 0
      ∙ ap (λ (k : ℕ). get_or bytes k 0) (omega arith)

  -- what stands before the offset
  pub take-overwritten : (m : ℕ) → m ≤ at → m ≤ length bytes → take m (overwritten at piece bytes) ≡ take m bytes
  take-overwritten m le there =
      take-append-le m (resized at bytes ++ piece) (drop (at + length piece) bytes) (omega (arith, front-length))
      ∙ take-append-le m (resized at bytes) piece (omega (arith, length-resized at bytes))
      ∙ take-append-le m (take at bytes) (replicate (at - length bytes) 0) (omega (arith, length-take at bytes))
      ∙ take-take m at bytes le

  -- a write that is taken back
  pub taken_back : take (min at (length bytes)) (overwritten at piece bytes) ++ drop at bytes ≡ bytes
  taken_back =
      ap (λ (front : List ℕ). front ++ drop at bytes) (take-overwritten (min at (length bytes)) (omega arith) (omega arith))
      ∙ ap (λ (back : List ℕ). take (min at (length bytes)) bytes ++ back) (sym (drop_min at bytes))
      ∙ take-append-drop (min at (length bytes)) bytes

-- a piece written over an empty file is the file
pub overwritten-empty : (piece bytes : List ℕ) → bytes ≡ [] → overwritten 0 piece bytes ≡ piece
overwritten-empty piece bytes empty =
    ap (λ (b : List ℕ). overwritten 0 piece b) empty ∙ ap (λ (l : List ℕ). piece ++ l) (drop-nil (0 + length piece)) ∙ append-nil piece

-- a write of something and of nothing
pub written-some : (at : ℕ) (piece bytes : List ℕ) → 0 < length piece → written at piece bytes ≡ overwritten at piece bytes
written-some at [] bytes some = absurd (omega arith)
written-some at (b ∷ bs) bytes some = refl

pub written-nothing : (at : ℕ) (piece bytes : List ℕ) → length piece ≡ 0 → written at piece bytes ≡ bytes
written-nothing at [] bytes none = refl
written-nothing at (b ∷ bs) bytes none = absurd (omega arith)

pub length-written : (at : ℕ) (piece bytes : List ℕ) → 0 < length piece → length (written at piece bytes) ≡ at + length piece + (length bytes - (at + length piece))
length-written at piece bytes some = ap length (written-some at piece bytes some) ∙ length-overwritten at piece bytes

pub written_before : (at : ℕ) (piece bytes : List ℕ) (i : ℕ) → i < at → get_or (written at piece bytes) i 0 ≡ get_or bytes i 0
written_before at [] bytes i less = refl
written_before at (b ∷ bs) bytes i less = overwritten_before at (b ∷ bs) bytes i less

pub written_within : (at : ℕ) (piece bytes : List ℕ) (i : ℕ) → at ≤ i → i - at < length piece → get_or (written at piece bytes) i 0 ≡ get_or piece (i - at) 0
written_within at [] bytes i from to = absurd (omega arith)
written_within at (b ∷ bs) bytes i from to = overwritten_within at (b ∷ bs) bytes i from to

pub written_behind : (at : ℕ) (piece bytes : List ℕ) (i : ℕ) → at ≤ i → length piece ≤ i - at → get_or (written at piece bytes) i 0 ≡ get_or bytes i 0
written_behind at [] bytes i from past = refl
written_behind at (b ∷ bs) bytes i from past = overwritten_behind at (b ∷ bs) bytes i from past

-- the bytes before a write stay
pub take-written : (at : ℕ) (piece bytes : List ℕ) (m : ℕ) → m ≤ at → m ≤ length bytes → take m (written at piece bytes) ≡ take m bytes
take-written at [] bytes m le there = refl
take-written at (b ∷ bs) bytes m le there = take-overwritten at (b ∷ bs) bytes m le there

-- a cut of a file that is long enough keeps the front
pub cut-written : (at : ℕ) (piece bytes : List ℕ) (m : ℕ) → m ≤ at → m ≤ length bytes → resized m (written at piece bytes) ≡ take m bytes
cut-written at [] bytes m le there = resized-there m bytes there
cut-written at (b ∷ bs) bytes m le there =
    resized-there m (overwritten at (b ∷ bs) bytes) (omega (arith, length-overwritten at (b ∷ bs) bytes)) ∙ take-overwritten at (b ∷ bs) bytes m le there

-- a piece is read where it was written
pub read-overwritten : (at : ℕ) (piece bytes : List ℕ) → take (length piece) (drop at (overwritten at piece bytes)) ≡ piece
read-overwritten at piece bytes = ext_get_or 0 _ piece
    (omega (arith, length-take (length piece) (drop at (overwritten at piece bytes)), length-drop at (overwritten at piece bytes), length-overwritten at piece bytes)) each
  where
    each : (i : ℕ) → i < length (take (length piece) (drop at (overwritten at piece bytes))) → get_or (take (length piece) (drop at (overwritten at piece bytes))) i 0 ≡ get_or piece i 0
    each i under =
        let less : i < length piece = omega (arith, under, length-take (length piece) (drop at (overwritten at piece bytes))) in
        let back : at + i - at ≡ i = omega arith in
        get_or-take (length piece) (drop at (overwritten at piece bytes)) i 0 less
        ∙ get_or-drop at (overwritten at piece bytes) i 0
        ∙ overwritten_within at piece bytes (at + i) (omega arith) (omega arith)
        ∙ ap (λ (k : ℕ). get_or piece k 0) back

pub read-written : (at : ℕ) (piece bytes : List ℕ) → take (length piece) (drop at (written at piece bytes)) ≡ piece
read-written at [] bytes = refl
read-written at (b ∷ bs) bytes = read-overwritten at (b ∷ bs) bytes

-- the first bytes after a write: the part of the piece that lies among them replaces theirs
pub take-written_within : (at : ℕ) (piece bytes : List ℕ) (m count : ℕ) → at < m → m ≤ length bytes → count ≡ min (length piece) (m - at)
    → take m (written at piece bytes) ≡ written at (take count piece) (take m bytes)
take-written_within at [] bytes m count before there count_is =
    sym (written-nothing at (take count []) (take m bytes) (omega (arith, length-take {A = ℕ} count [])))
take-written_within at (b ∷ bs) bytes m count before there count_is =
    let part_length : length (take count (b ∷ bs)) ≡ count = length-take-le count (b ∷ bs) (omega arith) in
    let left : length (take m (written at (b ∷ bs) bytes)) ≡ m =
    omega (arith, length-take m (written at (b ∷ bs) bytes), length-written at (b ∷ bs) bytes (omega arith)) in
    let right : length (written at (take count (b ∷ bs)) (take m bytes)) ≡ m =
    omega (arith, part_length, length-take m bytes, length-written at (take count (b ∷ bs)) (take m bytes) (omega arith)) in
    ext_get_or 0 _ _ (left ∙ sym right) (λ i under.
    let less : i < m = omega (arith, under, left) in
    get_or-take m (written at (b ∷ bs) bytes) i 0 less
    ∙ elim (cases_lt i at) [
      | inl low ↦
          written_before at (b ∷ bs) bytes i low ∙ sym (get_or-take m bytes i 0 less) ∙ sym (written_before at (take count (b ∷ bs)) (take m bytes) i low)
      | inr from ↦ elim (cases_lt (i - at) (length (b ∷ bs))) [
        | inl within ↦
            written_within at (b ∷ bs) bytes i from within
            ∙ sym (get_or-take count (b ∷ bs) (i - at) 0 (omega arith))
            ∙ sym (written_within at (take count (b ∷ bs)) (take m bytes) i from (omega arith))
        | inr past ↦
            written_behind at (b ∷ bs) bytes i from past ∙ sym (get_or-take m bytes i 0 less)
            ∙ sym (written_behind at (take count (b ∷ bs)) (take m bytes) i from (omega arith))
      ]
    ])

-- a write that begins inside the file or at its end
pub overwritten-there : (at : ℕ) (piece bytes : List ℕ) → at ≤ length bytes → overwritten at piece bytes ≡ take at bytes ++ piece ++ drop (at + length piece) bytes
overwritten-there at piece bytes there = ap (λ (l : List ℕ). l ++ piece ++ drop (at + length piece) bytes) (resized-there at bytes there)

-- bytes lengthened by zeros up to the end of the piece, with the piece in place of what stands there
take-lengthened : (bytes : List ℕ) (at k : ℕ) → at ≤ length bytes + k → take at (bytes ++ replicate k 0) ≡ resized at bytes
take-lengthened bytes at k within = elim (cases_lt (length bytes) at) [
  | inl past ↦
      let split : at ≡ length bytes + (at - length bytes) = omega arith in
      ap (λ (n : ℕ). take n (bytes ++ replicate k 0)) split ∙ take-append-add bytes (replicate k 0) (at - length bytes)
      ∙ ap (λ (l : List ℕ). bytes ++ l) (take-replicate (at - length bytes) k 0 (omega arith))
      ∙ ap (λ (l : List ℕ). l ++ replicate (at - length bytes) 0) (sym (take_all at bytes (omega arith)))
  | inr here ↦
      let none : at - length bytes ≡ 0 = omega arith in
      take-append-le at bytes (replicate k 0) here ∙ sym (append-nil (take at bytes)) ∙ ap (λ (n : ℕ). take at bytes ++ replicate n 0) (sym none)
]

drop-lengthened : (bytes : List ℕ) (end : ℕ) → drop end (bytes ++ replicate (end - length bytes) 0) ≡ drop end bytes
drop-lengthened bytes end = elim (cases_lt (length bytes) end) [
  | inl past ↦ drop_all end (bytes ++ replicate (end - length bytes) 0) (omega (arith, length-append bytes (replicate (end - length bytes) 0), length-replicate {A = ℕ} (end - length bytes) 0)) ∙ sym (drop_all end bytes (omega arith))
  | inr here ↦
      let none : end - length bytes ≡ 0 = omega arith in
      ap (λ (n : ℕ). drop end (bytes ++ replicate n 0)) none ∙ ap (λ (l : List ℕ). drop end l) (append-nil bytes)
]

pub filled-lengthened : (bytes piece : List ℕ) (at : ℕ) → take at (bytes ++ replicate (at + length piece - length bytes) 0) ++ piece ++ drop (at + length piece) (bytes ++ replicate (at + length piece - length bytes) 0) ≡ overwritten at piece bytes
filled-lengthened bytes piece at =
    ap (λ (l : List ℕ). l ++ piece ++ drop (at + length piece) (bytes ++ replicate (at + length piece - length bytes) 0)) (take-lengthened bytes at (at + length piece - length bytes) (omega arith))
    ∙ ap (λ (l : List ℕ). resized at bytes ++ piece ++ l) (drop-lengthened bytes (at + length piece))

-- what a read puts in front of a buffer, by how many bytes it gives
pub read_into-count : (at n : ℕ) (bytes buffer : List ℕ) → n ≡ min (length buffer) (length bytes - at)
    → take n (drop at bytes) ++ drop n buffer ≡ read_into at bytes buffer
read_into-count at n bytes buffer count = elim (cases_lt (length bytes - at) (length buffer)) [
  | inl short ↦
      let all : n ≡ length bytes - at = omega arith in
      ap (λ (k : ℕ). take k (drop at bytes) ++ drop k buffer) all
      ∙ ap (λ (l : List ℕ). l ++ drop (length bytes - at) buffer)
      (take_all (length bytes - at) (drop at bytes) (omega (arith, length-drop at bytes)) ∙ sym (take_all (length buffer) (drop at bytes) (omega (arith, length-drop at bytes))))
  | inr full ↦
      let all : n ≡ length buffer = omega arith in
      ap (λ (k : ℕ). take k (drop at bytes) ++ drop k buffer) all
      ∙ ap (λ (l : List ℕ). take (length buffer) (drop at bytes) ++ l)
      (drop_all (length buffer) buffer (omega arith) ∙ sym (drop_all (length bytes - at) buffer (omega arith)))
]
