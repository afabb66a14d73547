-- The list of bytes that stands in blocks, through a write, a cut and a write that is taken back.
use Rattle.std.proofs.Common.{◌≡◌, ℕ, ◌+◌, ◌-◌, ◌/◌, ◌<◌, ◌≤◌, List, [], ◌++◌, length, take, drop, min, max, get_or, refl, sym, ap, ◌∙◌, inl, inr, arith}
use Rattle.std.proofs.lemmas.Bool.{cases_lt, cond-false, ne_eqb}
use Rattle.std.proofs.lemmas.List.{get_or_past, ext_get_or, get_or-take, get_or-drop, length-take, length-drop, drop_all, take_all}
use Rattle.lf_base.specs.FileBytes.{resized, overwritten, written, Reads}
use Rattle.lf_base.proofs.FileLemmas.{length-resized, get_or-resized, overwritten_before, overwritten_within, overwritten_behind, length-written, written_before, written_within, written_behind}
use Rattle.lf_sqlite_pages.specs.BlockTable.{byte_in, bytes_in, block_at, blocks_in, kept_in, IsReady, AreReady, AreKept, IsPut, IsFilled, IsSaved, IsRead, IsTable, IsCut, HoldsAll}
use Rattle.lf_sqlite_pages.specs.Blocks.{touched}
use Rattle.lf_sqlite_pages.proofs.BlockLemmas.{length-bytes_in, get_or-bytes_in, same-bytes_in, same-count}

-- a byte of the list is that of its block, behind the end too
pub table-byte : (len : ℕ) (blocks : List (List ℕ)) (i : ℕ) → IsTable blocks len → get_or (bytes_in len blocks) i 0 ≡ byte_in blocks i
table-byte len blocks i table = elim (cases_lt i len) [
  | inl inside ↦ get_or-bytes_in len blocks i inside
  | inr outside ↦ get_or_past (bytes_in len blocks) i 0 (omega (arith, length-bytes_in len blocks)) ∙ sym (table.zeros i outside)
]

-- what was displaced, put back
pub taken-back : (len at : ℕ) (saved now old : List ℕ) → length old ≡ len → ((i : ℕ) → i < at → i < len → get_or now i 0 ≡ get_or old i 0)
    → ((i : ℕ) → at ≤ i → i < at + length saved → get_or saved (i - at) 0 ≡ get_or old i 0)
    → ((i : ℕ) → at + length saved ≤ i → i < len → get_or now i 0 ≡ get_or old i 0) → resized len (overwritten at saved now) ≡ old
taken-back len at saved now old size before within behind =
    ext_get_or 0 (resized len (overwritten at saved now)) old (length-resized len (overwritten at saved now) ∙ sym size)
    (λ i under.
    let less : i < len = omega (arith, under, length-resized len (overwritten at saved now)) in
    get_or-resized len (overwritten at saved now) i less
    ∙ elim (cases_lt i at) [
      | inl low ↦ overwritten_before at saved now i low ∙ before i low less
      | inr from ↦ elim (cases_lt (i - at) (length saved)) [
        | inl inside ↦ overwritten_within at saved now i from inside ∙ within i from (omega (arith, inside, from))
        | inr past ↦ overwritten_behind at saved now i from past ∙ behind i (omega (arith, past, from)) less
      ]
    ])

-- nothing was displaced
pub nothing-back : (len : ℕ) (bytes : List ℕ) → length bytes ≡ len → resized len (overwritten 0 [] bytes) ≡ bytes
nothing-back len bytes size =
    taken-back len 0 [] bytes bytes size (λ i low less. refl) (λ i from under. absurd (omega (arith, from, under))) (λ i past less. refl)

-- a piece was written into blocks that were seen to
module _ (old mid new ready left : List (List ℕ)) (len at first : ℕ) (piece : List ℕ) (some : 0 < length piece) (table : IsTable old len)
    (filled : IsFilled old first ready (at / 4096) (blocks_in (at + length piece)) mid left) (size : length mid ≡ max (length old) (blocks_in (at + length piece)))
    (put : IsPut mid at (at + length piece) piece new) (same_length : length new ≡ length mid) where
  pub written-bytes : bytes_in (max len (at + length piece)) new ≡ written at piece (bytes_in len old)
  written-bytes = same-bytes_in (max len (at + length piece)) new (written at piece (bytes_in len old))
      (omega (arith, length-written at piece (bytes_in len old) some, length-bytes_in len old))
      (λ i less. elim (cases_lt i at) [
        | inl low ↦ put.before i low ∙ filled.bytes i ∙ sym (written_before at piece (bytes_in len old) i low ∙ table-byte len old i table)
        | inr from ↦ elim (cases_lt (i - at) (length piece)) [
          | inl inside ↦ put.within i from (omega (arith, inside, from)) ∙ sym (written_within at piece (bytes_in len old) i from inside)
          | inr past ↦ put.behind i (omega (arith, past, from)) ∙ filled.bytes i ∙ sym (written_behind at piece (bytes_in len old) i from past ∙ table-byte len old i table)
        ]
      ])

  pub written-table : IsTable new (max len (at + length piece))
  written-table = record {
    within = omega (arith, table.within, size, same_length);
    zeros = λ i past. put.behind i (omega (arith, past)) ∙ filled.bytes i ∙ table.zeros i (omega (arith, past));
  }

  pub written-ready : (n : ℕ) → first ≤ n → IsReady old first ready n → IsReady new first left n
  written-ready n low is = elim (filled.still_ready n low is) [
    | inl whole ↦ inl (put.sizes n ∙ whole)
    | inr blank ↦ inr blank
  ]

  pub written-count : kept_in new ≤ kept_in old + touched at (length piece)
  written-count =
      let same : kept_in new ≡ kept_in mid = same-count new mid same_length put.sizes in
      let blocks : touched at (length piece) ≡ blocks_in (at + length piece) - at / 4096 = cond-false _ _ _ (ne_eqb (length piece) 0 (λ none. omega (arith, none, some))) in
      omega (arith, same, blocks, filled.count)

  -- what was displaced lies in blocks that are kept
  pub written-kept : (start count : ℕ) → start ≡ min at len → count ≡ min (length piece) (len - start) → AreKept new start (start + count)
  written-kept start count start-is count-is more n low high = put.sizes n ∙ filled.kept n (omega (arith, more, low, start-is, count-is)) (omega (arith, more, high, start-is, count-is))

  -- and gives the bytes before
  pub written-back : (start count : ℕ) (saved : List ℕ) → start ≡ min at len → count ≡ min (length piece) (len - start) → IsSaved mid start count saved
      → resized len (overwritten start saved (bytes_in (max len (at + length piece)) new)) ≡ bytes_in len old
  written-back start count saved start-is count-is is =
      taken-back len start saved (bytes_in (max len (at + length piece)) new) (bytes_in len old) (length-bytes_in len old)
      (λ i low less. get_or-bytes_in (max len (at + length piece)) new i (omega (arith, less)) ∙ put.before i (omega (arith, low, start-is)) ∙ filled.bytes i
      ∙ sym (get_or-bytes_in len old i less))
      (λ i from under.
      let inside : i - start < count = omega (arith, from, under, is.size) in
      let back : start + (i - start) ≡ i = omega (arith, from) in
      is.each (i - start) inside ∙ ap (λ (k : ℕ). byte_in mid k) back ∙ filled.bytes i
      ∙ sym (get_or-bytes_in len old i (omega (arith, inside, from, count-is))))
      (λ i past less. get_or-bytes_in (max len (at + length piece)) new i (omega (arith, less)) ∙ put.behind i (omega (arith, past, less, start-is, count-is, is.size)) ∙ filled.bytes i
      ∙ sym (get_or-bytes_in len old i less))

-- cut to a length
pub cut-bytes : (old new ready left : List (List ℕ)) (len at first : ℕ) → IsTable old len → IsCut old first ready at new left → bytes_in at new ≡ resized at (bytes_in len old)
cut-bytes old new ready left len at first table cut = same-bytes_in at new (resized at (bytes_in len old)) (length-resized at (bytes_in len old))
    (λ i less. cut.bytes i less ∙ sym (get_or-resized at (bytes_in len old) i less ∙ table-byte len old i table))

-- the displaced bytes put back, and what is behind them cut
pub undone-bytes : (old mid new ready left : List (List ℕ)) (len at old_len first : ℕ) (saved : List ℕ) → IsTable old len → old_len ≤ len
    → IsPut old at (at + length saved) saved mid → IsCut mid first ready old_len new left → bytes_in old_len new ≡ resized old_len (overwritten at saved (bytes_in len old))
undone-bytes old mid new ready left len at old_len first saved table le put cut =
    same-bytes_in old_len new (resized old_len (overwritten at saved (bytes_in len old))) (length-resized old_len (overwritten at saved (bytes_in len old)))
    (λ i less. cut.bytes i less
    ∙ sym (get_or-resized old_len (overwritten at saved (bytes_in len old)) i less
    ∙ elim (cases_lt i at) [
      | inl low ↦ overwritten_before at saved (bytes_in len old) i low ∙ table-byte len old i table ∙ sym (put.before i low)
      | inr from ↦ elim (cases_lt (i - at) (length saved)) [
        | inl inside ↦ overwritten_within at saved (bytes_in len old) i from inside ∙ sym (put.within i from (omega (arith, inside, from)))
        | inr past ↦ overwritten_behind at saved (bytes_in len old) i from past ∙ table-byte len old i table ∙ sym (put.behind i (omega (arith, past, from)))
      ]
    ]))

-- the room after a cut
pub cut-ready : (old new ready left : List (List ℕ)) (first len from to : ℕ) → IsCut old first ready len new left → first ≡ from / 4096 → (from < to → blocks_in to - first ≤ length ready)
    → AreReady old first ready from to → AreReady new first left from to
cut-ready old new ready left first len from to cut first-is places are some n low high =
    cut.still_ready n (omega (arith, low, first-is)) (omega (arith, high, low, first-is, places some)) (are some n low high)

-- a read past the end, and one of what there is
pub read-none : (bytes old : List ℕ) (at : ℕ) → length bytes ≤ at → Reads bytes at old old 0
read-none bytes old at past =
    let none : length bytes - at ≡ 0 = omega arith in
    record {
      count = omega arith;
      front =
          sym (ap (λ (l : List ℕ). take (length old) l ++ drop (length bytes - at) old) (drop_all at bytes past)
          ∙ ap (λ (l : List ℕ). l ++ drop (length bytes - at) old) (take_all (length old) [] (omega arith)) ∙ ap (λ (k : ℕ). drop k old) none);
    }

pub read-some : (len : ℕ) (blocks : List (List ℕ)) (at count : ℕ) (old before front rest : List ℕ) → at < len → count ≡ min (length old) (len - at)
    → length front ≡ count → IsRead blocks at count before front → rest ≡ drop count old → Reads (bytes_in len blocks) at old (front ++ rest) count
read-some len blocks at count old before front rest inside count-is size read rest-is =
    let bytes = bytes_in len blocks in
    let own : front ≡ take (length old) (drop at (bytes_in len blocks)) =
    ext_get_or 0 front (take (length old) (drop at (bytes_in len blocks)))
    (omega (arith, size, count-is, length-take (length old) (drop at (bytes_in len blocks)), length-drop at (bytes_in len blocks), length-bytes_in len blocks))
    (λ k under.
    read.read k (omega (arith, under, size))
    ∙ sym (get_or-take (length old) (drop at (bytes_in len blocks)) k 0 (omega (arith, under, size, count-is)) ∙ get_or-drop at (bytes_in len blocks) k 0
    ∙ get_or-bytes_in len blocks (at + k) (omega (arith, under, size, count-is)))) in
    let behind : drop count old ≡ drop (length (bytes_in len blocks) - at) old = elim (cases_lt (length old) (len - at)) [
      | inl short ↦ drop_all count old (omega (arith, count-is, short)) ∙ sym (drop_all (length (bytes_in len blocks) - at) old (omega (arith, short, length-bytes_in len blocks)))
      | inr enough ↦ ap (λ (k : ℕ). drop k old) (omega (arith, count-is, enough, length-bytes_in len blocks))
    ] in
    record {
      count = omega (arith, count-is, length-bytes_in len blocks);
      front = ap (λ (l : List ℕ). l ++ rest) own ∙ ap (λ (l : List ℕ). take (length old) (drop at (bytes_in len blocks)) ++ l) (rest-is ∙ behind);
    }

-- the room after a piece was put into blocks that are kept
pub ready-put : (old new ready : List (List ℕ)) (first from to : ℕ) → ((n : ℕ) → length (block_at new n) ≡ length (block_at old n)) → AreReady old first ready from to
    → AreReady new first ready from to
ready-put old new ready first from to sizes are some n low high = elim (are some n low high) [
  | inl whole ↦ inl (sizes n ∙ whole)
  | inr blank ↦ inr blank
]

-- bytes stand at a place where each of them does
pub piece-there : (len : ℕ) (blocks : List (List ℕ)) (at : ℕ) (piece : List ℕ) → at + length piece ≤ len → HoldsAll piece (λ k. byte_in blocks (at + k))
    → take (length piece) (drop at (bytes_in len blocks)) ≡ piece
piece-there len blocks at piece fits each =
    ext_get_or 0 (take (length piece) (drop at (bytes_in len blocks))) piece
    (omega (arith, length-take (length piece) (drop at (bytes_in len blocks)), length-drop at (bytes_in len blocks), length-bytes_in len blocks))
    (λ k under.
    let less : k < length piece = omega (arith, under, length-take (length piece) (drop at (bytes_in len blocks))) in
    get_or-take (length piece) (drop at (bytes_in len blocks)) k 0 less ∙ get_or-drop at (bytes_in len blocks) k 0
    ∙ get_or-bytes_in len blocks (at + k) (omega (arith, less, fits)) ∙ each k less)

pub there-piece : (len : ℕ) (blocks : List (List ℕ)) (at : ℕ) (piece : List ℕ) → at + length piece ≤ len → take (length piece) (drop at (bytes_in len blocks)) ≡ piece
    → HoldsAll piece (λ k. byte_in blocks (at + k))
there-piece len blocks at piece fits same k less =
    sym (get_or-bytes_in len blocks (at + k) (omega (arith, less, fits))) ∙ sym (get_or-drop at (bytes_in len blocks) k 0)
    ∙ sym (get_or-take (length piece) (drop at (bytes_in len blocks)) k 0 less) ∙ ap (λ (l : List ℕ). get_or l k 0) same

-- one piece more stands there
pub held-more : (blocks : List (List ℕ)) (at done count : ℕ) (piece part : List ℕ) → ((k : ℕ) → k < done → byte_in blocks (at + k) ≡ get_or piece k 0)
    → length part ≡ count → ((k : ℕ) → k < count → get_or part k 0 ≡ get_or piece (done + k) 0) → HoldsAll part (λ k. byte_in blocks (at + done + k))
    → (k : ℕ) → k < done + count → byte_in blocks (at + k) ≡ get_or piece k 0
held-more blocks at done count piece part held size part-is more k less = elim (cases_lt k done) [
  | inl low ↦ held k low
  | inr from ↦
      let place : at + done + (k - done) ≡ at + k = omega (arith, from) in
      let back : done + (k - done) ≡ k = omega (arith, from) in
      ap (λ (i : ℕ). byte_in blocks i) (sym place) ∙ more (k - done) (omega (arith, less, from, size)) ∙ part-is (k - done) (omega (arith, less, from))
      ∙ ap (λ (i : ℕ). get_or piece i 0) back
]
