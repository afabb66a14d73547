-- Bytes in blocks: which byte stands where, after a write to one block and after a block was taken or given up.
use Rattle.std.proofs.Common.{◌≡◌, ◌≢◌, ℕ, zero, suc, Bool, true, false, cond, not, ◌==◌, subst, add-zero, ◌+◌, ◌-◌, ◌/◌, ◌%◌, ◌<◌, ◌≤◌, ◌⊎◌, List, [], ◌∷◌, ◌++◌, length, take, drop, replicate, get_or, set, min, refl, sym, ap, ◌∙◌, inl, inr, arith}
use Rattle.std.specs.Prelude.{IsSome, Some, None, if◌then◌else◌}
use Rattle.std.specs.List.{count_by}
use Rattle.std.proofs.lemmas.List.Sums.{sum_by-cons, sum_by-append, sum_by-set, sum_by-take-le}
use Rattle.std.proofs.lemmas.Bool.{cases_lt, cases_eq}
use Rattle.std.proofs.lemmas.List.{length-take, length-drop, length-append, length-replicate, length-set, get_or_append_left, get_or-append_right, get_or-take, get_or-drop, get_or_past, get_or-replicate, get_or-set_same, get_or-set_other, ext_get_or, take-take, take_all}
use Rattle.std.proofs.lemmas.List.FromFn.{length-map-range_with_len, get_or-map-range_with_len}
use Rattle.lf_sqlite_pages.specs.BlockTable.{is_kept, kept_in, IsBlank, replaced, cleared_from, block_at, byte_in, bytes_in, blocks_in, IsWhole, IsPut, IsReady, IsFilled, IsGivenBack, IsReleased, IsTable, IsCut}

pub length-bytes_in : (len : ℕ) (blocks : List (List ℕ)) → length (bytes_in len blocks) ≡ len
unfolding bytes_in
length-bytes_in len blocks = length-map-range_with_len (byte_in blocks) 0 len

pub get_or-bytes_in : (len : ℕ) (blocks : List (List ℕ)) (i : ℕ) → i < len → get_or (bytes_in len blocks) i 0 ≡ byte_in blocks i
unfolding bytes_in
get_or-bytes_in len blocks i less = get_or-map-range_with_len (byte_in blocks) 0 len i i 0 less (omega arith)

-- bytes that are those of the blocks
pub same-bytes_in : (len : ℕ) (blocks : List (List ℕ)) (bytes : List ℕ) → length bytes ≡ len → ((i : ℕ) → i < len → byte_in blocks i ≡ get_or bytes i 0)
    → bytes_in len blocks ≡ bytes
same-bytes_in len blocks bytes size same = ext_get_or 0 (bytes_in len blocks) bytes (length-bytes_in len blocks ∙ sym size)
    (λ i under. let less : i < len = omega (arith, under, length-bytes_in len blocks) in get_or-bytes_in len blocks i less ∙ same i less)

-- a block that is kept has its place
pub whole-there : (blocks : List (List ℕ)) (n : ℕ) → IsWhole blocks n → n < length blocks
whole-there blocks n whole = elim (cases_lt n (length blocks)) [
  | inl there ↦ there
  | inr past ↦ absurd (let none : length (get_or blocks n []) ≡ 0 = ap length (get_or_past blocks n [] past) in omega (arith, none, whole))
]

-- a block with a piece in place of bytes of its own
module _ (within : ℕ) (piece block : List ℕ) (fits : within + length piece ≤ length block) where
  front-length : length (take within block ++ piece) ≡ within + length piece
  front-length = omega (arith, length-append (take within block) piece, length-take within block)

  pub length-replaced : length (replaced within piece block) ≡ length block
  length-replaced = omega (arith, length-append (take within block ++ piece) (drop (within + length piece) block), front-length, length-drop (within + length piece) block)

  pub replaced_before : (k : ℕ) → k < within → get_or (replaced within piece block) k 0 ≡ get_or block k 0
  replaced_before k less =
      get_or_append_left (take within block ++ piece) (drop (within + length piece) block) 0 k (omega (arith, front-length))
      ∙ get_or_append_left (take within block) piece 0 k (omega (arith, length-take within block))
      ∙ get_or-take within block k 0 less

  pub replaced_within : (k : ℕ) → within ≤ k → k < within + length piece → get_or (replaced within piece block) k 0 ≡ get_or piece (k - within) 0
  replaced_within k from to =
      get_or_append_left (take within block ++ piece) (drop (within + length piece) block) 0 k (omega (arith, front-length))
      ∙ get_or-append_right (take within block) piece within k 0 (omega (arith, length-take within block)) from

  pub replaced_behind : (k : ℕ) → within + length piece ≤ k → get_or (replaced within piece block) k 0 ≡ get_or block k 0
  replaced_behind k past =
      get_or-append_right (take within block ++ piece) (drop (within + length piece) block) (within + length piece) k 0 front-length past
      ∙ get_or-drop (within + length piece) block (k - (within + length piece)) 0
      ∙ ap (λ (i : ℕ). get_or block i 0) (omega arith)

-- the bytes of a table in which one block is another
set-same : (blocks : List (List ℕ)) (n : ℕ) (block : List ℕ) (i : ℕ) → n < length blocks → i / 4096 ≡ n → byte_in (set blocks n block) i ≡ get_or block (i % 4096) 0
set-same blocks n block i there is =
    ap (λ (b : List ℕ). get_or b (i % 4096) 0) (ap (λ (m : ℕ). get_or (set blocks n block) m []) is ∙ get_or-set_same blocks n block [] there)

set-other : (blocks : List (List ℕ)) (n : ℕ) (block : List ℕ) (i : ℕ) → i / 4096 ≢ n → byte_in (set blocks n block) i ≡ byte_in blocks i
set-other blocks n block i other = ap (λ (b : List ℕ). get_or b (i % 4096) 0) (get_or-set_other blocks n (i / 4096) block [] other)

set-length : (blocks : List (List ℕ)) (n : ℕ) (block : List ℕ) (m : ℕ) → n < length blocks → length block ≡ length (block_at blocks n)
    → length (block_at (set blocks n block) m) ≡ length (block_at blocks m)
set-length blocks n block m there same = elim (cases_eq m n) [
  | inl is ↦ let e : m ≡ n = is in ap (λ (k : ℕ). length (get_or (set blocks n block) k [])) e ∙ ap length (get_or-set_same blocks n block [] there) ∙ same ∙ ap (λ (k : ℕ). length (get_or blocks k [])) (sym e)
  | inr other ↦ ap length (get_or-set_other blocks n m block [] other)
]

-- nothing was put yet
pub put-none : (blocks : List (List ℕ)) (from : ℕ) (bytes : List ℕ) → IsPut blocks from from bytes blocks
put-none blocks from bytes = record {
  before = λ i less. refl;
  within = λ i low high. absurd (omega (arith, low, high));
  behind = λ i past. refl;
  sizes = λ n. refl;
}

-- one piece more was put, into one block
module _ (old cur : List (List ℕ)) (from place n w : ℕ) (bytes rest piece block : List ℕ) (put : IsPut old from place bytes cur) (low : from ≤ place)
    (rest-is : rest ≡ drop (place - from) bytes) (piece-is : piece ≡ take (length piece) rest) (n-is : n ≡ place / 4096) (w-is : w ≡ place % 4096)
    (fits : w + length piece ≤ 4096) (whole : IsWhole cur n) (block-is : block ≡ block_at cur n) where
  room : w + length piece ≤ length block
  room = omega (arith, fits, whole, ap length block-is)

  there : n < length cur
  there = whole-there cur n whole

  -- the byte of the block, where it is another's place
  off : (i : ℕ) → (i < place) → byte_in (set cur n (replaced w piece block)) i ≡ byte_in cur i
  off i less = elim (cases_eq (i / 4096) n) [
    | inl is ↦ set-same cur n (replaced w piece block) i there is ∙ replaced_before w piece block room (i % 4096) (omega arith)
        ∙ ap (λ (b : List ℕ). get_or b (i % 4096) 0) (block-is ∙ ap (λ (m : ℕ). get_or cur m []) (sym is))
    | inr other ↦ set-other cur n (replaced w piece block) i other
  ]

  past : (i : ℕ) → place + length piece ≤ i → byte_in (set cur n (replaced w piece block)) i ≡ byte_in cur i
  past i more = elim (cases_eq (i / 4096) n) [
    | inl is ↦ set-same cur n (replaced w piece block) i there is ∙ replaced_behind w piece block room (i % 4096) (omega arith)
        ∙ ap (λ (b : List ℕ). get_or b (i % 4096) 0) (block-is ∙ ap (λ (m : ℕ). get_or cur m []) (sym is))
    | inr other ↦ set-other cur n (replaced w piece block) i other
  ]

  -- the bytes of the piece
  here : (i : ℕ) → place ≤ i → i < place + length piece → byte_in (set cur n (replaced w piece block)) i ≡ get_or bytes (i - from) 0
  here i least most =
      let same_block : i / 4096 ≡ n = omega arith in
      let back : place - from + (i % 4096 - w) ≡ i - from = omega arith in
      set-same cur n (replaced w piece block) i there same_block
      ∙ replaced_within w piece block room (i % 4096) (omega arith) (omega arith)
      ∙ ap (λ (p : List ℕ). get_or p (i % 4096 - w) 0) piece-is
      ∙ get_or-take (length piece) rest (i % 4096 - w) 0 (omega arith)
      ∙ ap (λ (p : List ℕ). get_or p (i % 4096 - w) 0) rest-is
      ∙ get_or-drop (place - from) bytes (i % 4096 - w) 0
      ∙ ap (λ (k : ℕ). get_or bytes k 0) back

  pub put-more : IsPut old from (place + length piece) bytes (set cur n (replaced w piece block))
  put-more = record {
    before = λ i less. off i (omega (arith, less, low)) ∙ put.before i less;
    within = λ i least most. elim (cases_lt i place) [
      | inl done ↦ off i done ∙ put.within i least done
      | inr from_here ↦ here i from_here most
    ];
    behind = λ i more. past i more ∙ put.behind i (omega (arith, more));
    sizes = λ m. set-length cur n (replaced w piece block) m there (length-replaced w piece block room ∙ ap length block-is) ∙ put.sizes m;
  }

get_or-zeros : (n i : ℕ) → ◌≡◌ {A = ℕ} (get_or (replicate n 0) i 0) 0
get_or-zeros n i = elim (cases_lt i n) [
  | inl less ↦ get_or-replicate n i 0 0 less
  | inr past ↦ get_or_past (replicate n 0) i 0 (omega (arith, length-replicate {A = ℕ} n 0))
]

-- a block of zeros
pub blank-zeros : (n : ℕ) (block : List ℕ) → block ≡ replicate n 0 → n ≡ 4096 → IsBlank block
blank-zeros n block is size = record {
  whole = ap length is ∙ length-replicate {A = ℕ} n 0 ∙ size;
  zeros = λ k. ap (λ (b : List ℕ). get_or b k 0) is ∙ get_or-zeros n k;
}

-- a block with zeros from a place on
pub length-cleared : (within : ℕ) (block : List ℕ) → length (cleared_from within block) ≡ length block
length-cleared within block = omega (arith, length-append (take within block) (replicate (length block - within) 0), length-take within block, length-replicate {A = ℕ} (length block - within) 0)

pub cleared-before : (within : ℕ) (block : List ℕ) (k : ℕ) → k < within → get_or (cleared_from within block) k 0 ≡ get_or block k 0
cleared-before within block k less = elim (cases_lt k (length block)) [
  | inl there ↦ get_or_append_left (take within block) (replicate (length block - within) 0) 0 k (omega (arith, length-take within block)) ∙ get_or-take within block k 0 less
  | inr past ↦ get_or_past (cleared_from within block) k 0 (omega (arith, length-cleared within block)) ∙ sym (get_or_past block k 0 past)
]

pub cleared-zeros : (within : ℕ) (block : List ℕ) (k : ℕ) → within ≤ k → get_or (cleared_from within block) k 0 ≡ 0
cleared-zeros within block k from = elim (cases_lt within (length block)) [
  | inl inside ↦
      get_or-append_right (take within block) (replicate (length block - within) 0) within k 0 (omega (arith, length-take within block)) from
      ∙ get_or-zeros (length block - within) (k - within)
  | inr outside ↦ get_or_past (cleared_from within block) k 0 (omega (arith, length-cleared within block)) ∙ refl
]

-- a place more, without a block
pub push-none-same : (cur longer : List (List ℕ)) (block : List ℕ) → block ≡ [] → longer ≡ cur ++ block ∷ [] → (n : ℕ) → block_at longer n ≡ block_at cur n
push-none-same cur longer block none is n =
    ap (λ (bs : List (List ℕ)). get_or bs n []) (is ∙ ap (λ (b : List ℕ). cur ++ b ∷ []) none)
    ∙ elim (cases_lt n (length cur)) [
      | inl there ↦ get_or_append_left cur ([] ∷ []) [] n there
      | inr past ↦ get_or-append_right cur ([] ∷ []) (length cur) n [] refl past ∙ one-none (n - length cur) ∙ sym (get_or_past cur n [] past)
    ]
  where
    one-none : (k : ℕ) → ◌≡◌ {A = List ℕ} (get_or ([] ∷ []) k []) []
    one-none zero = refl
    one-none (suc k) = refl

pub push-none-count : (cur longer : List (List ℕ)) (block : List ℕ) → block ≡ [] → longer ≡ cur ++ block ∷ [] → kept_in longer ≡ kept_in cur
unfolding kept_in
push-none-count cur longer block none is =
    ap (λ (bs : List (List ℕ)). count_by is_kept bs) (is ∙ ap (λ (b : List ℕ). cur ++ b ∷ []) none)
    ∙ sum_by-append (λ (b : List ℕ). cond (is_kept b) 1 0) cur ([] ∷ []) ∙ add-zero _

-- as many blocks are kept where each has the length that it had
pub same-count : (xs ys : List (List ℕ)) → length xs ≡ length ys → ((n : ℕ) → length (block_at xs n) ≡ length (block_at ys n)) → kept_in xs ≡ kept_in ys
unfolding kept_in
same-count [] [] len same = refl
same-count [] (y ∷ ys) len same = absurd cc
same-count (x ∷ xs) [] len same = absurd cc
same-count (x ∷ xs) (y ∷ ys) len same =
    let one : List ℕ → ℕ = λ b. cond (is_kept b) 1 0 in
    let first : length x ≡ length y = same 0 in
    let rest : count_by is_kept xs ≡ count_by is_kept ys = same-count xs ys (omega (arith, len)) (λ n. same (suc n)) in
    sum_by-cons one x xs ∙ ap (λ (k : ℕ). cond (not (k == 0)) 1 0 + count_by is_kept xs) first ∙ ap (λ (k : ℕ). one y + k) rest ∙ sym (sum_by-cons one y ys)

-- one block that is kept in place of another raises the count by one at most
at-most-one : (b : Bool) → cond b 1 0 ≤ 1
at-most-one true = omega arith
at-most-one false = omega arith

pub set-count : (xs : List (List ℕ)) (n : ℕ) (block : List ℕ) → n < length xs → kept_in (set xs n block) ≤ kept_in xs + 1
unfolding kept_in
set-count xs n block there =
    omega (arith, sum_by-set (λ (b : List ℕ). cond (is_kept b) 1 0) xs n block [] there, at-most-one (is_kept block))

pub take-count : (k : ℕ) (xs : List (List ℕ)) → kept_in (take k xs) ≤ kept_in xs
unfolding kept_in
take-count k xs = sum_by-take-le (λ (b : List ℕ). cond (is_kept b) 1 0) xs k

-- the tail of the block in which the bytes end
module _ (blocks : List (List ℕ)) (len : ℕ) (block : List ℕ) (within : length blocks ≤ blocks_in len) (there : len / 4096 < length blocks) (block-is : block ≡ block_at blocks (len / 4096)) where
  pub tail-table : IsTable (set blocks (len / 4096) (cleared_from (len % 4096) block)) len
  tail-table = record {
    within = omega (arith, within, length-set blocks (len / 4096) (cleared_from (len % 4096) block));
    zeros = λ i past. elim (cases_eq (i / 4096) (len / 4096)) [
      | inl is ↦ set-same blocks (len / 4096) (cleared_from (len % 4096) block) i there is ∙ cleared-zeros (len % 4096) block (i % 4096) (omega arith)
      | inr other ↦ ap (λ (b : List ℕ). get_or b (i % 4096) 0)
          (get_or_past (set blocks (len / 4096) (cleared_from (len % 4096) block)) (i / 4096) [] (omega (arith, within, length-set blocks (len / 4096) (cleared_from (len % 4096) block))))
    ];
  }

  pub tail-same : (i : ℕ) → i < len → byte_in (set blocks (len / 4096) (cleared_from (len % 4096) block)) i ≡ byte_in blocks i
  tail-same i less = elim (cases_eq (i / 4096) (len / 4096)) [
    | inl is ↦ set-same blocks (len / 4096) (cleared_from (len % 4096) block) i there is ∙ cleared-before (len % 4096) block (i % 4096) (omega arith)
        ∙ ap (λ (b : List ℕ). get_or b (i % 4096) 0) (block-is ∙ ap (λ (m : ℕ). get_or blocks m []) (sym is))
    | inr other ↦ set-other blocks (len / 4096) (cleared_from (len % 4096) block) i other
  ]

  pub tail-sizes : (n : ℕ) → length (block_at (set blocks (len / 4096) (cleared_from (len % 4096) block)) n) ≡ length (block_at blocks n)
  tail-sizes n = set-length blocks (len / 4096) (cleared_from (len % 4096) block) n there (length-cleared (len % 4096) block ∙ ap length block-is)

  pub tail-count : kept_in (set blocks (len / 4096) (cleared_from (len % 4096) block)) ≡ kept_in blocks
  tail-count = same-count (set blocks (len / 4096) (cleared_from (len % 4096) block)) blocks (length-set blocks (len / 4096) (cleared_from (len % 4096) block)) tail-sizes

-- a ready block took the place of one that wasn't kept
module _ (old ready cur left : List (List ℕ)) (first from n : ℕ) (filled : IsFilled old first ready from n cur left) (low : from ≤ n) (order : first ≤ from)
    (there : n < length cur) (none : block_at cur n ≡ []) (blank : IsBlank (block_at left (n - first))) where
  taken : List ℕ
  taken = block_at left (n - first)

  same-bytes : (i : ℕ) → byte_in (set cur n (block_at left (n - first))) i ≡ byte_in cur i
  same-bytes i = elim (cases_eq (i / 4096) n) [
    | inl is ↦ set-same cur n (block_at left (n - first)) i there is ∙ blank.zeros (i % 4096)
        ∙ sym (ap (λ (b : List ℕ). get_or b (i % 4096) 0) (ap (λ (m : ℕ). get_or cur m []) is ∙ none))
    | inr other ↦ set-other cur n (block_at left (n - first)) i other
  ]

  whole-now : (m : ℕ) → IsWhole cur m → IsWhole (set cur n (block_at left (n - first))) m
  whole-now m whole = elim (cases_eq m n) [
    | inl is ↦ let e : m ≡ n = is in ap (λ (k : ℕ). length (get_or (set cur n (block_at left (n - first))) k [])) e ∙ ap length (get_or-set_same cur n (block_at left (n - first)) [] there) ∙ blank.whole
    | inr other ↦ ap length (get_or-set_other cur n m (block_at left (n - first)) [] other) ∙ whole
  ]

  own : IsWhole (set cur n (block_at left (n - first))) n
  own = ap length (get_or-set_same cur n (block_at left (n - first)) [] there) ∙ blank.whole

  ready-now : (m : ℕ) (block : List ℕ) → first ≤ m → IsReady cur first left m → IsReady (set cur n (block_at left (n - first))) first (set left (n - first) block) m
  ready-now m block le is = elim (cases_eq m n) [
    | inl same ↦ let e : n ≡ m = sym same in inl (subst (λ (k : ℕ). IsWhole (set cur n (block_at left (n - first))) k) e own)
    | inr other ↦ elim is [
      | inl whole ↦ inl (whole-now m whole)
      | inr ready_block ↦ inr (let off : m - first ≢ n - first = λ e. other (omega (arith, e, le, low, order)) in
          let same : block_at left (m - first) ≡ block_at (set left (n - first) block) (m - first) = sym (get_or-set_other left (n - first) (m - first) block [] off) in
          subst IsBlank same ready_block)
    ]
  ]

  pub filled-more : (block : List ℕ) → IsFilled old first ready from (n + 1) (set cur n (block_at left (n - first))) (set left (n - first) block)
  filled-more block = record {
    bytes = λ i. same-bytes i ∙ filled.bytes i;
    kept = λ m from_m to_m. elim (cases_lt m n) [
      | inl less ↦ whole-now m (filled.kept m from_m less)
      | inr past ↦ let is : n ≡ m = omega arith in subst (λ (k : ℕ). IsWhole (set cur n (block_at left (n - first))) k) is own
    ];
    still_ready = λ m le is. ready-now m block le (filled.still_ready m le is);
    count = omega (arith, filled.count, set-count cur n (block_at left (n - first)) there, low);
  }

-- one that is kept stays
pub filled-same : (old ready cur left : List (List ℕ)) (first from n : ℕ) → IsFilled old first ready from n cur left → from ≤ n → IsWhole cur n → IsFilled old first ready from (n + 1) cur left
filled-same old ready cur left first from n filled low whole = record {
  bytes = filled.bytes;
  kept = λ m from_m to_m. elim (cases_lt m n) [
    | inl less ↦ filled.kept m from_m less
    | inr past ↦ let is : n ≡ m = omega arith in subst (λ (k : ℕ). IsWhole cur k) is whole
  ];
  still_ready = filled.still_ready;
  count = omega (arith, filled.count, low);
}

pub filled-none : (old ready : List (List ℕ)) (first from : ℕ) → IsFilled old first ready from from old ready
filled-none old ready first from = record {
  bytes = λ i. refl;
  kept = λ m low high. absurd (omega (arith, low, high));
  still_ready = λ m le is. is;
  count = omega arith;
}

pub filled-taken : (old ready cur left : List (List ℕ)) (first from n : ℕ) (taken block : List ℕ) → IsFilled old first ready from n cur left → from ≤ n → first ≤ from
    → n < length cur → block_at cur n ≡ [] → IsBlank (block_at left (n - first)) → taken ≡ block_at left (n - first)
    → IsFilled old first ready from (n + 1) (set cur n taken) (set left (n - first) block)
filled-taken old ready cur left first from n taken block filled low order there none blank is =
    subst (λ (b : List ℕ). IsFilled old first ready from (n + 1) (set cur n b) (set left (n - first) block)) (sym is)
    (filled-more old ready cur left first from n filled low order there none blank block)

-- one ready block more
pub ready-push : (blocks ready longer : List (List ℕ)) (block : List ℕ) (from n : ℕ) → length ready ≡ n - from → from ≤ n → longer ≡ ready ++ block ∷ []
    → ((m : ℕ) → from ≤ m → m < n → IsReady blocks from ready m) → IsWhole blocks n ⊎ IsBlank block → (m : ℕ) → from ≤ m → m < n + 1 → IsReady blocks from longer m
ready-push blocks ready longer block from n size order is before own m low high = elim (cases_lt m n) [
  | inl less ↦ elim (before m low less) [
    | inl whole ↦ inl whole
    | inr blank ↦ inr (subst IsBlank (sym (ap (λ (bs : List (List ℕ)). get_or bs (m - from) []) is ∙ get_or_append_left ready (block ∷ []) [] (m - from) (omega arith))) blank)
  ]
  | inr past ↦
      let here : n ≡ m = omega arith in
      elim own [
        | inl whole ↦ inl (subst (λ (k : ℕ). IsWhole blocks k) here whole)
        | inr blank ↦
            let none : m - from - length ready ≡ 0 = omega arith in
            inr (subst IsBlank (sym (ap (λ (bs : List (List ℕ)). get_or bs (m - from) []) is ∙ get_or-append_right ready (block ∷ []) (length ready) (m - from) [] refl (omega arith)
            ∙ ap (λ (k : ℕ). get_or (block ∷ []) k []) none)) blank)
      ]
]

-- one block more was given up, the last
module _ (old ready cur left shorter after : List (List ℕ)) (first : ℕ) (block : List ℕ) (released : IsReleased old first ready (length cur) cur left) (some : 0 < length cur)
    (shorter-is : shorter ≡ take (length cur - 1) cur) (block-is : block ≡ block_at cur (length cur - 1)) (size : length left ≡ length ready)
    (back : first ≤ length cur - 1 → IsGivenBack left (length cur - 1 - first) block after) (none : length cur - 1 < first → after ≡ left) where
  other-blank : (n : ℕ) → first ≤ n → n ≢ length cur - 1 → IsBlank (block_at left (n - first)) → IsBlank (block_at after (n - first))
  other-blank n low other blank = elim (cases_lt (length cur - 1) first) [
    | inl under ↦ subst (λ (bs : List (List ℕ)). IsBlank (block_at bs (n - first))) (sym (none under)) blank
    | inr from ↦ let off : n - first ≢ length cur - 1 - first = λ e. other (omega (arith, e, low, from)) in
        subst IsBlank (sym ((back from).others (n - first) off)) blank
  ]

  ready-after : (n : ℕ) → first ≤ n → n - first < length ready → IsReady cur first left n → IsReady shorter first after n
  ready-after n low under is = elim (cases_eq n (length cur - 1)) [
    | inl last ↦
        let e : length cur - 1 ≡ n = sym last in
        let from : first ≤ length cur - 1 = omega arith in
        let place : length cur - 1 - first ≡ n - first = omega arith in
        elim is [
          | inl whole ↦ inr (subst (λ (k : ℕ). IsBlank (block_at after k)) place ((back from).whole (omega arith) (ap length block-is ∙ ap (λ (k : ℕ). length (block_at cur k)) e ∙ whole)))
          | inr blank ↦ inr (subst (λ (k : ℕ). IsBlank (block_at after k)) place ((back from).blank (subst (λ (k : ℕ). IsBlank (block_at left k)) (sym place) blank)))
        ]
    | inr other ↦ elim is [
      | inl whole ↦ inl (ap (λ (bs : List (List ℕ)). length (block_at bs n)) shorter-is
          ∙ ap length (get_or-take (length cur - 1) cur n [] (omega (arith, whole-there cur n whole, other))) ∙ whole)
      | inr blank ↦ inr (other-blank n low other blank)
    ]
  ]

  pub released-more : IsReleased old first ready (length cur - 1) shorter after
  released-more = record {
    blocks = shorter-is ∙ ap (λ (bs : List (List ℕ)). take (length cur - 1) bs) released.blocks ∙ take-take (length cur - 1) (length cur) old (omega arith);
    still_ready = λ n low under is. ready-after n low under (released.still_ready n low under is);
  }

pub released-none : (old ready : List (List ℕ)) (first count : ℕ) → length old ≤ count → IsReleased old first ready count old ready
released-none old ready first count le = record {
  blocks = sym (take_all count old le);
  still_ready = λ n low under is. is;
}

pub blank-there : (ready : List (List ℕ)) (k : ℕ) → IsBlank (block_at ready k) → k < length ready
blank-there ready k blank = whole-there ready k blank.whole

-- where no block is kept, a blank one is ready
pub missing-ready : (blocks : List (List ℕ)) (first : ℕ) (ready : List (List ℕ)) (n : ℕ) → block_at blocks n ≡ [] → IsReady blocks first ready n → IsBlank (block_at ready (n - first))
missing-ready blocks first ready n none (inl whole) = absurd (let zero : length (block_at blocks n) ≡ 0 = ap length none in omega (arith, zero, whole))
missing-ready blocks first ready n none (inr blank) = blank

-- the bytes of a table of which the last blocks were given up, before them
pub take-byte : (k : ℕ) (blocks : List (List ℕ)) (i : ℕ) → i / 4096 < k → byte_in (take k blocks) i ≡ byte_in blocks i
take-byte k blocks i less = ap (λ (b : List ℕ). get_or b (i % 4096) 0) (get_or-take k blocks (i / 4096) [] less)

-- cut to a length
pub cut-is : (old ready mid left now : List (List ℕ)) (first len : ℕ) → IsReleased old first ready (blocks_in len) mid left → IsTable now len
    → ((i : ℕ) → i < len → byte_in now i ≡ byte_in mid i) → ((n : ℕ) → length (block_at now n) ≡ length (block_at mid n)) → kept_in now ≡ kept_in mid
    → IsCut old first ready len now left
cut-is old ready mid left now first len released table same sizes count = record {
  table = table;
  bytes = λ i less. same i less ∙ ap (λ (bs : List (List ℕ)). byte_in bs i) released.blocks ∙ take-byte (blocks_in len) old i (omega (arith, less));
  still_ready = λ n low under is. elim (released.still_ready n low under is) [
    | inl whole ↦ inl (sizes n ∙ whole)
    | inr blank ↦ inr blank
  ];
  count = omega (arith, count, ap (λ (bs : List (List ℕ)). kept_in bs) released.blocks, take-count (blocks_in len) old);
}

pub take-same : (blocks : List (List ℕ)) (k count : ℕ) → k ≡ min count (length blocks) → take k blocks ≡ take count blocks
take-same blocks k count is = elim (cases_lt count (length blocks)) [
  | inl inside ↦ ap (λ (m : ℕ). take m blocks) (omega arith)
  | inr outside ↦ take_all k blocks (omega arith) ∙ sym (take_all count blocks (omega arith))
]

-- what is there only in one case
pub some-true : (b : Bool) (bytes : List ℕ) → IsSome (if b then Some bytes else None) → b ≡ true
some-true true bytes is = refl
some-true false bytes is = absurd cc

-- a piece is that part of a block where each of its bytes is
pub part-same : (block : List ℕ) (within : ℕ) (piece : List ℕ) → within + length piece ≤ length block → ((k : ℕ) → k < length piece → get_or block (within + k) 0 ≡ get_or piece k 0)
    → take (within + length piece - within) (drop within block) ≡ piece
part-same block within piece fits each =
    ext_get_or 0 (take (within + length piece - within) (drop within block)) piece
    (omega (arith, length-take (within + length piece - within) (drop within block), length-drop within block))
    (λ k under.
    let less : k < length piece = omega (arith, under, length-take (within + length piece - within) (drop within block)) in
    get_or-take (within + length piece - within) (drop within block) k 0 (omega (arith, less)) ∙ get_or-drop within block k 0 ∙ each k less)

pub same-part : (block : List ℕ) (within : ℕ) (piece : List ℕ) → take (within + length piece - within) (drop within block) ≡ piece
    → (k : ℕ) → k < length piece → get_or block (within + k) 0 ≡ get_or piece k 0
same-part block within piece same k less =
    sym (get_or-drop within block k 0) ∙ sym (get_or-take (within + length piece - within) (drop within block) k 0 (omega (arith, less)))
    ∙ ap (λ (l : List ℕ). get_or l k 0) same
