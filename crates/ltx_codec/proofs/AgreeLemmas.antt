-- Bytes with the same front break the same rules in it.
use Rattle.std.proofs.Common.{◌≡◌, ◌≢◌, ℕ, zero, suc, ◌+◌, ◌-◌, ◌*◌, ◌%◌, ◌<◌, ◌≤◌, List, [], ◌∷◌, ◌++◌, length, take, drop, map, arith, refl, sym, ap, subst, inl, inr, ◌∙◌, ◌⊎◌, length-append}
use Rattle.std.specs.List.{range_with_len}
use Rattle.std.specs.Int.{w32, w64, from_be_bytes}
use Rattle.std.proofs.lemmas.List.{drop-take, take-append-le}
use Rattle.std.proofs.lemmas.Bool.{cases_order, cases_lt}
use Rattle.lf_sqlite_pages.specs.PageSize.{IsPageSize}
use Rattle.lf_sqlite_pages.specs.LockPage.{IsWithinLimit}
use Rattle.lf_sqlite_pages.specs.declared.page_write.PageWrite.{PageWrite}
use Rattle.ltx_codec.specs.Sums.{sum_of_writes}
use Rattle.ltx_codec.specs.Numbering.{BreaksNumbering}
use Rattle.ltx_codec.specs.declared.header.Header.{Header}
use Rattle.ltx_codec.specs.Fields.{stated_flags, stated_page_size, stated_commit, stated_min, stated_pre, header_in}
use Rattle.ltx_codec.specs.Format.{magic, file_sum}
use Rattle.ltx_codec.specs.Places.{Breaks, IsBroken, IsSoundBefore, IsEarliest, StandsInside, last_place, number_place, number_at, number_before, page_in, write_in, writes_in, HasPages, HasBlock, IsWrongPost, IsWrongSum}
use Rattle.ltx_codec.specs.declared.fault.LtxFault.{LtxFault}
use Rattle.ltx_codec.specs.declared.fault.LtxFault.TheVariants as fault
use Rattle.ltx_codec.proofs.BlockLemmas.{later_place, next_place}
use Rattle.lf_base.specs.Endian.{be32_at, be64_at}

take-of_take : (m n : ℕ) (l : List ℕ) → m ≤ n → take m (take n l) ≡ take m l
take-of_take zero n l le = refl
take-of_take (suc m) zero l le = absurd (omega (arith, le))
take-of_take (suc m) (suc n) [] le = refl
take-of_take (suc m) (suc n) (x ∷ l) le = ap (λ (t : List ℕ). x ∷ t) (take-of_take m n l (omega (arith, le)))

-- both lists begin with the same n bytes
pub record Agree (a b : List ℕ) (n : ℕ) : Type 0 where
  pub front : take n a ≡ take n b
  pub left : n ≤ length a
  pub right : n ≤ length b

pub turned : (a b : List ℕ) (n : ℕ) → Agree a b n → Agree b a n
turned a b n g = record { front = sym g.front; left = g.right; right = g.left }

pub longer : (a more : List ℕ) → Agree a (a ++ more) (length a)
longer a more = record {
  front = sym (take-append-le (length a) a more (omega arith));
  left = omega arith;
  right = omega (arith, length-append a more);
}

slice_same : (p m n : ℕ) (a b : List ℕ) → Agree a b n → p + m ≤ n → take m (drop p a) ≡ take m (drop p b)
slice_same p m n a b g le =
    let one : (l : List ℕ) → take m (drop p l) ≡ take m (drop p (take n l)) = λ (l : List ℕ).
    let n-is : n ≡ p + (n - p) = omega arith in
    sym (ap (λ (i : ℕ). take m (drop p (take i l))) n-is ∙ ap (λ (x : List ℕ). take m x) (drop-take p (n - p) l) ∙ take-of_take m (n - p) (drop p l) (omega arith)) in
    one a ∙ ap (λ (l : List ℕ). take m (drop p l)) g.front ∙ sym (one b)

pub front_same : (m n : ℕ) (a b : List ℕ) → Agree a b n → m ≤ n → take m a ≡ take m b
front_same m n a b g le = sym (take-of_take m n a le) ∙ ap (λ (l : List ℕ). take m l) g.front ∙ take-of_take m n b le

pub four_same : (p n : ℕ) (a b : List ℕ) → Agree a b n → p + 4 ≤ n → be32_at p a ≡ be32_at p b
unfolding be32_at
four_same p n a b g le = ap (λ (l : List ℕ). from_be_bytes w32 l) (slice_same p 4 n a b g le)

pub eight_same : (p n : ℕ) (a b : List ℕ) → Agree a b n → p + 8 ≤ n → be64_at p a ≡ be64_at p b
unfolding be64_at
eight_same p n a b g le = ap (λ (l : List ℕ). from_be_bytes w64 l) (slice_same p 8 n a b g le)

module _ (a b : List ℕ) (n : ℕ) (g : Agree a b n) (long : 12 ≤ n) where
  pub size_same : stated_page_size a ≡ stated_page_size b
  size_same = four_same 8 n a b g (omega arith)

  pub place_same : (k : ℕ) → number_place a k ≡ number_place b k
  place_same k = ap (λ (s : ℕ). 100 + k * (4 + s)) size_same

  pub number_same : (k : ℕ) → number_place a k + 4 ≤ n → number_at a k ≡ number_at b k
  number_same k le = four_same (number_place a k) n a b g le ∙ ap (λ (p : ℕ). be32_at p b) (place_same k)

  pub before_same : (k : ℕ) → number_place a k ≤ n → number_before a k ≡ number_before b k
  before_same zero le = refl
  before_same (suc k) le = number_same k (omega (arith, later_place a k (suc k) (omega arith)))

  pub pages_same : (k : ℕ) → number_place a k ≤ n → HasPages a k → HasPages b k
  pages_same k le pages j less zero-is = pages j less (number_same j (omega (arith, later_place a j k less)) ∙ zero-is)

  pub page_same : (k : ℕ) → number_place a (k + 1) ≤ n → page_in a k ≡ page_in b k
  page_same k le =
      slice_same (number_place a k + 4) (stated_page_size a) n a b g (omega (arith, next_place a k))
      ∙ ap (λ (p : ℕ). take (stated_page_size a) (drop (p + 4) b)) (place_same k)
      ∙ ap (λ (s : ℕ). take s (drop (number_place b k + 4) b)) size_same

  pub write_same : (k : ℕ) → number_place a (k + 1) ≤ n → write_in a k ≡ write_in b k
  write_same k le =
      ap (λ (m : ℕ). write_of m (page_in a k)) (number_same k (omega (arith, le, next_place a k)))
      ∙ ap (λ (p : List ℕ). write_of (number_at b k) p) (page_same k le)
    where
      write_of : ℕ → List ℕ → PageWrite
      write_of m p = record { number = m; bytes = p }

  pub writes_same : (k from count : ℕ) → from + count ≡ k → number_place a k ≤ n → map (write_in a) (range_with_len from count) ≡ map (write_in b) (range_with_len from count)
  writes_same k from zero sum le = refl
  writes_same k from (suc count) sum le =
      let near : number_place a (from + 1) ≤ n = past k (from + 1) (omega arith) le in
      ap (λ (w : PageWrite). w ∷ map (write_in a) (range_with_len (from + 1) count)) (write_same from near)
      ∙ ap (λ (l : List PageWrite). write_in b from ∷ l) (writes_same k (from + 1) count (omega arith) le)
    where
      past : (k j : ℕ) → j ≤ k → number_place a k ≤ n → number_place a j ≤ n
      past k j le room = elim (cases_order j k) [
        | inl same ↦ subst (λ (i : ℕ). number_place a i ≤ n) (sym same) room
        | inr other ↦ elim other [
          | inl before ↦ omega (arith, later_place a j k before)
          | inr after ↦ absurd (omega (arith, after, le))
        ]
      ]

  pub block_same : (k : ℕ) → number_place a k + 4 ≤ n → HasBlock a k → HasBlock b k
  block_same k le block = record {
    pages = pages_same k (omega (arith, le)) block.pages;
    ends = sym (number_same k le) ∙ block.ends;
    there = let right = g.right in omega (arith, place_same k);
  }

  pub header_same : 100 ≤ n → header_in a ≡ header_in b
  header_same whole = cc (
    four_same 8 n a b g (omega arith),
    four_same 12 n a b g (omega arith),
    eight_same 16 n a b g (omega arith),
    eight_same 24 n a b g (omega arith),
    eight_same 32 n a b g (omega arith),
    eight_same 40 n a b g (omega arith),
    eight_same 48 n a b g (omega arith),
    eight_same 56 n a b g (omega arith),
    four_same 64 n a b g (omega arith),
    four_same 68 n a b g (omega arith),
    eight_same 72 n a b g (omega arith),
  )

  -- a rule that the one breaks within the front, the other breaks there too
  module _ (q : ℕ) (within : q ≤ n) where
    -- what holds of the header, the k-th number and the one before holds of both
    pub numbers_same : (P : Header → ℕ → ℕ → Type 0) (k : ℕ) → number_place a k + 4 ≤ n → P (header_in a) (number_before a k) (number_at a k)
        → P (header_in b) (number_before b k) (number_at b k)
    numbers_same P k le here =
        subst (λ (h : Header). P h (number_before b k) (number_at b k)) (header_same (omega (arith, le)))
        (subst (λ (m : ℕ). P (header_in a) m (number_at b k)) (before_same k (omega (arith, le)))
        (subst (λ (m : ℕ). P (header_in a) (number_before a k) m) (number_same k le) here))

    wrong_sum_same : (k : ℕ) → number_place a k + 12 ≤ n → IsWrongSum a k (be64_at (number_place a k + 4) a) → IsWrongSum b k (be64_at (number_place b k + 4) b)
    wrong_sum_same k le rule =
        let sum : be64_at (number_place a k + 4) a ≡ be64_at (number_place b k + 4) b =
        eight_same (number_place a k + 4) n a b g (omega (arith, le)) ∙ ap (λ (p : ℕ). be64_at (p + 4) b) (place_same k) in
        subst (λ (h : Header). IsWrongPost h (sum_of_writes (writes_in b k)) (be64_at (number_place b k + 4) b)) (header_same (omega (arith, le)))
        (subst (λ (ws : List PageWrite). IsWrongPost (header_in a) (sum_of_writes ws) (be64_at (number_place b k + 4) b)) (writes_same k 0 k (omega arith) (omega (arith, le)))
        (subst (λ (s : ℕ). IsWrongPost (header_in a) (sum_of_writes (writes_in a k)) s) sum rule))

    pub breaks_same : (f : LtxFault) → f ≢ fault.Short → Breaks a f q → Breaks b f q
    breaks_same fault.Magic inside rule = (rule.0, λ (same : take 4 b ≡ magic). rule.1 (front_same 4 n a b g (omega (arith, rule.0)) ∙ same))
    breaks_same fault.Compressed inside rule = (rule.0, ap (λ (x : ℕ). x % 2) (sym (four_same 4 n a b g (omega (arith, rule.0)))) ∙ rule.1)
    breaks_same fault.UnknownFlags inside rule =
        let flags = four_same 4 n a b g (omega (arith, rule.0)) in
        (rule.0, ap (λ (x : ℕ). x % 2) (sym flags) ∙ rule.1, λ (zero-is : stated_flags b ≡ 0). rule.2 (flags ∙ zero-is))
    breaks_same fault.PageSize inside rule = (rule.0, λ (is : IsPageSize (stated_page_size b)). rule.1 (subst (λ (s : ℕ). IsPageSize s) (sym size_same) is))
    breaks_same fault.Commit inside rule =
        let commit : stated_commit a ≡ stated_commit b = four_same 12 n a b g (omega (arith, rule.0)) in
        (rule.0, λ (is : IsWithinLimit (stated_page_size b) (stated_commit b)). rule.1 (rw (size_same, commit) is))
    breaks_same fault.Txid inside rule = elim rule [
      | inl low ↦ inl (low.0, sym (eight_same 16 n a b g (omega (arith, low.0))) ∙ low.1)
      | inr less ↦ inr (less.0, omega (arith, less.1, eight_same 24 n a b g (omega (arith, less.0)), eight_same 16 n a b g (omega (arith, less.0))))
    ]
    breaks_same fault.PreSum inside rule =
        let min : stated_min a ≡ stated_min b = eight_same 16 n a b g (omega (arith, rule.0)) in
        let pre : stated_pre a ≡ stated_pre b = eight_same 40 n a b g (omega (arith, rule.0)) in (
          rule.0,
          elim rule.1 [
            | inl snapshot ↦ inl (sym min ∙ snapshot.0, λ (zero-is : stated_pre b ≡ 0). snapshot.1 (pre ∙ zero-is))
            | inr delta ↦ inr (λ (one : stated_min b ≡ 1). delta.0 (min ∙ one), omega (arith, delta.1, pre))
          ],
        )
    breaks_same fault.PageOrder inside rule = let k = rule.0 in
        (k, pages_same k (omega (arith, rule.2)) rule.1, rule.2 ∙ ap (λ (p : ℕ). p + 4) (place_same k), numbers_same (λ h m n. BreaksNumbering h m n fault.PageOrder) k (omega (arith, rule.2)) rule.3)
    breaks_same fault.PageRange inside rule = let k = rule.0 in
        (k, pages_same k (omega (arith, rule.2)) rule.1, rule.2 ∙ ap (λ (p : ℕ). p + 4) (place_same k), numbers_same (λ h m n. BreaksNumbering h m n fault.PageRange) k (omega (arith, rule.2)) rule.3)
    breaks_same fault.NotWhole inside rule = let k = rule.0 in
        (k, pages_same k (omega (arith, rule.2)) rule.1, rule.2 ∙ ap (λ (p : ℕ). p + 4) (place_same k), numbers_same (λ h m n. BreaksNumbering h m n fault.NotWhole) k (omega (arith, rule.2)) rule.3)
    breaks_same fault.PostSum inside rule = let k = rule.0 in
        (k, block_same k (omega (arith, rule.2)) rule.1, rule.2 ∙ ap (λ (p : ℕ). p + 12) (place_same k), wrong_sum_same k (omega (arith, rule.2)) rule.3)
    breaks_same (fault.FileSum want got) inside rule = let k = rule.0 in (
      k,
      block_same k (omega (arith, rule.2)) rule.1,
      rule.2 ∙ ap (λ (p : ℕ). p + 20) (place_same k),
      rule.3 ∙ ap file_sum (front_same (number_place a k + 12) n a b g (omega (arith, rule.2)) ∙ ap (λ (p : ℕ). take (p + 12) b) (place_same k)),
      rule.4 ∙ eight_same (number_place a k + 12) n a b g (omega (arith, rule.2)) ∙ ap (λ (p : ℕ). be64_at (p + 12) b) (place_same k),
      rule.5,
    )
    breaks_same fault.Tail inside rule = let k = rule.0 in
        (k, block_same k (omega (arith, rule.2)) rule.1, rule.2 ∙ ap (λ (p : ℕ). p + 21) (place_same k))
    breaks_same fault.Short inside rule = absurd (inside refl)
    breaks_same fault.NoMemory inside rule = absurd rule

-- what is there of the bytes
pub there_inside : (bytes : List ℕ) (f : LtxFault) → f ≢ fault.Short → last_place bytes f ≡ length bytes
there_inside bytes fault.Magic inside = refl
there_inside bytes fault.Compressed inside = refl
there_inside bytes fault.UnknownFlags inside = refl
there_inside bytes fault.PageSize inside = refl
there_inside bytes fault.Txid inside = refl
there_inside bytes fault.Commit inside = refl
there_inside bytes fault.PreSum inside = refl
there_inside bytes fault.PageOrder inside = refl
there_inside bytes fault.PageRange inside = refl
there_inside bytes fault.NotWhole inside = refl
there_inside bytes fault.PostSum inside = refl
there_inside bytes (fault.FileSum want got) inside = refl
there_inside bytes fault.Tail inside = refl
there_inside bytes fault.NoMemory inside = refl
there_inside bytes fault.Short inside = absurd (inside refl)

-- a rule needs the first bytes to be broken: the least place is 4, and behind the page size it is 16
early : (bytes : List ℕ) (f : LtxFault) (q : ℕ) → Breaks bytes f q → f ≢ fault.Short → (q ≡ 4) ⊎ (q ≡ 8) ⊎ (12 ≤ q)
early bytes fault.Magic q rule inside = inl rule.0
early bytes fault.Compressed q rule inside = inr (inl rule.0)
early bytes fault.UnknownFlags q rule inside = inr (inl rule.0)
early bytes fault.PageSize q rule inside = inr (inr (omega (arith, rule.0)))
early bytes fault.Commit q rule inside = inr (inr (omega (arith, rule.0)))
early bytes fault.PreSum q rule inside = inr (inr (omega (arith, rule.0)))
early bytes fault.Txid q rule inside = elim rule [ inl low ↦ inr (inr (omega (arith, low.0))) | inr less ↦ inr (inr (omega (arith, less.0))) ]
early bytes fault.PageOrder q rule inside = inr (inr (omega (arith, rule.2)))
early bytes fault.PageRange q rule inside = inr (inr (omega (arith, rule.2)))
early bytes fault.NotWhole q rule inside = inr (inr (omega (arith, rule.2)))
early bytes fault.PostSum q rule inside = inr (inr (omega (arith, rule.2)))
early bytes (fault.FileSum want got) q rule inside = inr (inr (omega (arith, rule.2)))
early bytes fault.Tail q rule inside = inr (inr (omega (arith, rule.2)))
early bytes fault.Short q rule inside = absurd (inside refl)
early bytes fault.NoMemory q rule inside = absurd rule

-- the first three rules, whatever the page size
first_same : (a b : List ℕ) (n q : ℕ) → Agree a b n → q ≤ n → n < 12 → (f : LtxFault) → f ≢ fault.Short → Breaks a f q → Breaks b f q
first_same a b n q g within few fault.Magic inside rule = (rule.0, λ (same : take 4 b ≡ magic). rule.1 (front_same 4 n a b g (omega (arith, rule.0)) ∙ same))
first_same a b n q g within few fault.Compressed inside rule = (rule.0, ap (λ (x : ℕ). x % 2) (sym (four_same 4 n a b g (omega (arith, rule.0)))) ∙ rule.1)
first_same a b n q g within few fault.UnknownFlags inside rule =
    let flags = four_same 4 n a b g (omega (arith, rule.0)) in
    (rule.0, ap (λ (x : ℕ). x % 2) (sym flags) ∙ rule.1, λ (zero-is : stated_flags b ≡ 0). rule.2 (flags ∙ zero-is))
first_same a b n q g within few fault.PageSize inside rule = absurd (omega (arith, rule.0))
first_same a b n q g within few fault.Commit inside rule = absurd (omega (arith, rule.0))
first_same a b n q g within few fault.PreSum inside rule = absurd (omega (arith, rule.0))
first_same a b n q g within few fault.Txid inside rule = elim rule [ inl low ↦ absurd (omega (arith, low.0)) | inr less ↦ absurd (omega (arith, less.0)) ]
first_same a b n q g within few fault.PageOrder inside rule = absurd (omega (arith, rule.2))
first_same a b n q g within few fault.PageRange inside rule = absurd (omega (arith, rule.2))
first_same a b n q g within few fault.NotWhole inside rule = absurd (omega (arith, rule.2))
first_same a b n q g within few fault.PostSum inside rule = absurd (omega (arith, rule.2))
first_same a b n q g within few (fault.FileSum want got) inside rule = absurd (omega (arith, rule.2))
first_same a b n q g within few fault.Tail inside rule = absurd (omega (arith, rule.2))
first_same a b n q g within few fault.Short inside rule = absurd (inside refl)
first_same a b n q g within few fault.NoMemory inside rule = absurd rule

-- a rule broken within a common front is broken by both
pub broken_same : (a b : List ℕ) (n q : ℕ) (f : LtxFault) → Agree a b n → q ≤ n → f ≢ fault.Short → IsBroken a f q → IsBroken b f q
broken_same a b n q f g within inside broken = record {
  breaks = elim (cases_lt n 12) [
    | inl few ↦ first_same a b n q g within few f inside broken.breaks
    | inr long ↦ breaks_same a b n g long q within f inside broken.breaks
  ];
  there = let right = g.right in omega (arith, there_inside b f inside);
}

-- whether a fault is Short
is_short : (f : LtxFault) → (f ≡ fault.Short) ⊎ (f ≢ fault.Short)
is_short fault.Magic = inr (λ same. cc)
is_short fault.Compressed = inr (λ same. cc)
is_short fault.UnknownFlags = inr (λ same. cc)
is_short fault.PageSize = inr (λ same. cc)
is_short fault.Txid = inr (λ same. cc)
is_short fault.Commit = inr (λ same. cc)
is_short fault.PreSum = inr (λ same. cc)
is_short fault.PageOrder = inr (λ same. cc)
is_short fault.PageRange = inr (λ same. cc)
is_short fault.NotWhole = inr (λ same. cc)
is_short fault.PostSum = inr (λ same. cc)
is_short (fault.FileSum want got) = inr (λ same. cc)
is_short fault.Tail = inr (λ same. cc)
is_short fault.NoMemory = inr (λ same. cc)
is_short fault.Short = inl refl

-- bytes that are sound up to a place stay so whatever follows
pub sound_longer : (bytes more : List ℕ) (place : ℕ) → place ≤ length bytes + 1 → IsSoundBefore bytes place → IsSoundBefore (bytes ++ more) place
sound_longer bytes more place near sound f q broken =
    elim (is_short f) [
      | inl short ↦
          let b : IsBroken (bytes ++ more) fault.Short q = subst (λ (g : LtxFault). IsBroken (bytes ++ more) g q) short broken in
          omega (arith, b.breaks.0, length-append bytes more)
      | inr inside ↦ elim (cases_lt (length bytes) q) [
        | inl far ↦ omega (arith, far)
        | inr here ↦ sound f q (broken_same (bytes ++ more) bytes (length bytes) q f (turned bytes (bytes ++ more) (length bytes) (longer bytes more)) here inside broken)
      ]
    ]

-- a fault inside stays the earliest
pub fault_stays_lem : (bytes more : List ℕ) (f : LtxFault) → IsEarliest bytes f → f ≢ fault.Short → StandsInside f → IsEarliest (bytes ++ more) f
fault_stays_lem bytes more f earliest inside stands =
    let here : earliest.place ≤ length bytes = omega (arith, earliest.broken.there, there_inside bytes f inside) in
    record {
      place = earliest.place;
      broken = broken_same bytes (bytes ++ more) (length bytes) earliest.place f (longer bytes more) here inside earliest.broken;
      earliest = sound_longer bytes more earliest.place (omega (arith, here)) earliest.earliest;
    }
