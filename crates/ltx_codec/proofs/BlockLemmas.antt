-- Which rule of the page block and the trailer may be broken next.
use Rattle.std.proofs.Common.{◌≡◌, ◌≢◌, ℕ, ◌+◌, ◌*◌, ◌<◌, ◌≤◌, List, length, take, arith, refl, sym, subst, inl, inr, ◌∙◌}
use Rattle.std.proofs.lemmas.Bool.{cases_order}
use Rattle.std.proofs.Math.Nat.{mul-le-mul_right}
use Rattle.ltx_codec.specs.Fields.{stated_page_size}
use Rattle.ltx_codec.specs.Format.{file_sum}
use Rattle.ltx_codec.specs.Places.{IsBroken, IsSoundBefore, IsEarliest, number_place, number_at, HasPages, HasBlock, BreaksAt, IsWrongSum}
use Rattle.ltx_codec.specs.Block.{IsNextNumber}
use Rattle.ltx_codec.specs.declared.fault.LtxFault.{LtxFault}
use Rattle.ltx_codec.specs.declared.fault.LtxFault.TheVariants as fault
use Rattle.lf_base.specs.Endian.{be64_at}

-- a later number stands a whole slot further on
pub later_place : (bytes : List ℕ) (j k : ℕ) → j < k → number_place bytes j + (4 + stated_page_size bytes) ≤ number_place bytes k
later_place bytes j k less =
    let slot = 4 + stated_page_size bytes in
    let slots : (j + 1) * slot ≤ k * slot = mul-le-mul_right slot (omega arith) in
    omega (arith, slots)

-- the place after one more page
pub next_place : (bytes : List ℕ) (k : ℕ) → number_place bytes (k + 1) ≡ number_place bytes k + (4 + stated_page_size bytes)
next_place bytes k = omega arith

-- What may be broken behind the k-th number's place: a rule of the k-th number, one of the trailer if the
-- block ends there, one of a later number, or the end.
pub data Next (bytes : List ℕ) (k q : ℕ) : LtxFault → Type 0 where
  order : q ≡ number_place bytes k + 4 → BreaksAt bytes k fault.PageOrder → Next bytes k q fault.PageOrder
  range : q ≡ number_place bytes k + 4 → BreaksAt bytes k fault.PageRange → Next bytes k q fault.PageRange
  left_out : q ≡ number_place bytes k + 4 → BreaksAt bytes k fault.NotWhole → Next bytes k q fault.NotWhole
  sum : HasBlock bytes k → q ≡ number_place bytes k + 12 → IsWrongSum bytes k (be64_at (number_place bytes k + 4) bytes) → Next bytes k q fault.PostSum
  file_sum_wrong : {want got : ℕ} → HasBlock bytes k → q ≡ number_place bytes k + 20
      → want ≡ file_sum (take (number_place bytes k + 12) bytes) → got ≡ be64_at (number_place bytes k + 12) bytes → want ≢ got → Next bytes k q (fault.FileSum want got)
  tail : HasBlock bytes k → q ≡ number_place bytes k + 21 → Next bytes k q fault.Tail
  later : {f : LtxFault} → number_at bytes k ≢ 0 → number_place bytes k + stated_page_size bytes + 8 ≤ q → Next bytes k q f
  end : q ≡ length bytes + 1 → Next bytes k q fault.Short

module _ (bytes : List ℕ) (k : ℕ) (pages : HasPages bytes k) where
  -- a rule that is broken behind the k-th number's place is one of these
  pub next : (f : LtxFault) (q : ℕ) → IsBroken bytes f q → number_place bytes k < q → Next bytes k q f
  next fault.Magic q b far = absurd (omega (arith, b.breaks.0))
  next fault.Compressed q b far = absurd (omega (arith, b.breaks.0))
  next fault.UnknownFlags q b far = absurd (omega (arith, b.breaks.0))
  next fault.PageSize q b far = absurd (omega (arith, b.breaks.0))
  next fault.Commit q b far = absurd (omega (arith, b.breaks.0))
  next fault.Txid q b far = elim b.breaks [ inl low ↦ absurd (omega (arith, low.0)) | inr less ↦ absurd (omega (arith, less.0)) ]
  next fault.PreSum q b far = absurd (omega (arith, b.breaks.0))
  next fault.PageOrder q b far = let j = b.breaks.0 in
      elim (cases_order j k) [
        | inl same ↦ order (subst (λ (i : ℕ). q ≡ number_place bytes i + 4) same b.breaks.2) (subst (λ (i : ℕ). BreaksAt bytes i fault.PageOrder) same b.breaks.3)
        | inr other ↦ elim other [
          | inl before ↦ absurd (omega (arith, b.breaks.2, later_place bytes j k before))
          | inr after ↦ later (b.breaks.1 k after) (omega (arith, b.breaks.2, later_place bytes k j after))
        ]
      ]
  next fault.PageRange q b far = let j = b.breaks.0 in
      elim (cases_order j k) [
        | inl same ↦ range (subst (λ (i : ℕ). q ≡ number_place bytes i + 4) same b.breaks.2) (subst (λ (i : ℕ). BreaksAt bytes i fault.PageRange) same b.breaks.3)
        | inr other ↦ elim other [
          | inl before ↦ absurd (omega (arith, b.breaks.2, later_place bytes j k before))
          | inr after ↦ later (b.breaks.1 k after) (omega (arith, b.breaks.2, later_place bytes k j after))
        ]
      ]
  next fault.NotWhole q b far = let j = b.breaks.0 in
      elim (cases_order j k) [
        | inl same ↦ left_out (subst (λ (i : ℕ). q ≡ number_place bytes i + 4) same b.breaks.2) (subst (λ (i : ℕ). BreaksAt bytes i fault.NotWhole) same b.breaks.3)
        | inr other ↦ elim other [
          | inl before ↦ absurd (omega (arith, b.breaks.2, later_place bytes j k before))
          | inr after ↦ later (b.breaks.1 k after) (omega (arith, b.breaks.2, later_place bytes k j after))
        ]
      ]
  next fault.PostSum q b far = let j = b.breaks.0 in
      elim (cases_order j k) [
        | inl same ↦ sum (subst (λ (i : ℕ). HasBlock bytes i) same b.breaks.1) (subst (λ (i : ℕ). q ≡ number_place bytes i + 12) same b.breaks.2)
            (subst (λ (i : ℕ). IsWrongSum bytes i (be64_at (number_place bytes i + 4) bytes)) same b.breaks.3)
        | inr other ↦ elim other [
          | inl before ↦ absurd (pages j before b.breaks.1.ends)
          | inr after ↦ later (b.breaks.1.pages k after) (omega (arith, b.breaks.2, later_place bytes k j after))
        ]
      ]
  next (fault.FileSum want got) q b far = let j = b.breaks.0 in
      elim (cases_order j k) [
        | inl same ↦ file_sum_wrong (subst (λ (i : ℕ). HasBlock bytes i) same b.breaks.1) (subst (λ (i : ℕ). q ≡ number_place bytes i + 20) same b.breaks.2)
            (subst (λ (i : ℕ). want ≡ file_sum (take (number_place bytes i + 12) bytes)) same b.breaks.3)
            (subst (λ (i : ℕ). got ≡ be64_at (number_place bytes i + 12) bytes) same b.breaks.4) b.breaks.5
        | inr other ↦ elim other [
          | inl before ↦ absurd (pages j before b.breaks.1.ends)
          | inr after ↦ later (b.breaks.1.pages k after) (omega (arith, b.breaks.2, later_place bytes k j after))
        ]
      ]
  next fault.Tail q b far = let j = b.breaks.0 in
      elim (cases_order j k) [
        | inl same ↦ tail (subst (λ (i : ℕ). HasBlock bytes i) same b.breaks.1) (subst (λ (i : ℕ). q ≡ number_place bytes i + 21) same b.breaks.2)
        | inr other ↦ elim other [
          | inl before ↦ absurd (pages j before b.breaks.1.ends)
          | inr after ↦ later (b.breaks.1.pages k after) (omega (arith, b.breaks.2, later_place bytes k j after))
        ]
      ]
  next fault.Short q b far = end b.breaks.0
  next fault.NoMemory q b far = absurd b.breaks

  -- what is known up to the k-th number's place
  module _ (sound : IsSoundBefore bytes (number_place bytes k + 1)) where
    from_next : (limit : ℕ) → ((f : LtxFault) (q : ℕ) → IsBroken bytes f q → Next bytes k q f → limit ≤ q) → IsSoundBefore bytes limit
    from_next limit each f q b =
        let behind : number_place bytes k < q = omega (arith, sound f q b) in
        each f q b (next f q b behind)

    -- no rule is broken before the k-th number ends
    pub to_number : number_place bytes k + 4 ≤ length bytes → IsSoundBefore bytes (number_place bytes k + 4)
    to_number there = from_next (number_place bytes k + 4) at_least
      where
        at_least : (f : LtxFault) (q : ℕ) → IsBroken bytes f q → Next bytes k q f → number_place bytes k + 4 ≤ q
        at_least f q b (order at rule) = omega arith
        at_least f q b (range at rule) = omega arith
        at_least f q b (left_out at rule) = omega arith
        at_least f q b (sum block at rule) = omega arith
        at_least f q b (file_sum_wrong block at want-is got-is differ) = omega arith
        at_least f q b (tail block at) = omega arith
        at_least f q b (later not_zero far) = omega arith
        at_least f q b (end at) = omega arith

    -- a broken rule of the number stands earliest
    pub order_first : number_place bytes k + 4 ≤ length bytes → BreaksAt bytes k fault.PageOrder → IsEarliest bytes fault.PageOrder
    order_first there rule = record { place = number_place bytes k + 4; broken = record { breaks = (k, pages, refl, rule); there = there }; earliest = to_number there }

    pub range_first : number_place bytes k + 4 ≤ length bytes → BreaksAt bytes k fault.PageRange → IsEarliest bytes fault.PageRange
    range_first there rule = record { place = number_place bytes k + 4; broken = record { breaks = (k, pages, refl, rule); there = there }; earliest = to_number there }

    pub left_out_first : number_place bytes k + 4 ≤ length bytes → BreaksAt bytes k fault.NotWhole → IsEarliest bytes fault.NotWhole
    left_out_first there rule = record { place = number_place bytes k + 4; broken = record { breaks = (k, pages, refl, rule); there = there }; earliest = to_number there }

    -- no rule is broken before a sound number's end
    pub past_number : IsNextNumber bytes k → IsSoundBefore bytes (number_place bytes k + 5)
    past_number number = from_next (number_place bytes k + 5) at_least
      where
        at_least : (f : LtxFault) (q : ℕ) → IsBroken bytes f q → Next bytes k q f → number_place bytes k + 5 ≤ q
        at_least f q b (order at rule) = absurd (number.may.in_order rule)
        at_least f q b (range at rule) = absurd (number.may.in_range rule)
        at_least f q b (left_out at rule) = absurd (number.may.none_left_out rule)
        at_least f q b (sum block at rule) = omega arith
        at_least f q b (file_sum_wrong block at want-is got-is differ) = omega arith
        at_least f q b (tail block at) = omega arith
        at_least f q b (later not_zero far) = omega arith
        at_least f q b (end at) = omega (arith, number.there)

    -- no rule is broken before the page of a sound number ends
    pub past_page : IsNextNumber bytes k → number_at bytes k ≢ 0 → number_place bytes (k + 1) ≤ length bytes
        → IsSoundBefore bytes (number_place bytes (k + 1) + 1)
    past_page number more room = from_next (number_place bytes (k + 1) + 1) at_least
      where
        at_least : (f : LtxFault) (q : ℕ) → IsBroken bytes f q → Next bytes k q f → number_place bytes (k + 1) + 1 ≤ q
        at_least f q b (order at rule) = absurd (number.may.in_order rule)
        at_least f q b (range at rule) = absurd (number.may.in_range rule)
        at_least f q b (left_out at rule) = absurd (number.may.none_left_out rule)
        at_least f q b (sum block at rule) = absurd (more block.ends)
        at_least f q b (file_sum_wrong block at want-is got-is differ) = absurd (more block.ends)
        at_least f q b (tail block at) = absurd (more block.ends)
        at_least f q b (later not_zero far) = omega (arith, next_place bytes k)
        at_least f q b (end at) = omega arith

    -- where the number is cut off, the bytes are short
    pub short_number : length bytes < number_place bytes k + 4 → number_place bytes k ≤ length bytes → IsEarliest bytes fault.Short
    short_number cut room = record {
      place = length bytes + 1;
      broken = record {
        breaks = (
          refl,
          λ j block. elim (cases_order j k) [
            | inl same ↦ absurd (omega (arith, subst (λ (i : ℕ). number_place bytes i + 4 ≤ length bytes) same block.there))
            | inr other ↦ elim other [
              | inl before ↦ absurd (pages j before block.ends)
              | inr after ↦ omega (arith, later_place bytes k j after, block.there)
            ]
          ],
        );
        there = omega arith;
      };
      earliest = from_next (length bytes + 1) at_least;
    }
      where
        at_least : (f : LtxFault) (q : ℕ) → IsBroken bytes f q → Next bytes k q f → length bytes + 1 ≤ q
        at_least f q b (order at rule) = absurd (omega (arith, b.there))
        at_least f q b (range at rule) = absurd (omega (arith, b.there))
        at_least f q b (left_out at rule) = absurd (omega (arith, b.there))
        at_least f q b (sum block at rule) = absurd (omega (arith, block.there))
        at_least f q b (file_sum_wrong block at want-is got-is differ) = absurd (omega (arith, block.there))
        at_least f q b (tail block at) = absurd (omega (arith, block.there))
        at_least f q b (later not_zero far) = omega arith
        at_least f q b (end at) = omega arith

    -- where the page is cut off, the bytes are short
    pub short_page : IsNextNumber bytes k → number_at bytes k ≢ 0 → length bytes < number_place bytes (k + 1) → IsEarliest bytes fault.Short
    short_page number more cut = record {
      place = length bytes + 1;
      broken = record {
        breaks = (
          refl,
          λ j block. elim (cases_order j k) [
            | inl same ↦ absurd (more (subst (λ (i : ℕ). number_at bytes i ≡ 0) same block.ends))
            | inr other ↦ elim other [
              | inl before ↦ absurd (pages j before block.ends)
              | inr after ↦ omega (arith, later_place bytes k j after, next_place bytes k)
            ]
          ],
        );
        there = omega arith;
      };
      earliest = from_next (length bytes + 1) at_least;
    }
      where
        at_least : (f : LtxFault) (q : ℕ) → IsBroken bytes f q → Next bytes k q f → length bytes + 1 ≤ q
        at_least f q b (order at rule) = absurd (number.may.in_order rule)
        at_least f q b (range at rule) = absurd (number.may.in_range rule)
        at_least f q b (left_out at rule) = absurd (number.may.none_left_out rule)
        at_least f q b (sum block at rule) = absurd (more block.ends)
        at_least f q b (file_sum_wrong block at want-is got-is differ) = absurd (more block.ends)
        at_least f q b (tail block at) = absurd (more block.ends)
        at_least f q b (later not_zero far) = omega (arith, next_place bytes k)
        at_least f q b (end at) = omega arith

    -- the trailer: no rule is broken before its sums, one after another
    module _ (number : IsNextNumber bytes k) (ends : number_at bytes k ≡ 0) where
      block_ends : HasBlock bytes k
      block_ends = record { pages = pages; ends = ends; there = number.there }

      pub short_trailer : length bytes < number_place bytes k + 20 → (number_place bytes k + 12 ≤ length bytes → IsSoundBefore bytes (number_place bytes k + 13)) → IsEarliest bytes fault.Short
      short_trailer cut sum_right = record {
        place = length bytes + 1;
        broken = record {
          breaks = (
            refl,
            λ j block. elim (cases_order j k) [
              | inl same ↦ rw same cut
              | inr other ↦ elim other [
                | inl before ↦ absurd (pages j before block.ends)
                | inr after ↦ absurd (block.pages k after ends)
              ]
            ],
          );
          there = omega arith;
        };
        earliest = from_next (length bytes + 1) at_least;
      }
        where
          at_least : (f : LtxFault) (q : ℕ) → IsBroken bytes f q → Next bytes k q f → length bytes + 1 ≤ q
          at_least f q b (order at rule) = absurd (rule.0 ends)
          at_least f q b (range at rule) = absurd (number.may.in_range rule)
          at_least f q b (left_out at rule) = absurd (number.may.none_left_out rule)
          at_least f q b (sum block at rule) = let room : number_place bytes k + 12 ≤ length bytes = omega (arith, b.there) in absurd (omega (arith, sum_right room fault.PostSum q b))
          at_least f q b (file_sum_wrong block at want-is got-is differ) = absurd (omega (arith, b.there))
          at_least f q b (tail block at) = absurd (omega (arith, b.there))
          at_least f q b (later not_zero far) = absurd (not_zero ends)
          at_least f q b (end at) = omega arith

      -- up to the sum of the pages
      pub to_sum : number_place bytes k + 12 ≤ length bytes → IsSoundBefore bytes (number_place bytes k + 12)
      to_sum room = from_next (number_place bytes k + 12) at_least
        where
          at_least : (f : LtxFault) (q : ℕ) → IsBroken bytes f q → Next bytes k q f → number_place bytes k + 12 ≤ q
          at_least f q b (order at rule) = absurd (rule.0 ends)
          at_least f q b (range at rule) = absurd (number.may.in_range rule)
          at_least f q b (left_out at rule) = absurd (number.may.none_left_out rule)
          at_least f q b (sum block at rule) = omega arith
          at_least f q b (file_sum_wrong block at want-is got-is differ) = omega arith
          at_least f q b (tail block at) = omega arith
          at_least f q b (later not_zero far) = absurd (not_zero ends)
          at_least f q b (end at) = omega arith

      -- a wrong sum of the pages stands earliest
      pub wrong_sum : number_place bytes k + 12 ≤ length bytes → IsWrongSum bytes k (be64_at (number_place bytes k + 4) bytes) → IsEarliest bytes fault.PostSum
      wrong_sum room wrong = record {
        place = number_place bytes k + 12;
        broken = record { breaks = (k, block_ends, refl, wrong); there = room };
        earliest = to_sum room;
      }

      -- a right sum of the pages
      module _ (right : IsWrongSum bytes k (be64_at (number_place bytes k + 4) bytes) → ⊥) where
        pub past_sum : number_place bytes k + 12 ≤ length bytes → IsSoundBefore bytes (number_place bytes k + 13)
        past_sum room = from_next (number_place bytes k + 13) at_least
          where
            at_least : (f : LtxFault) (q : ℕ) → IsBroken bytes f q → Next bytes k q f → number_place bytes k + 13 ≤ q
            at_least f q b (order at rule) = absurd (rule.0 ends)
            at_least f q b (range at rule) = absurd (number.may.in_range rule)
            at_least f q b (left_out at rule) = absurd (number.may.none_left_out rule)
            at_least f q b (sum block at rule) = absurd (right rule)
            at_least f q b (file_sum_wrong block at want-is got-is differ) = omega arith
            at_least f q b (tail block at) = omega arith
            at_least f q b (later not_zero far) = absurd (not_zero ends)
            at_least f q b (end at) = omega arith

        -- a wrong file sum stands earliest
        pub wrong_file_sum : (want got : ℕ) → number_place bytes k + 20 ≤ length bytes → want ≡ file_sum (take (number_place bytes k + 12) bytes)
            → got ≡ be64_at (number_place bytes k + 12) bytes → want ≢ got → IsEarliest bytes (fault.FileSum want got)
        wrong_file_sum want got room want-is got-is differ = record {
          place = number_place bytes k + 20;
          broken = record { breaks = (k, block_ends, refl, want-is, got-is, differ); there = room };
          earliest = from_next (number_place bytes k + 20) at_least;
        }
          where
            at_least : (f : LtxFault) (q : ℕ) → IsBroken bytes f q → Next bytes k q f → number_place bytes k + 20 ≤ q
            at_least f q b (order at rule) = absurd (rule.0 ends)
            at_least f q b (range at rule) = absurd (number.may.in_range rule)
            at_least f q b (left_out at rule) = absurd (number.may.none_left_out rule)
            at_least f q b (sum block at rule) = absurd (right rule)
            at_least f q b (file_sum_wrong block at want'-is got'-is differs) = omega arith
            at_least f q b (tail block at) = omega arith
            at_least f q b (later not_zero far) = absurd (not_zero ends)
            at_least f q b (end at) = omega arith

        -- bytes behind a file without faults stand earliest
        pub tail_first : number_place bytes k + 21 ≤ length bytes → be64_at (number_place bytes k + 12) bytes ≡ file_sum (take (number_place bytes k + 12) bytes)
            → IsEarliest bytes fault.Tail
        tail_first room file_sum_right = record {
          place = number_place bytes k + 21;
          broken = record { breaks = (k, block_ends, refl); there = room };
          earliest = from_next (number_place bytes k + 21) at_least;
        }
          where
            at_least : (f : LtxFault) (q : ℕ) → IsBroken bytes f q → Next bytes k q f → number_place bytes k + 21 ≤ q
            at_least f q b (order at rule) = absurd (rule.0 ends)
            at_least f q b (range at rule) = absurd (number.may.in_range rule)
            at_least f q b (left_out at rule) = absurd (number.may.none_left_out rule)
            at_least f q b (sum block at rule) = absurd (right rule)
            at_least f q b (file_sum_wrong block at want-is got-is differs) = absurd (differs (want-is ∙ sym file_sum_right ∙ sym got-is))
            at_least f q b (tail block at) = omega arith
            at_least f q b (later not_zero far) = absurd (not_zero ends)
            at_least f q b (end at) = omega arith

        -- behind a sound file only its tail may be broken
        pub only_tail : number_place bytes k + 20 ≤ length bytes → be64_at (number_place bytes k + 12) bytes ≡ file_sum (take (number_place bytes k + 12) bytes)
            → (f : LtxFault) (q : ℕ) → IsBroken bytes f q → (f ≡ fault.Tail) × (number_place bytes k + 20 < q)
        only_tail room file_sum_right f q b =
            let behind : number_place bytes k < q = omega (arith, sound f q b) in
            by_next f q b (next f q b behind)
          where
            by_next : (f : LtxFault) (q : ℕ) → IsBroken bytes f q → Next bytes k q f → (f ≡ fault.Tail) × (number_place bytes k + 20 < q)
            by_next f q b (order at rule) = absurd (rule.0 ends)
            by_next f q b (range at rule) = absurd (number.may.in_range rule)
            by_next f q b (left_out at rule) = absurd (number.may.none_left_out rule)
            by_next f q b (sum block at rule) = absurd (right rule)
            by_next f q b (file_sum_wrong block at want-is got-is differs) = absurd (differs (want-is ∙ sym file_sum_right ∙ sym got-is))
            by_next f q b (tail block at) = (refl, omega arith)
            by_next f q b (later not_zero far) = absurd (not_zero ends)
            by_next f q b (end at) = absurd (omega (arith, b.breaks.1 k block_ends))
