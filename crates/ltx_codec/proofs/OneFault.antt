-- At one place at most one rule is broken.
use Rattle.std.proofs.Common.{◌≡◌, ◌≢◌, ℕ, ◌+◌, ◌≤◌, List, length, take, arith, refl, sym, ap, subst, inl, inr, ◌∙◌}
use Rattle.lf_sqlite_pages.specs.LockPage.{IsDataPage}
use Rattle.ltx_codec.specs.Fields.{stated_page_size, stated_commit}
use Rattle.ltx_codec.specs.Format.{file_sum}
use Rattle.ltx_codec.specs.Places.{IsBroken, IsEarliest, BreaksAt, number_place, number_at, number_before, HasBlock}
use Rattle.ltx_codec.specs.declared.fault.LtxFault.{LtxFault}
use Rattle.ltx_codec.specs.declared.fault.LtxFault.TheVariants as fault
use Rattle.ltx_codec.proofs.BlockLemmas.{Next, order, range, left_out, sum, file_sum_wrong, tail, later, end, next}
use Rattle.lf_base.specs.Endian.{be64_at}

module _ (bytes : List ℕ) (p : ℕ) where
  -- a broken field of the header is the only rule broken there
  header_one : (f g : LtxFault) → p ≤ 48 → p ≤ length bytes → IsBroken bytes f p → IsBroken bytes g p → f ≡ g
  header_one fault.Magic fault.Magic low here a b = refl
  header_one fault.Magic fault.Compressed low here a b = absurd (omega (arith, a.breaks.0, b.breaks.0))
  header_one fault.Magic fault.UnknownFlags low here a b = absurd (omega (arith, a.breaks.0, b.breaks.0))
  header_one fault.Magic fault.PageSize low here a b = absurd (omega (arith, a.breaks.0, b.breaks.0))
  header_one fault.Magic fault.Commit low here a b = absurd (omega (arith, a.breaks.0, b.breaks.0))
  header_one fault.Magic fault.Txid low here a b = elim b.breaks [ inl x ↦ absurd (omega (arith, x.0, a.breaks.0)) | inr x ↦ absurd (omega (arith, x.0, a.breaks.0)) ]
  header_one fault.Magic fault.PreSum low here a b = absurd (omega (arith, a.breaks.0, b.breaks.0))
  header_one fault.Magic fault.PageOrder low here a b = absurd (omega (arith, b.breaks.2))
  header_one fault.Magic fault.PageRange low here a b = absurd (omega (arith, b.breaks.2))
  header_one fault.Magic fault.NotWhole low here a b = absurd (omega (arith, b.breaks.2))
  header_one fault.Magic fault.PostSum low here a b = absurd (omega (arith, b.breaks.2))
  header_one fault.Magic (fault.FileSum w g) low here a b = absurd (omega (arith, b.breaks.2))
  header_one fault.Magic fault.Tail low here a b = absurd (omega (arith, b.breaks.2))
  header_one fault.Magic fault.Short low here a b = absurd (omega (arith, b.breaks.0))
  header_one fault.Magic fault.NoMemory low here a b = absurd b.breaks
  header_one fault.Compressed fault.Magic low here a b = absurd (omega (arith, a.breaks.0, b.breaks.0))
  header_one fault.Compressed fault.Compressed low here a b = refl
  header_one fault.Compressed fault.UnknownFlags low here a b = absurd (omega (arith, a.breaks.1, b.breaks.1))
  header_one fault.Compressed fault.PageSize low here a b = absurd (omega (arith, a.breaks.0, b.breaks.0))
  header_one fault.Compressed fault.Commit low here a b = absurd (omega (arith, a.breaks.0, b.breaks.0))
  header_one fault.Compressed fault.Txid low here a b = elim b.breaks [ inl x ↦ absurd (omega (arith, x.0, a.breaks.0)) | inr x ↦ absurd (omega (arith, x.0, a.breaks.0)) ]
  header_one fault.Compressed fault.PreSum low here a b = absurd (omega (arith, a.breaks.0, b.breaks.0))
  header_one fault.Compressed fault.PageOrder low here a b = absurd (omega (arith, b.breaks.2))
  header_one fault.Compressed fault.PageRange low here a b = absurd (omega (arith, b.breaks.2))
  header_one fault.Compressed fault.NotWhole low here a b = absurd (omega (arith, b.breaks.2))
  header_one fault.Compressed fault.PostSum low here a b = absurd (omega (arith, b.breaks.2))
  header_one fault.Compressed (fault.FileSum w g) low here a b = absurd (omega (arith, b.breaks.2))
  header_one fault.Compressed fault.Tail low here a b = absurd (omega (arith, b.breaks.2))
  header_one fault.Compressed fault.Short low here a b = absurd (omega (arith, b.breaks.0))
  header_one fault.Compressed fault.NoMemory low here a b = absurd b.breaks
  header_one fault.UnknownFlags fault.Magic low here a b = absurd (omega (arith, a.breaks.0, b.breaks.0))
  header_one fault.UnknownFlags fault.Compressed low here a b = absurd (omega (arith, a.breaks.1, b.breaks.1))
  header_one fault.UnknownFlags fault.UnknownFlags low here a b = refl
  header_one fault.UnknownFlags fault.PageSize low here a b = absurd (omega (arith, a.breaks.0, b.breaks.0))
  header_one fault.UnknownFlags fault.Commit low here a b = absurd (omega (arith, a.breaks.0, b.breaks.0))
  header_one fault.UnknownFlags fault.Txid low here a b = elim b.breaks [ inl x ↦ absurd (omega (arith, x.0, a.breaks.0)) | inr x ↦ absurd (omega (arith, x.0, a.breaks.0)) ]
  header_one fault.UnknownFlags fault.PreSum low here a b = absurd (omega (arith, a.breaks.0, b.breaks.0))
  header_one fault.UnknownFlags fault.PageOrder low here a b = absurd (omega (arith, b.breaks.2))
  header_one fault.UnknownFlags fault.PageRange low here a b = absurd (omega (arith, b.breaks.2))
  header_one fault.UnknownFlags fault.NotWhole low here a b = absurd (omega (arith, b.breaks.2))
  header_one fault.UnknownFlags fault.PostSum low here a b = absurd (omega (arith, b.breaks.2))
  header_one fault.UnknownFlags (fault.FileSum w g) low here a b = absurd (omega (arith, b.breaks.2))
  header_one fault.UnknownFlags fault.Tail low here a b = absurd (omega (arith, b.breaks.2))
  header_one fault.UnknownFlags fault.Short low here a b = absurd (omega (arith, b.breaks.0))
  header_one fault.UnknownFlags fault.NoMemory low here a b = absurd b.breaks
  header_one fault.PageSize fault.Magic low here a b = absurd (omega (arith, a.breaks.0, b.breaks.0))
  header_one fault.PageSize fault.Compressed low here a b = absurd (omega (arith, a.breaks.0, b.breaks.0))
  header_one fault.PageSize fault.UnknownFlags low here a b = absurd (omega (arith, a.breaks.0, b.breaks.0))
  header_one fault.PageSize fault.PageSize low here a b = refl
  header_one fault.PageSize fault.Commit low here a b = absurd (omega (arith, a.breaks.0, b.breaks.0))
  header_one fault.PageSize fault.Txid low here a b = elim b.breaks [ inl x ↦ absurd (omega (arith, x.0, a.breaks.0)) | inr x ↦ absurd (omega (arith, x.0, a.breaks.0)) ]
  header_one fault.PageSize fault.PreSum low here a b = absurd (omega (arith, a.breaks.0, b.breaks.0))
  header_one fault.PageSize fault.PageOrder low here a b = absurd (omega (arith, b.breaks.2))
  header_one fault.PageSize fault.PageRange low here a b = absurd (omega (arith, b.breaks.2))
  header_one fault.PageSize fault.NotWhole low here a b = absurd (omega (arith, b.breaks.2))
  header_one fault.PageSize fault.PostSum low here a b = absurd (omega (arith, b.breaks.2))
  header_one fault.PageSize (fault.FileSum w g) low here a b = absurd (omega (arith, b.breaks.2))
  header_one fault.PageSize fault.Tail low here a b = absurd (omega (arith, b.breaks.2))
  header_one fault.PageSize fault.Short low here a b = absurd (omega (arith, b.breaks.0))
  header_one fault.PageSize fault.NoMemory low here a b = absurd b.breaks
  header_one fault.Commit fault.Magic low here a b = absurd (omega (arith, a.breaks.0, b.breaks.0))
  header_one fault.Commit fault.Compressed low here a b = absurd (omega (arith, a.breaks.0, b.breaks.0))
  header_one fault.Commit fault.UnknownFlags low here a b = absurd (omega (arith, a.breaks.0, b.breaks.0))
  header_one fault.Commit fault.PageSize low here a b = absurd (omega (arith, a.breaks.0, b.breaks.0))
  header_one fault.Commit fault.Commit low here a b = refl
  header_one fault.Commit fault.Txid low here a b = elim b.breaks [ inl x ↦ absurd (omega (arith, x.0, a.breaks.0)) | inr x ↦ absurd (omega (arith, x.0, a.breaks.0)) ]
  header_one fault.Commit fault.PreSum low here a b = absurd (omega (arith, a.breaks.0, b.breaks.0))
  header_one fault.Commit fault.PageOrder low here a b = absurd (omega (arith, b.breaks.2))
  header_one fault.Commit fault.PageRange low here a b = absurd (omega (arith, b.breaks.2))
  header_one fault.Commit fault.NotWhole low here a b = absurd (omega (arith, b.breaks.2))
  header_one fault.Commit fault.PostSum low here a b = absurd (omega (arith, b.breaks.2))
  header_one fault.Commit (fault.FileSum w g) low here a b = absurd (omega (arith, b.breaks.2))
  header_one fault.Commit fault.Tail low here a b = absurd (omega (arith, b.breaks.2))
  header_one fault.Commit fault.Short low here a b = absurd (omega (arith, b.breaks.0))
  header_one fault.Commit fault.NoMemory low here a b = absurd b.breaks
  header_one fault.Txid fault.Magic low here a b = elim a.breaks [ inl x ↦ absurd (omega (arith, x.0, b.breaks.0)) | inr x ↦ absurd (omega (arith, x.0, b.breaks.0)) ]
  header_one fault.Txid fault.Compressed low here a b = elim a.breaks [ inl x ↦ absurd (omega (arith, x.0, b.breaks.0)) | inr x ↦ absurd (omega (arith, x.0, b.breaks.0)) ]
  header_one fault.Txid fault.UnknownFlags low here a b = elim a.breaks [ inl x ↦ absurd (omega (arith, x.0, b.breaks.0)) | inr x ↦ absurd (omega (arith, x.0, b.breaks.0)) ]
  header_one fault.Txid fault.PageSize low here a b = elim a.breaks [ inl x ↦ absurd (omega (arith, x.0, b.breaks.0)) | inr x ↦ absurd (omega (arith, x.0, b.breaks.0)) ]
  header_one fault.Txid fault.Commit low here a b = elim a.breaks [ inl x ↦ absurd (omega (arith, x.0, b.breaks.0)) | inr x ↦ absurd (omega (arith, x.0, b.breaks.0)) ]
  header_one fault.Txid fault.Txid low here a b = refl
  header_one fault.Txid fault.PreSum low here a b = elim a.breaks [ inl x ↦ absurd (omega (arith, x.0, b.breaks.0)) | inr x ↦ absurd (omega (arith, x.0, b.breaks.0)) ]
  header_one fault.Txid fault.PageOrder low here a b = absurd (omega (arith, b.breaks.2))
  header_one fault.Txid fault.PageRange low here a b = absurd (omega (arith, b.breaks.2))
  header_one fault.Txid fault.NotWhole low here a b = absurd (omega (arith, b.breaks.2))
  header_one fault.Txid fault.PostSum low here a b = absurd (omega (arith, b.breaks.2))
  header_one fault.Txid (fault.FileSum w g) low here a b = absurd (omega (arith, b.breaks.2))
  header_one fault.Txid fault.Tail low here a b = absurd (omega (arith, b.breaks.2))
  header_one fault.Txid fault.Short low here a b = absurd (omega (arith, b.breaks.0))
  header_one fault.Txid fault.NoMemory low here a b = absurd b.breaks
  header_one fault.PreSum fault.Magic low here a b = absurd (omega (arith, a.breaks.0, b.breaks.0))
  header_one fault.PreSum fault.Compressed low here a b = absurd (omega (arith, a.breaks.0, b.breaks.0))
  header_one fault.PreSum fault.UnknownFlags low here a b = absurd (omega (arith, a.breaks.0, b.breaks.0))
  header_one fault.PreSum fault.PageSize low here a b = absurd (omega (arith, a.breaks.0, b.breaks.0))
  header_one fault.PreSum fault.Commit low here a b = absurd (omega (arith, a.breaks.0, b.breaks.0))
  header_one fault.PreSum fault.Txid low here a b = elim b.breaks [ inl x ↦ absurd (omega (arith, x.0, a.breaks.0)) | inr x ↦ absurd (omega (arith, x.0, a.breaks.0)) ]
  header_one fault.PreSum fault.PreSum low here a b = refl
  header_one fault.PreSum fault.PageOrder low here a b = absurd (omega (arith, b.breaks.2))
  header_one fault.PreSum fault.PageRange low here a b = absurd (omega (arith, b.breaks.2))
  header_one fault.PreSum fault.NotWhole low here a b = absurd (omega (arith, b.breaks.2))
  header_one fault.PreSum fault.PostSum low here a b = absurd (omega (arith, b.breaks.2))
  header_one fault.PreSum (fault.FileSum w g) low here a b = absurd (omega (arith, b.breaks.2))
  header_one fault.PreSum fault.Tail low here a b = absurd (omega (arith, b.breaks.2))
  header_one fault.PreSum fault.Short low here a b = absurd (omega (arith, b.breaks.0))
  header_one fault.PreSum fault.NoMemory low here a b = absurd b.breaks
  header_one fault.PageOrder g low here a b = absurd (omega (arith, a.breaks.2))
  header_one fault.PageRange g low here a b = absurd (omega (arith, a.breaks.2))
  header_one fault.NotWhole g low here a b = absurd (omega (arith, a.breaks.2))
  header_one fault.PostSum g low here a b = absurd (omega (arith, a.breaks.2))
  header_one (fault.FileSum w s) g low here a b = absurd (omega (arith, a.breaks.2))
  header_one fault.Tail g low here a b = absurd (omega (arith, a.breaks.2))
  header_one fault.Short g low here a b = absurd (omega (arith, a.breaks.0))
  header_one fault.NoMemory g low here a b = absurd a.breaks

  -- a rule of the block's k-th number, or of the trailer behind it, is the only one broken there
  module _ (k : ℕ) (here : p ≤ length bytes) where
    order_one : (g : LtxFault) → p ≡ number_place bytes k + 4 → number_at bytes k ≢ 0 → number_at bytes k ≤ number_before bytes k → Next bytes k p g → fault.PageOrder ≡ g
    order_one g at more rule (order _ _) = refl
    order_one g at more rule (range _ other) = absurd (omega (arith, rule, other.0))
    order_one g at more rule (left_out _ other) = elim other.1 [ inl x ↦ absurd (omega (arith, rule, x.0)) | inr x ↦ absurd (more x.0) ]
    order_one g at more rule (sum _ place _) = absurd (omega (arith, at, place))
    order_one g at more rule (file_sum_wrong _ place _ _ _) = absurd (omega (arith, at, place))
    order_one g at more rule (tail _ place) = absurd (omega (arith, at, place))
    order_one g at more rule (later _ far) = absurd (omega (arith, at, far))
    order_one g at more rule (end place) = absurd (omega (arith, here, place))

    -- a number out of range is no data page within the commit
    out_of_range : BreaksAt bytes k fault.PageRange → number_at bytes k ≤ stated_commit bytes → IsDataPage (stated_page_size bytes) (number_at bytes k) → ⊥
    out_of_range rule within data_page = elim rule.1 [ inl past ↦ omega (arith, past, within) | inr lock ↦ data_page lock ]

    range_one : (g : LtxFault) → p ≡ number_place bytes k + 4 → BreaksAt bytes k fault.PageRange → Next bytes k p g → fault.PageRange ≡ g
    range_one g at rule (order _ other) = absurd (omega (arith, rule.0, other.1))
    range_one g at rule (range _ _) = refl
    range_one g at rule (left_out _ other) = elim other.1 [ inl x ↦ absurd (out_of_range rule x.1 x.2) | inr x ↦ absurd (omega (arith, rule.0, x.0)) ]
    range_one g at rule (sum _ place _) = absurd (omega (arith, at, place))
    range_one g at rule (file_sum_wrong _ place _ _ _) = absurd (omega (arith, at, place))
    range_one g at rule (tail _ place) = absurd (omega (arith, at, place))
    range_one g at rule (later _ far) = absurd (omega (arith, at, far))
    range_one g at rule (end place) = absurd (omega (arith, here, place))

    left_out_one : (g : LtxFault) → p ≡ number_place bytes k + 4 → BreaksAt bytes k fault.NotWhole → Next bytes k p g → fault.NotWhole ≡ g
    left_out_one g at rule (order _ other) = elim rule.1 [ inl x ↦ absurd (omega (arith, other.1, x.0)) | inr x ↦ absurd (other.0 x.0) ]
    left_out_one g at rule (range _ other) = elim rule.1 [ inl x ↦ absurd (out_of_range other x.1 x.2) | inr x ↦ absurd (omega (arith, other.0, x.0)) ]
    left_out_one g at rule (left_out _ _) = refl
    left_out_one g at rule (sum _ place _) = absurd (omega (arith, at, place))
    left_out_one g at rule (file_sum_wrong _ place _ _ _) = absurd (omega (arith, at, place))
    left_out_one g at rule (tail _ place) = absurd (omega (arith, at, place))
    left_out_one g at rule (later _ far) = absurd (omega (arith, at, far))
    left_out_one g at rule (end place) = absurd (omega (arith, here, place))

    module _ (block : HasBlock bytes k) where
      sum_one : (g : LtxFault) → p ≡ number_place bytes k + 12 → Next bytes k p g → fault.PostSum ≡ g
      sum_one g at (order place _) = absurd (omega (arith, at, place))
      sum_one g at (range place _) = absurd (omega (arith, at, place))
      sum_one g at (left_out place _) = absurd (omega (arith, at, place))
      sum_one g at (sum _ _ _) = refl
      sum_one g at (file_sum_wrong _ place _ _ _) = absurd (omega (arith, at, place))
      sum_one g at (tail _ place) = absurd (omega (arith, at, place))
      sum_one g at (later more _) = absurd (more block.ends)
      sum_one g at (end place) = absurd (omega (arith, here, place))

      file_sum_one : (want got : ℕ) (g : LtxFault) → p ≡ number_place bytes k + 20 → want ≡ file_sum (take (number_place bytes k + 12) bytes) → got ≡ be64_at (number_place bytes k + 12) bytes
          → Next bytes k p g → fault.FileSum want got ≡ g
      file_sum_one want got g at want-is got-is (order place _) = absurd (omega (arith, at, place))
      file_sum_one want got g at want-is got-is (range place _) = absurd (omega (arith, at, place))
      file_sum_one want got g at want-is got-is (left_out place _) = absurd (omega (arith, at, place))
      file_sum_one want got g at want-is got-is (sum _ place _) = absurd (omega (arith, at, place))
      file_sum_one want got g at want-is got-is (file_sum_wrong {want = other} {got = second} _ _ want'-is got'-is _) =
          ap (λ (n : ℕ). fault.FileSum n got) (want-is ∙ sym want'-is) ∙ ap (λ (n : ℕ). fault.FileSum other n) (got-is ∙ sym got'-is)
      file_sum_one want got g at want-is got-is (tail _ place) = absurd (omega (arith, at, place))
      file_sum_one want got g at want-is got-is (later more _) = absurd (more block.ends)
      file_sum_one want got g at want-is got-is (end place) = absurd (omega (arith, here, place))

      tail_one : (g : LtxFault) → p ≡ number_place bytes k + 21 → Next bytes k p g → fault.Tail ≡ g
      tail_one g at (order place _) = absurd (omega (arith, at, place))
      tail_one g at (range place _) = absurd (omega (arith, at, place))
      tail_one g at (left_out place _) = absurd (omega (arith, at, place))
      tail_one g at (sum _ place _) = absurd (omega (arith, at, place))
      tail_one g at (file_sum_wrong _ place _ _ _) = absurd (omega (arith, at, place))
      tail_one g at (tail _ _) = refl
      tail_one g at (later more _) = absurd (more block.ends)
      tail_one g at (end place) = absurd (omega (arith, here, place))

  -- bytes that are cut short break no other rule behind their last byte
  short_one : (g : LtxFault) → p ≡ length bytes + 1 → IsBroken bytes g p → fault.Short ≡ g
  short_one fault.Short at b = refl
  short_one fault.NoMemory at b = absurd b.breaks
  short_one fault.Magic at b = absurd (omega (arith, at, b.there))
  short_one fault.Compressed at b = absurd (omega (arith, at, b.there))
  short_one fault.UnknownFlags at b = absurd (omega (arith, at, b.there))
  short_one fault.PageSize at b = absurd (omega (arith, at, b.there))
  short_one fault.Commit at b = absurd (omega (arith, at, b.there))
  short_one fault.Txid at b = absurd (omega (arith, at, b.there))
  short_one fault.PreSum at b = absurd (omega (arith, at, b.there))
  short_one fault.PageOrder at b = absurd (omega (arith, at, b.there))
  short_one fault.PageRange at b = absurd (omega (arith, at, b.there))
  short_one fault.NotWhole at b = absurd (omega (arith, at, b.there))
  short_one fault.PostSum at b = absurd (omega (arith, at, b.there))
  short_one (fault.FileSum w g) at b = absurd (omega (arith, at, b.there))
  short_one fault.Tail at b = absurd (omega (arith, at, b.there))

  -- at one place at most one rule is broken
  pub one_fault : (f g : LtxFault) → IsBroken bytes f p → IsBroken bytes g p → f ≡ g
  one_fault fault.Magic g a b = header_one fault.Magic g (omega (arith, a.breaks.0)) a.there a b
  one_fault fault.Compressed g a b = header_one fault.Compressed g (omega (arith, a.breaks.0)) a.there a b
  one_fault fault.UnknownFlags g a b = header_one fault.UnknownFlags g (omega (arith, a.breaks.0)) a.there a b
  one_fault fault.PageSize g a b = header_one fault.PageSize g (omega (arith, a.breaks.0)) a.there a b
  one_fault fault.Commit g a b = header_one fault.Commit g (omega (arith, a.breaks.0)) a.there a b
  one_fault fault.Txid g a b = header_one fault.Txid g (elim a.breaks [ inl x ↦ omega (arith, x.0) | inr x ↦ omega (arith, x.0) ]) a.there a b
  one_fault fault.PreSum g a b = header_one fault.PreSum g (omega (arith, a.breaks.0)) a.there a b
  one_fault fault.PageOrder g a b = order_one a.breaks.0 a.there g a.breaks.2 a.breaks.3.0 a.breaks.3.1 (next bytes a.breaks.0 a.breaks.1 g p b (omega (arith, a.breaks.2)))
  one_fault fault.PageRange g a b = range_one a.breaks.0 a.there g a.breaks.2 a.breaks.3 (next bytes a.breaks.0 a.breaks.1 g p b (omega (arith, a.breaks.2)))
  one_fault fault.NotWhole g a b = left_out_one a.breaks.0 a.there g a.breaks.2 a.breaks.3 (next bytes a.breaks.0 a.breaks.1 g p b (omega (arith, a.breaks.2)))
  one_fault fault.PostSum g a b = sum_one a.breaks.0 a.there a.breaks.1 g a.breaks.2 (next bytes a.breaks.0 a.breaks.1.pages g p b (omega (arith, a.breaks.2)))
  one_fault (fault.FileSum want got) g a b = file_sum_one a.breaks.0 a.there a.breaks.1 want got g a.breaks.2 a.breaks.3 a.breaks.4 (next bytes a.breaks.0 a.breaks.1.pages g p b (omega (arith, a.breaks.2)))
  one_fault fault.Tail g a b = tail_one a.breaks.0 a.there a.breaks.1 g a.breaks.2 (next bytes a.breaks.0 a.breaks.1.pages g p b (omega (arith, a.breaks.2)))
  one_fault fault.Short g a b = short_one g a.breaks.0 b
  one_fault fault.NoMemory g a b = absurd a.breaks

-- the fault that stands earliest is one
pub one_earliest : (bytes : List ℕ) (f g : LtxFault) → IsEarliest bytes f → IsEarliest bytes g → f ≡ g
one_earliest bytes f g a b =
    let same : b.place ≡ a.place = omega (arith, a.earliest g b.place b.broken, b.earliest f a.place a.broken) in
    one_fault bytes a.place f g a.broken (subst (λ (n : ℕ). IsBroken bytes g n) same b.broken)
