-- A file goes up from one disk to the next, while the third stands.
use Rattle.std.proofs.Common.{◌≡◌, ◌∙◌, inl, inr, ℕ, ◌≤◌, [], ◌∷◌, refl, subst, arith}
use Rattle.lf_disk.specs.declared.name.FileName.TheVariants.{Staged, Ltx as LtxName}
use Rattle.lf_disk.specs.Folder.{Folder, SameBut}
use Rattle.lf_disk.specs.History.{History, now, EachMoment, IsSettledBut}
use Rattle.lf_disk.specs.Publish.{IsOldOrPublished, with_bytes}
use Rattle.lf_disk.proofs.Moments.{past_stays}
use Rattle.ltx_codec.specs.declared.file.Ltx.{Ltx}
use Rattle.ltx_backup.specs.Moving.{MovesUp}
use Rattle.ltx_backup.specs.Stops.{low, middle, high, EachLeft, Stops}
use Rattle.ltx_backup.specs.Stored.{stored}
use Rattle.ltx_backup.specs.Trimming.{IsTrimmed}

-- of a disk that did not move
still_same : (from from_now : History) (t : ℕ) (a : Folder) → IsSettledBut Staged from → EachMoment from from_now (IsTrimmed t (now from)) → from_now.leaves from.moment a → SameBut Staged (now from) a
still_same from from_now t a settled runs left = settled a (runs.past.no_more from.moment a (omega arith) left)

module _ (l m h l_now m_now : History) (file : Ltx) (P : Folder → Folder → Folder → Type 0) (low_settled : IsSettledBut Staged l) (high_settled : IsSettledBut Staged h) (moves : MovesUp file l m l_now m_now)
    (before : (a b c : Folder) → SameBut Staged (now l) a → IsOldOrPublished (now m) (LtxName file.header.min file.header.max) (stored file) b → SameBut Staged (now h) c → P a b c)
    (behind : (a b c : Folder) → IsTrimmed file.header.max (now l) a → SameBut Staged (with_bytes (LtxName file.header.min file.header.max) (stored file) (now m)) b → SameBut Staged (now h) c → P a b c) where
  low_turn_middle : EachLeft l_now m_now h (λ t u v. (t ≡ l.moment) × (m.moment ≤ u) × (u ≤ m_now.moment) × (v ≡ h.moment)) P
  low_turn_middle t u v a b c when x y z =
      before a b c (still_same l l_now file.header.max a low_settled moves.removes (subst (λ (k : ℕ). l_now.leaves k a) when.0 x)) (moves.publishes.each u b when.1 when.2 y)
      (high_settled c (subst (λ (k : ℕ). h.leaves k c) when.3 z))

  low_turn_low : EachLeft l_now m_now h (λ t u v. (l.moment ≤ t) × (t ≤ l_now.moment) × (u ≡ m_now.moment) × (v ≡ h.moment)) P
  low_turn_low t u v a b c when x y z = elim moves.first [
    | inl still ↦
        let at : t ≡ l.moment = omega (arith, when.0, when.1, still) in
        before a b c (still_same l l_now file.header.max a low_settled moves.removes (subst (λ (k : ℕ). l_now.leaves k a) at x))
        (moves.publishes.each m_now.moment b moves.publishes.later (omega arith) (subst (λ (k : ℕ). m_now.leaves k b) when.2 y)) (high_settled c (subst (λ (k : ℕ). h.leaves k c) when.3 z))
    | inr there ↦
        behind a b c (moves.removes.each t a when.0 when.1 x) (λ n other. there.settled b (subst (λ (k : ℕ). m_now.leaves k b) when.2 y) n other ∙ there.seen n other)
        (high_settled c (subst (λ (k : ℕ). h.leaves k c) when.3 z))
  ]

  pub goes_up_low : Stops l m h l_now m_now h P
  goes_up_low = record {
    turns = middle m_now.moment ∷ low l_now.moment ∷ [];
    each = (moves.publishes.later, low_turn_middle, (moves.removes.later, low_turn_low, refl));
    low_later = moves.removes.later;
    middle_later = moves.publishes.later;
    high_later = omega arith;
    low_past = moves.removes.past;
    middle_past = moves.publishes.past;
    high_past = past_stays h;
  }

module _ (l m h m_now h_now : History) (file : Ltx) (P : Folder → Folder → Folder → Type 0) (low_settled : IsSettledBut Staged l) (middle_settled : IsSettledBut Staged m) (moves : MovesUp file m h m_now h_now)
    (before : (a b c : Folder) → SameBut Staged (now l) a → SameBut Staged (now m) b → IsOldOrPublished (now h) (LtxName file.header.min file.header.max) (stored file) c → P a b c)
    (behind : (a b c : Folder) → SameBut Staged (now l) a → IsTrimmed file.header.max (now m) b → SameBut Staged (with_bytes (LtxName file.header.min file.header.max) (stored file) (now h)) c → P a b c) where
  middle_turn_high : EachLeft l m_now h_now (λ t u v. (t ≡ l.moment) × (u ≡ m.moment) × (h.moment ≤ v) × (v ≤ h_now.moment)) P
  middle_turn_high t u v a b c when x y z =
      before a b c (low_settled a (subst (λ (k : ℕ). l.leaves k a) when.0 x)) (still_same m m_now file.header.max b middle_settled moves.removes (subst (λ (k : ℕ). m_now.leaves k b) when.1 y))
      (moves.publishes.each v c when.2 when.3 z)

  middle_turn_middle : EachLeft l m_now h_now (λ t u v. (t ≡ l.moment) × (m.moment ≤ u) × (u ≤ m_now.moment) × (v ≡ h_now.moment)) P
  middle_turn_middle t u v a b c when x y z = elim moves.first [
    | inl still ↦
        let at : u ≡ m.moment = omega (arith, when.1, when.2, still) in
        before a b c (low_settled a (subst (λ (k : ℕ). l.leaves k a) when.0 x)) (still_same m m_now file.header.max b middle_settled moves.removes (subst (λ (k : ℕ). m_now.leaves k b) at y))
        (moves.publishes.each h_now.moment c moves.publishes.later (omega arith) (subst (λ (k : ℕ). h_now.leaves k c) when.3 z))
    | inr there ↦
        behind a b c (low_settled a (subst (λ (k : ℕ). l.leaves k a) when.0 x)) (moves.removes.each u b when.1 when.2 y)
        (λ n other. there.settled c (subst (λ (k : ℕ). h_now.leaves k c) when.3 z) n other ∙ there.seen n other)
  ]

  pub goes_up_middle : Stops l m h l m_now h_now P
  goes_up_middle = record {
    turns = high h_now.moment ∷ middle m_now.moment ∷ [];
    each = (moves.publishes.later, middle_turn_high, (moves.removes.later, middle_turn_middle, refl));
    low_later = omega arith;
    middle_later = moves.removes.later;
    high_later = moves.publishes.later;
    low_past = past_stays l;
    middle_past = moves.removes.past;
    high_past = moves.publishes.past;
  }
