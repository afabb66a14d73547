-- What stands against a write.
use Rattle.std.proofs.Common.{◌≡◌, ◌≢◌, ℕ, ◌⊎◌, List, take, refl, sym, ◌∙◌, inl, inr}
use Rattle.std.specs.Str.{bytes_eq}
use Rattle.std.proofs.lemmas.Bool.{cases_Bool, cond-true, cond-false, eq-eqb, false_from_ne_true}
use Rattle.std.proofs.lemmas.Slice.Eq.{bytes_eq-Decides}
use Rattle.wal_watch.specs.Frames.{committed_count, committed_end}
use Rattle.wal_watch.specs.News.{first_new}
use Rattle.wal_watch.specs.Refusals.{ChangesCommitted, KeepsCommitted}

-- where the header stays, the new frames are those behind the committed ones
pub first_same : (old new : List ℕ) → take 32 new ≡ take 32 old → committed_count old ≡ first_new old new
unfolding first_new
first_same old new same = sym (cond-true _ _ _ ((bytes_eq-Decides (take 32 new) (take 32 old)).1 same))

-- where it doesn't, they are all frames
pub first_other : (old new : List ℕ) → (take 32 new ≢ take 32 old) ⊎ (committed_count old ≡ 0) → 0 ≡ first_new old new
unfolding first_new
first_other old new (inl other) =
    sym (cond-false _ _ _ (false_from_ne_true _ (λ equal. other ((bytes_eq-Decides (take 32 new) (take 32 old)).0 equal))))
first_other old new (inr none) = elim (cases_Bool (bytes_eq (take 32 new) (take 32 old))) [
  | inl equal ↦ sym none ∙ sym (cond-true _ _ _ equal)
  | inr differ ↦ sym (cond-false _ _ _ differ)
]

-- then no committed frame changes
pub none_changed : (old new : List ℕ) → (take 32 new ≢ take 32 old) ⊎ (committed_count old ≡ 0) → ChangesCommitted old new → ⊥
none_changed old new (inl other) changed = other changed.0
none_changed old new (inr none) changed =
    let end : committed_end old ≡ 0 = cond-true _ _ _ (eq-eqb _ _ none) in
    changed.1 (rw end refl)

-- a write against which nothing stands keeps the committed frames where it keeps the header
pub sound-keeps : (old new : List ℕ) → (ChangesCommitted old new → ⊥) → KeepsCommitted old new
sound-keeps old new sound head = elim (cases_Bool (bytes_eq (take (committed_end old) new) (take (committed_end old) old))) [
  | inl equal ↦ (bytes_eq-Decides (take (committed_end old) new) (take (committed_end old) old)).0 equal
  | inr differ ↦ absurd (sound (head, λ equal. let on = (bytes_eq-Decides (take (committed_end old) new) (take (committed_end old) old)).1 equal in cc (on, differ)))
]
