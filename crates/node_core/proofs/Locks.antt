-- The locks that hold a frame back, as the files' rules find them and as the laws say it.
use Rattle.std.proofs.Common.{◌≡◌, ◌∙◌, zero, suc, Bool, true, false, List, [], ◌∷◌, Some, None, inl, inr, refl, sym, ap, arith}
use Rattle.std.specs.Prelude.{find}
use Rattle.std.specs.List.{Contains, list_any}
use Rattle.std.proofs.lemmas.Bool.{cases_Bool}
use Rattle.byte_locks.specs.declared.lock_entry.LockEntry.{LockEntry}
use Rattle.byte_locks.specs.declared.lock_id.LockId.{LockId}
use Rattle.byte_locks.specs.LockId.{same_lock}
use Rattle.byte_locks.specs.LockList.{is_held}
use Rattle.byte_locks.proofs.Locks.{same_lock-itself, same_lock-true}
use Rattle.byte_locks.specs.ModeLocks.{blocking_locks}
use Rattle.file_view.specs.Endings.{first_blocking}
use Rattle.file_view.specs.Served.{Served}
use Rattle.world_laws.specs.Served as laws

some_none : {X : Type 0} (x : X) → Some x ≡ None → ⊥
some_none x same = cc

-- an element of the rest is one of the whole
one-more : {X : Type 0} (x y : X) (xs : List X) → Contains xs y → Contains (x ∷ xs) y
one-more x y xs here = (suc here.0, omega (arith, here.1), here.2)

-- what a search finds
found : {X : Type 0} (p : X → Bool) (xs : List X) (x : X) → find p xs ≡ Some x → Contains xs x × (p x ≡ true)
found p [] x some = absurd (some_none x (sym some))
found p (y ∷ ys) x some = elim (cases_Bool (p y)) [
  | inl hit ↦ let same : y ≡ x = (let e : Some y ≡ Some x = rw hit at some in cc) in ((0, omega arith, same), ap p (sym same) ∙ hit)
  | inr miss ↦ let more = found p ys x (rw miss at some) in (one-more y x ys more.0, more.1)
]

-- what a test of all finds
tested : {X : Type 0} (p : X → Bool) (xs : List X) → list_any p xs ≡ true → (x : X) × Contains xs x × (p x ≡ true)
tested p [] none = absurd (let never : false ≡ true = none in cc)
tested p (y ∷ ys) any = elim (cases_Bool (p y)) [
  | inl hit ↦ (y, (0, omega arith, refl), hit)
  | inr miss ↦ let more = tested p ys (rw miss at any) in (more.0, one-more y more.0 ys more.1, more.2)
]

-- and what it doesn't
untested : {X : Type 0} (p : X → Bool) (xs : List X) (x : X) → Contains xs x → p x ≡ true → list_any p xs ≡ true
untested p [] x here hit = absurd (omega (arith, here.1))
untested p (y ∷ ys) x (zero, within, same) hit = rw (ap p same ∙ hit) refl
untested p (y ∷ ys) x (suc k, within, same) hit = elim (cases_Bool (p y)) [
  | inl now ↦ rw now refl
  | inr miss ↦ rw miss (untested p ys x (k, omega (arith, within), same) hit)
]

unfound : {X : Type 0} (p : X → Bool) (xs : List X) (x : X) → find p xs ≡ None → Contains xs x → p x ≡ true → ⊥
unfound p [] x none here hit = omega (arith, here.1)
unfound p (y ∷ ys) x none (zero, within, same) hit = some_none y (rw (ap p same ∙ hit) at none)
unfound p (y ∷ ys) x none (suc k, within, same) hit = elim (cases_Bool (p y)) [
  | inl now ↦ some_none y (rw now at none)
  | inr miss ↦ unfound p ys x (rw miss at none) (k, omega (arith, within), same) hit
]

-- a lock that is held
pub held-back : (s : Served) (wal : Bool) (which : LockId) → first_blocking s wal ≡ Some which → Contains (blocking_locks wal) which × laws.IsHeld s.locks which
held-back s wal which some =
    let here = found (is_held s.locks) (blocking_locks wal) which some in
    let holder = tested (λ (e : LockEntry). same_lock e.lock which) s.locks here.1 in
    (here.0, (holder.0, holder.1, same_lock-true holder.0.lock which holder.2))

-- where none is found none is held
pub none-held : (s : Served) (wal : Bool) (which : LockId) → first_blocking s wal ≡ None → Contains (blocking_locks wal) which × laws.IsHeld s.locks which → ⊥
none-held s wal which none held =
    unfound (is_held s.locks) (blocking_locks wal) which none held.0
    (untested (λ (e : LockEntry). same_lock e.lock which) s.locks held.1.0 held.1.1 (ap (λ (l : LockId). same_lock l which) held.1.2 ∙ same_lock-itself which))
