-- One name is another or differs from it.
use Rattle.std.proofs.Common.{◌≡◌, inl, inr, true, false, refl, sym, ◌∙◌, ap, eq-eqb}
use Rattle.std.proofs.lemmas.Bool.{cases_Bool, and_parts, and_from, eqb-true, false≢true}
use Rattle.std.specs.Prelude.{◌==◌}
use Rattle.lf_disk.specs.declared.name.FileName.{FileName}
use Rattle.lf_disk.specs.declared.name.FileName.TheVariants.{Database, Staged, Snapshot, Dropped, Ltx}
use Rattle.lf_disk.specs.Folder.{same_name}

pub same_name-refl : (a : FileName) → same_name a a ≡ true
same_name-refl Database = refl
same_name-refl Staged = refl
same_name-refl Snapshot = refl
same_name-refl Dropped = refl
same_name-refl (Ltx a b) = and_from (a == a) (b == b) (eq-eqb a a refl) (eq-eqb b b refl)

pub same_name-one : (a b : FileName) → same_name a b ≡ true → a ≡ b
same_name-one Database Database is = refl
same_name-one Database Staged is = absurd (false≢true is)
same_name-one Database Snapshot is = absurd (false≢true is)
same_name-one Database Dropped is = absurd (false≢true is)
same_name-one Database (Ltx c d) is = absurd (false≢true is)
same_name-one Staged Database is = absurd (false≢true is)
same_name-one Staged Staged is = refl
same_name-one Staged Snapshot is = absurd (false≢true is)
same_name-one Staged Dropped is = absurd (false≢true is)
same_name-one Staged (Ltx c d) is = absurd (false≢true is)
same_name-one Snapshot Database is = absurd (false≢true is)
same_name-one Snapshot Staged is = absurd (false≢true is)
same_name-one Snapshot Snapshot is = refl
same_name-one Snapshot Dropped is = absurd (false≢true is)
same_name-one Snapshot (Ltx c d) is = absurd (false≢true is)
same_name-one Dropped Database is = absurd (false≢true is)
same_name-one Dropped Staged is = absurd (false≢true is)
same_name-one Dropped Snapshot is = absurd (false≢true is)
same_name-one Dropped Dropped is = refl
same_name-one Dropped (Ltx c d) is = absurd (false≢true is)
same_name-one (Ltx a b) Database is = absurd (false≢true is)
same_name-one (Ltx a b) Staged is = absurd (false≢true is)
same_name-one (Ltx a b) Snapshot is = absurd (false≢true is)
same_name-one (Ltx a b) Dropped is = absurd (false≢true is)
same_name-one (Ltx a b) (Ltx c d) is =
    let both = and_parts (a == c) (b == d) is in
    λ i. Ltx (eqb-true a c both.0 i) (eqb-true b d both.1 i)

-- a name that differs from one differs from any that is the same
pub differs : (n a b : FileName) → same_name a b ≡ true → same_name n b ≡ false → same_name n a ≡ false
differs n a b same isnt = ap (λ (m : FileName). same_name n m) (same_name-one a b same) ∙ isnt

-- and so does a name that is the same as one
pub differs_as : (n a b : FileName) → same_name n a ≡ true → same_name a b ≡ false → same_name n b ≡ false
differs_as n a b same isnt = ap (λ (m : FileName). same_name m b) (same_name-one n a same) ∙ isnt

pub same_name-trans : (n a b : FileName) → same_name n a ≡ true → same_name a b ≡ true → same_name n b ≡ true
same_name-trans n a b one two = sym (ap (λ (m : FileName). same_name n m) (same_name-one a b two)) ∙ one

pub same_name-sym : (a b : FileName) → same_name a b ≡ same_name b a
same_name-sym a b = elim (cases_Bool (same_name a b)) [
  | inl is ↦ is ∙ sym (ap (λ (m : FileName). same_name b m) (same_name-one a b is) ∙ same_name-refl b)
  | inr isnt ↦ elim (cases_Bool (same_name b a)) [
    | inl is ↦ absurd (false≢true (sym isnt ∙ ap (λ (m : FileName). same_name a m) (same_name-one b a is) ∙ same_name-refl a))
    | inr isnt' ↦ isnt ∙ sym isnt'
  ]
]
