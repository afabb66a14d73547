-- The name of a level's folder is a name.
use Rattle.std.proofs.Common.{◌≡◌, ◌≢◌, ◌⊎◌, inl, inr, ℕ, zero, suc, ◌+◌, ◌-◌, ◌<◌, ◌≤◌, Bool, true, false, true≢false, List, [], ◌∷◌, ◌++◌, length, take, drop, get_or, codes, refl, sym, ap, ◌∙◌, subst, append_assoc, length-append, arith}
use Rattle.std.proofs.lemmas.Bool.{cases_lt}
use Rattle.std.proofs.lemmas.List.{get_or_append_left, take-append-drop}
use Rattle.std.proofs.lemmas.List.Elements.{All-cons, All-nil}
use Rattle.std.proofs.lemmas.List.Folds.{list_any_none}
use Rattle.std.proofs.lemmas.Slice.Eq.{bytes_eq-Decides}
use Rattle.std.proofs.Math.Seq.{drop-append_seam, get_or-append_right}
use Rattle.std.specs.Bool.{Decides}
use Rattle.std.specs.List.{ends_with}
use Rattle.std.specs.Prelude.{nat_eq, IsTrue, IsFalse, slice_index}
use Rattle.std.specs.Str.{bytes_eq}
use Rattle.lf_base.specs.Name.{BreaksName, HasNameBytes, IsName, endings, has_ending, is_name_byte}
use Rattle.lf_base.specs.declared.name.NameFault.{NameFault}
use Rattle.lf_base.specs.declared.name.NameFault.TheVariants as fault
use Rattle.backup_link.specs.LevelNames.{HasRoom, level_name}

abbrev ending : ℕ → List ℕ
ending level = 46 ∷ 108 ∷ (48 + level) ∷ []

-- ---- no other ending

third_last : (xs ys : List ℕ) (c b a z y x : ℕ) → xs ++ c ∷ b ∷ a ∷ [] ≡ ys ++ z ∷ y ∷ x ∷ [] → c ≡ z
third_last xs ys c b a z y x e =
    let n : length xs ≡ length ys = omega (arith, ap length e, length-append xs (c ∷ b ∷ a ∷ []), length-append ys (z ∷ y ∷ x ∷ [])) in
    let same : c ∷ b ∷ a ∷ [] ≡ z ∷ y ∷ x ∷ [] =
    sym (drop-append_seam xs (c ∷ b ∷ a ∷ [])) ∙ ap (λ (l : List ℕ). drop (length xs) l) e ∙ ap (λ (k : ℕ). drop k (ys ++ z ∷ y ∷ x ∷ [])) n ∙ drop-append_seam ys (z ∷ y ∷ x ∷ [])
    in
    ap (λ (l : List ℕ). get_or l 0 0) same

ends_otherwise : (name : List ℕ) (level : ℕ) (front : List ℕ) (c b a : ℕ) → c ≢ 46 → ends_with nat_eq (name ++ ending level) (front ++ c ∷ b ∷ a ∷ []) ≡ false
ends_otherwise name level front c b a other = go (bytes_eq needle behind) (bytes_eq-Decides needle behind)
  where
    bytes : List ℕ
    bytes = name ++ ending level

    needle : List ℕ
    needle = front ++ c ∷ b ∷ a ∷ []

    before : List ℕ
    before = take (length bytes - length needle) bytes

    behind : List ℕ
    behind = drop (length bytes - length needle) bytes

    go : (same : Bool) → Decides same (needle ≡ behind) → same ≡ false
    go false decides = refl
    go true decides =
        let split : (before ++ front) ++ c ∷ b ∷ a ∷ [] ≡ bytes =
        append_assoc before front (c ∷ b ∷ a ∷ []) ∙ ap (λ (l : List ℕ). before ++ l) (decides.0 refl) ∙ take-append-drop (length bytes - length needle) bytes
        in
        absurd (other (third_last (before ++ front) name c b a 46 108 (48 + level) split))

abbrev Free : List ℕ → List ℕ → Type 0
Free bytes end = ends_with nat_eq bytes end ≡ false

no_ending : (name : List ℕ) (level : ℕ) → IsFalse (has_ending (name ++ ending level))
unfolding has_ending
no_ending name level =
    let bytes : List ℕ = name ++ ending level in
    let P : List ℕ → Type 0 = Free bytes in
    list_any_none (λ (end : List ℕ). ends_with nat_eq bytes end) endings
    (All-cons P (codes "-journal") (codes "-wal" ∷ codes "-shm" ∷ codes "-pos" ∷ codes "-lock" ∷ []) (ends_otherwise name level (codes "-jour") 110 97 108 (λ e. omega (arith, e)))
    (All-cons P (codes "-wal") (codes "-shm" ∷ codes "-pos" ∷ codes "-lock" ∷ []) (ends_otherwise name level (codes "-") 119 97 108 (λ e. omega (arith, e)))
    (All-cons P (codes "-shm") (codes "-pos" ∷ codes "-lock" ∷ []) (ends_otherwise name level (codes "-") 115 104 109 (λ e. omega (arith, e)))
    (All-cons P (codes "-pos") (codes "-lock" ∷ []) (ends_otherwise name level (codes "-") 112 111 115 (λ e. omega (arith, e)))
    (All-cons P (codes "-lock") [] (ends_otherwise name level (codes "-l") 111 99 107 (λ e. omega (arith, e))) (All-nil P))))))

-- ---- its bytes

digit_stands : (level : ℕ) → level ≤ 2 → IsTrue (is_name_byte (48 + level))
digit_stands zero small = refl
digit_stands (suc zero) small = refl
digit_stands (suc (suc zero)) small = refl
digit_stands (suc (suc (suc level))) small = absurd (omega (arith, small))

ending_stands : (level i : ℕ) → level ≤ 2 → i < 3 → IsTrue (is_name_byte (get_or (ending level) i 0))
ending_stands level zero small inside = refl
ending_stands level (suc zero) small inside = refl
ending_stands level (suc (suc zero)) small inside = digit_stands level small
ending_stands level (suc (suc (suc i))) small inside = absurd (omega (arith, inside))

all_stand : (name : List ℕ) (level : ℕ) → HasNameBytes name (length name) → level ≤ 2 → HasNameBytes (name ++ ending level) (length (name ++ ending level))
all_stand name level allowed small k inside = go (cases_lt k (length name))
  where
    go : (k < length name) ⊎ (length name ≤ k) → IsTrue (is_name_byte (slice_index (name ++ ending level) k))
    go (inl front) = subst (λ (b : ℕ). IsTrue (is_name_byte b)) (sym (get_or_append_left name (ending level) 0 k front)) (allowed k front)
    go (inr back) =
        let i : k - length name < 3 = omega (arith, inside, back, length-append name (ending level)) in
        subst (λ (b : ℕ). IsTrue (is_name_byte b)) (sym (get_or-append_right name (ending level) k 0 back)) (ending_stands level (k - length name) small i)

-- a name is refused for want of memory alone
is_refused : (bytes : List ℕ) (why : NameFault) → IsName bytes → BreaksName bytes why → why ≡ fault.NoMemory
is_refused bytes fault.Length is broken = absurd (broken is.fits)
is_refused bytes fault.First is broken = absurd (broken.1 is.begins)
is_refused bytes (fault.Byte at) is broken = absurd (true≢false (sym (is.allowed at broken.3) ∙ broken.4))
is_refused bytes fault.Suffix is broken = absurd (true≢false (sym broken.3 ∙ is.free))
is_refused bytes fault.NoMemory is broken = refl

-- THE NAME OF A LEVEL'S FOLDER
level_is_name : (name : List ℕ) (level : ℕ) → IsName name → HasRoom name → level ≤ 2 → IsName (level_name name level)
level_is_name name level is room small = record {
  fits = (omega (arith, is.fits.0, length-append name (ending level)), omega (arith, room, length-append name (ending level)));
  begins = subst (λ (b : ℕ). IsTrue (Rattle.std.specs.Char.is_ascii_alphanumeric b)) (sym (get_or_append_left name (ending level) 0 0 is.fits.0)) is.begins;
  allowed = all_stand name level is.allowed small;
  free = no_ending name level;
}

pub level_refused : (name bytes : List ℕ) (level : ℕ) (why : NameFault) → bytes ≡ level_name name level → IsName name → HasRoom name → level ≤ 2 → BreaksName bytes why
    → why ≡ fault.NoMemory
level_refused name bytes level why same is room small broken =
    is_refused bytes why (subst IsName (sym same) (level_is_name name level is room small)) broken
