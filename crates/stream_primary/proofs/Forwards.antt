-- The first line of a body, and the file behind it.
use Rattle.std.proofs.Common.{◌≡◌, ◌≢◌, ◌∙◌, ℕ, zero, suc, ◌+◌, ◌/◌, ◌%◌, ◌<◌, IsTrue, List, [], ◌∷◌, ◌++◌, length, take, drop, get_or, Some, None, refl, sym, ap, subst, arith}
use Rattle.std.specs.Prelude.{slice_index}
use Rattle.std.proofs.lemmas.Bool.Decides.{nat_tests}
use Rattle.std.proofs.lemmas.Grind.{common_steps}
use Rattle.std.proofs.lemmas.List.{append_assoc, drop_more, take-append-drop, length-append}
use Rattle.std.proofs.Math.Seq.{take-append_seam}
use Rattle.lf_base.specs.Hex.{hex_digit, hex_digits}
use Rattle.lf_base.specs.Name.{IsName, is_name_byte}
use Rattle.lf_base.proofs.HexLemmas.{hex_length}
use Rattle.stream_wire.specs.NumberLines.{number_end, number_line}
use Rattle.stream_primary.specs.ForwardCall.{IsFirstLine, IsUnbroken}

-- ---- bytes without a newline

pub unbroken_join : (xs ys : List ℕ) → IsUnbroken xs → IsUnbroken ys → IsUnbroken (xs ++ ys)
unbroken_join [] ys first second = second
unbroken_join (x ∷ xs) ys first second = (first.0, unbroken_join xs ys first.1 second)

unbroken_by_index : (bytes : List ℕ) → ((k : ℕ) → k < length bytes → slice_index bytes k ≢ 10) → IsUnbroken bytes
unbroken_by_index [] free = tt
unbroken_by_index (b ∷ bs) free = (free 0 (omega arith), unbroken_by_index bs (λ k less. free (suc k) (omega arith)))

no_newline : (b : ℕ) → IsTrue (is_name_byte b) → b ≢ 10
no_newline b is e = let here : IsTrue (is_name_byte 10) = subst (λ (n : ℕ). IsTrue (is_name_byte n)) e is in absurd (cc)

name_unbroken : (name : List ℕ) → IsName name → IsUnbroken name
name_unbroken name is = unbroken_by_index name (λ k less. no_newline (slice_index name k) (is.allowed k less))

digit_is_none : (d : ℕ) → hex_digit d ≢ 10
unfolding hex_digit
digit_is_none d e = grind (arith, nat_tests, common_steps)

digits_unbroken : (count n : ℕ) → IsUnbroken (hex_digits count n)
unfolding hex_digits
digits_unbroken zero n = tt
digits_unbroken (suc count) n = unbroken_join (hex_digits count (n / 16)) (hex_digit (n % 16) ∷ []) (digits_unbroken count (n / 16)) (digit_is_none (n % 16), tt)

-- ---- the line of a name and a number, but for its newline

abbrev pub front_of : List ℕ → ℕ → List ℕ
front_of name n = name ++ 32 ∷ hex_digits 16 n

pub front_unbroken : (name : List ℕ) (n : ℕ) → IsName name → IsUnbroken (front_of name n)
front_unbroken name n is = unbroken_join name (32 ∷ hex_digits 16 n) (name_unbroken name is) ((λ (e : 32 ≡ 10). absurd omega (arith, e)), digits_unbroken 16 n)

pub front_length : (name : List ℕ) (n : ℕ) → length (front_of name n) ≡ length name + 17
front_length name n = omega (arith, length-append name (32 ∷ hex_digits 16 n), hex_length 16 n)

pub line_is : (name bytes : List ℕ) (n : ℕ) → number_line name n ++ bytes ≡ front_of name n ++ 10 ∷ bytes
line_is name bytes n =
    append_assoc name (number_end n) bytes
    ∙ ap (λ (l : List ℕ). name ++ 32 ∷ l) (append_assoc (hex_digits 16 n) (10 ∷ []) bytes)
    ∙ sym (append_assoc name (32 ∷ hex_digits 16 n) (10 ∷ bytes))

pub line_ends : (name : List ℕ) (n : ℕ) → number_line name n ≡ front_of name n ++ 10 ∷ []
line_ends name n = sym (append_assoc name (32 ∷ hex_digits 16 n) (10 ∷ []))

-- ---- a first line is one

pub one_front : (f g r s : List ℕ) → IsUnbroken f → IsUnbroken g → f ++ 10 ∷ r ≡ g ++ 10 ∷ s → f ≡ g
one_front [] [] r s free other same = refl
one_front [] (y ∷ ys) r s free other same = let e : y ≡ 10 = cc in absurd (other.0 e)
one_front (x ∷ xs) [] r s free other same = let e : x ≡ 10 = cc in absurd (free.0 e)
one_front (x ∷ xs) (y ∷ ys) r s free other same =
    let head : x ≡ y = cc in
    let tail : xs ++ 10 ∷ r ≡ ys ++ 10 ∷ s = cc in
    λ i. head i ∷ one_front xs ys r s free.1 other.1 tail i

-- a newline stands among bytes that have none
pub no_front : (f r : List ℕ) (n : ℕ) → IsUnbroken (take n (f ++ 10 ∷ r)) → length f < n → ⊥
no_front f r zero free less = absurd omega (arith, less)
no_front [] r (suc n) free less = free.0 refl
no_front (x ∷ xs) r (suc n) free less = no_front xs r n free.1 (omega (arith, less))

-- the bytes up to a newline, and those behind it
pub cut_at : (body : List ℕ) (at : ℕ) → at < length body → get_or body at 0 ≡ 10 → body ≡ take at body ++ 10 ∷ drop (at + 1) body
cut_at body at more is =
    sym (take-append-drop at body) ∙ ap (λ (l : List ℕ). take at body ++ l) (drop_more body at 0 more ∙ ap (λ (b : ℕ). b ∷ drop (at + 1) body) is)

-- ---- what a body with a first line says

module _ (body : List ℕ) (len : ℕ) (first : IsFirstLine body (Some len)) where
  pub line_part : take len body ≡ first.0 ++ 10 ∷ []
  line_part =
      let whole : body ≡ (first.0 ++ 10 ∷ []) ++ first.1 = first.3 ∙ sym (append_assoc first.0 (10 ∷ []) first.1) in
      let long : length (first.0 ++ 10 ∷ []) ≡ len = length-append first.0 (10 ∷ []) ∙ sym first.4 in
      ap (λ (l : List ℕ). take len l) whole ∙ ap (λ (k : ℕ). take k ((first.0 ++ 10 ∷ []) ++ first.1)) (sym long) ∙ take-append_seam (first.0 ++ 10 ∷ []) first.1

  pub same_line : (name bytes : List ℕ) (n : ℕ) → IsName name → body ≡ number_line name n ++ bytes → take len body ≡ number_line name n
  same_line name bytes n is e =
      let same : first.0 ≡ front_of name n =
      one_front first.0 (front_of name n) first.1 bytes first.2 (front_unbroken name n is) (sym first.3 ∙ e ∙ line_is name bytes n) in
      line_part ∙ ap (λ (l : List ℕ). l ++ 10 ∷ []) same ∙ sym (line_ends name n)

-- the file is what stands behind the line
pub behind_line : (body line : List ℕ) (len : ℕ) → take len body ≡ line → body ≡ line ++ drop len body
behind_line body line len is = sym (take-append-drop len body) ∙ ap (λ (l : List ℕ). l ++ drop len body) is

-- no line that names a database and a number is longer
pub no_line : (body name bytes : List ℕ) (n : ℕ) → IsFirstLine body None → IsName name → body ≡ number_line name n ++ bytes → ⊥
no_line body name bytes n none is e =
    none (front_of name n) bytes (front_unbroken name n is) (omega (arith, front_length name n, is.fits.1)) (e ∙ line_is name bytes n)
