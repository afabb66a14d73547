-- Numbers as decimal digits, and white space around them.
use Rattle.std.proofs.Common.{◌≡◌, ℕ, zero, suc, ◌∷◌, ◌+◌, ◌*◌, ◌-◌, ◌%◌, ◌<◌, ◌≤◌, ◌^◌, ◌&&◌, List, [], ◌++◌, length, take, drop, reverse, Bool, true, false, nat_lt, IsTrue, Option, Some, None, if◌then◌else◌, refl, sym, ap, ◌∙◌, subst, arith, decimal}
use Rattle.std.proofs.lemmas.Grind.{common_steps}
use Rattle.std.proofs.lemmas.Bool.{and_parts, ltb-true}
use Rattle.std.proofs.lemmas.Bool.Decides.{nat_tests}
use Rattle.std.proofs.lemmas.Fmt.{decimal_is_IsNumeral}
use Rattle.std.proofs.lemmas.Int.Digits.{digits_value-lt}
use Rattle.std.proofs.lemmas.List.{take-append-drop, reverse-append, reverse-reverse, length-reverse}
use Rattle.std.proofs.lemmas.List.Elements.{All-cons, All-nil, All-head, All-tail}
use Rattle.std.proofs.lemmas.Nat.{mod-mul-add}
use Rattle.std.proofs.lemmas.Str.Parse.{digit_from_value}
use Rattle.std.proofs.Math.Nat.{pow-suc, pow-le-pow_right, mul-le-mul_left}
use Rattle.std.specs.Char.{is_ascii_digit, digit_value}
use Rattle.std.specs.List.{list_all}
use Rattle.std.specs.Str.Parse.{AllDigits, digits_value_after, digits_value}
use Rattle.httparse.specs.Grammar.{AllPass, is_value_byte, is_ows, skip_ows, trim_ows}
use Rattle.httparse.proofs.TrimLemmas.{trim_ows_space, AllPass-reverse}
use Rattle.stream_wire.specs.Head.{decimal_of, decimal_after}

-- ---- a number as decimal digits

pub digit_range : (c : ℕ) → digit_value c < 10 → (48 ≤ c) × (c ≤ 57) × (digit_value c ≡ c - 48)
digit_range c h = let r = digit_from_value c h in (r.0, r.1, grind (arith, nat_tests, common_steps, r))

pub after_at_least : (n : ℕ) (ds : List ℕ) → n ≤ digits_value_after 10 n ds
after_at_least n [] = omega arith
after_at_least n (d ∷ ds) = let h = after_at_least (n * 10 + digit_value d) ds in omega arith

pub decimal_after-digits : (n : ℕ) (ds : List ℕ) → AllDigits 10 ds → digits_value_after 10 n ds < 2 ^ 64 → decimal_after n ds ≡ Some (digits_value_after 10 n ds)
decimal_after-digits n [] all fits = refl
decimal_after-digits n (d ∷ ds) all fits =
    let r = digit_range d all.0 in
    let e : n * 10 + digit_value d ≡ n * 10 + (d - 48) = ap (λ (x : ℕ). n * 10 + x) r.2 in
    let least = after_at_least (n * 10 + digit_value d) ds in
    let more = decimal_after-digits (n * 10 + digit_value d) ds all.1 fits in
    let small : n * 10 + digit_value d < 2 ^ 64 = omega arith in
    grind (arith, nat_tests, common_steps, r, e, more, small)

pub decimal_of-decimal : (n : ℕ) → n < 2 ^ 64 → decimal_of (decimal n) ≡ Some n
decimal_of-decimal n h = by_digits (decimal n) (decimal_is_IsNumeral n h).0.0 (decimal_is_IsNumeral n h).0.1 (decimal_is_IsNumeral n h).1
  where
    by_digits : (ds : List ℕ) → 0 < length ds → AllDigits 10 ds → digits_value 10 ds ≡ n → decimal_of ds ≡ Some n
    by_digits [] some all e = absurd (omega arith)
    by_digits (d ∷ ds) some all e = decimal_after-digits 0 (d ∷ ds) all (omega arith) ∙ ap Some e

-- ---- each byte of it is a digit, so no white space

pub digits_pass : (ds : List ℕ) → AllDigits 10 ds → AllPass is_ascii_digit ds
digits_pass [] all = All-nil _
digits_pass (d ∷ ds) all = let r = digit_range d all.0 in All-cons (λ b. IsTrue (is_ascii_digit b)) d ds (grind (arith, nat_tests, common_steps, r)) (digits_pass ds all.1)

pub decimal_pass : (n : ℕ) → n < 2 ^ 64 → AllPass is_ascii_digit (decimal n)
decimal_pass n h = digits_pass (decimal n) (decimal_is_IsNumeral n h).0.1

pub is_no_ows : (b : ℕ) → IsTrue (is_ascii_digit b) → is_ows b ≡ false
is_no_ows b h = grind (arith, nat_tests, common_steps)

pub is_value : (b : ℕ) → IsTrue (is_ascii_digit b) → IsTrue (is_value_byte b)
is_value b h = grind (arith, nat_tests, common_steps)

pub skip_ows-digits : (ds : List ℕ) → AllPass is_ascii_digit ds → skip_ows ds ≡ ds
skip_ows-digits [] all = refl
skip_ows-digits (d ∷ ds) all = let no = is_no_ows d (All-head (λ b. IsTrue (is_ascii_digit b)) d ds all) in rw no refl

pub trim_ows-decimal : (n : ℕ) → n < 2 ^ 64 → trim_ows (32 ∷ decimal n) ≡ decimal n
trim_ows-decimal n h =
    let all = decimal_pass n h in
    trim_ows_space (decimal n) (skip_ows-digits (decimal n) all) (skip_ows-digits (reverse (decimal n)) (AllPass-reverse is_ascii_digit (decimal n) all))

pub passes : (test : ℕ → Bool) (bytes : List ℕ) → list_all test bytes ≡ true → AllPass test bytes
passes test [] h = All-nil _
passes test (b ∷ bs) h = All-cons (λ x. IsTrue (test x)) b bs (and_parts _ _ h).0 (passes test bs (and_parts _ _ h).1)

-- ---- what digits say

-- one more digit
gated : (b : Bool) (x : Option ℕ) (m : ℕ) → (if b then x else None) ≡ Some m → (b ≡ true) × (x ≡ Some m)
gated true x m e = (refl, e)
gated false x m e = absurd (cc)

-- digits that say a number are digits, and its value is that
pub digits_from : (n : ℕ) (ds : List ℕ) (m : ℕ) → n < 2 ^ 64 → decimal_after n ds ≡ Some m → AllDigits 10 ds × (digits_value_after 10 n ds ≡ m) × (m < 2 ^ 64)
digits_from n [] m fits e = let same : n ≡ m = cc in (tt, same, omega arith)
digits_from n (d ∷ ds) m fits e =
    let test = gated (is_ascii_digit d && nat_lt (n * 10 + (d - 48)) (2 ^ 64)) _ m e in
    let parts = and_parts (is_ascii_digit d) (nat_lt (n * 10 + (d - 48)) (2 ^ 64)) test.0 in
    let small : n * 10 + (d - 48) < 2 ^ 64 = ltb-true _ _ parts.1 in
    let more = digits_from (n * 10 + (d - 48)) ds m small test.1 in
    let v : digit_value d ≡ d - 48 = grind (arith, nat_tests, common_steps, parts.0) in
    let low : digit_value d < 10 = grind (arith, nat_tests, common_steps, parts.0) in
    ((low, more.0), ap (λ (x : ℕ). digits_value_after 10 (n * 10 + x) ds) v ∙ more.1, more.2)

pub says : (ds : List ℕ) (n : ℕ) → decimal_of ds ≡ Some n → (0 < length ds) × AllDigits 10 ds × (digits_value 10 ds ≡ n) × (n < 2 ^ 64)
says [] n e = absurd (cc)
says (d ∷ ds) n e = let x = digits_from 0 (d ∷ ds) n (omega arith) e in (omega arith, x.0, x.1, x.2)

pub said : (ds : List ℕ) (n : ℕ) → 0 < length ds → AllDigits 10 ds → digits_value 10 ds ≡ n → n < 2 ^ 64 → decimal_of ds ≡ Some n
said [] n some all e fits = absurd (omega arith)
said (d ∷ ds) n some all e fits = decimal_after-digits 0 (d ∷ ds) all (omega arith) ∙ ap Some e

-- ---- digits in a row

pub AllDigits-append : (xs ys : List ℕ) → AllDigits 10 xs → AllDigits 10 ys → AllDigits 10 (xs ++ ys)
AllDigits-append [] ys a b = b
AllDigits-append (x ∷ xs) ys a b = (a.0, AllDigits-append xs ys a.1 b)

pub AllDigits-front : (xs ys : List ℕ) → AllDigits 10 (xs ++ ys) → AllDigits 10 xs
AllDigits-front [] ys a = tt
AllDigits-front (x ∷ xs) ys a = (a.0, AllDigits-front xs ys a.1)

pub AllDigits-back : (xs ys : List ℕ) → AllDigits 10 (xs ++ ys) → AllDigits 10 ys
AllDigits-back [] ys a = a
AllDigits-back (x ∷ xs) ys a = AllDigits-back xs ys a.1

pub AllDigits-drop : (at : ℕ) (ds : List ℕ) → AllDigits 10 ds → AllDigits 10 (drop at ds)
AllDigits-drop at ds all = AllDigits-back (take at ds) (drop at ds) (subst (AllDigits 10) (sym (take-append-drop at ds)) all)

value_after : (n : ℕ) (ds : List ℕ) → digits_value_after 10 n ds ≡ n * 10 ^ length ds + digits_value 10 ds
value_after n [] = omega arith
value_after n (d ∷ ds) =
    let p : 10 ^ suc (length ds) ≡ 10 ^ length ds * 10 = pow-suc 10 (length ds) in
    let a = value_after (n * 10 + digit_value d) ds in
    let b = value_after (0 * 10 + digit_value d) ds in
    a ∙ sym (ap (λ (x : ℕ). n * x + digits_value_after 10 (0 * 10 + digit_value d) ds) p ∙ ap (λ (x : ℕ). n * (10 ^ length ds * 10) + x) b ∙ omega arith)

after-append : (n : ℕ) (xs ys : List ℕ) → digits_value_after 10 n (xs ++ ys) ≡ digits_value_after 10 (digits_value_after 10 n xs) ys
after-append n [] ys = refl
after-append n (x ∷ xs) ys = after-append (n * 10 + digit_value x) xs ys

pub value-append : (xs ys : List ℕ) → digits_value 10 (xs ++ ys) ≡ digits_value 10 xs * 10 ^ length ys + digits_value 10 ys
value-append xs ys = after-append 0 xs ys ∙ value_after (digits_value 10 xs) ys

-- the last digits of a number are those of any text that says it
pub same_tail : (a b d e : List ℕ) → AllDigits 10 a → AllDigits 10 b → length a ≡ length b
    → digits_value 10 (d ++ a) ≡ digits_value 10 (e ++ b) → digits_value 10 a ≡ digits_value 10 b
same_tail a b d e all also len same =
    let x = digits_value-lt 10 a all in
    let y = digits_value-lt 10 b also in
    let power : 10 ^ length a ≡ 10 ^ length b = ap (λ (n : ℕ). 10 ^ n) len in
    let left = mod-mul-add (digits_value 10 d) (10 ^ length a) (digits_value 10 a) x in
    let right = mod-mul-add (digits_value 10 e) (10 ^ length b) (digits_value 10 b) y in
    let one : digits_value 10 d * 10 ^ length a + digits_value 10 a ≡ digits_value 10 e * 10 ^ length b + digits_value 10 b = sym (value-append d a) ∙ same ∙ value-append e b in
    sym left ∙ ap (λ (n : ℕ). n % 10 ^ length a) one ∙ ap (λ (n : ℕ). (digits_value 10 e * 10 ^ length b + digits_value 10 b) % n) power ∙ right

-- digits in front of more than twenty others say nothing in a number of 64 bits
pub no_front : (d a : List ℕ) (n : ℕ) → 20 ≤ length a → digits_value 10 (d ++ a) ≡ n → n < 2 ^ 64 → digits_value 10 d ≡ 0
no_front d a n long e fits = by_value (digits_value 10 d) refl
  where
    power : 10 ^ 20 ≤ 10 ^ length a
    power = pow-le-pow_right (omega arith) long

    by_value : (v : ℕ) → digits_value 10 d ≡ v → v ≡ 0
    by_value zero is = refl
    by_value (suc v) is =
        let sum = value-append d a in
        let one : 1 ≤ digits_value 10 d = omega (arith, is) in
        let least : 10 ^ length a * 1 ≤ 10 ^ length a * digits_value 10 d = mul-le-mul_left (10 ^ length a) one in
        absurd (omega (arith, sum, least, power))

-- ---- white space around a value

skip_ows-blank : (o xs : List ℕ) → AllPass is_ows o → skip_ows (o ++ xs) ≡ skip_ows xs
skip_ows-blank [] xs all = refl
skip_ows-blank (b ∷ o) xs all = let here : is_ows b ≡ true = All-head (λ x. IsTrue (is_ows x)) b o all in rw here (skip_ows-blank o xs (All-tail (λ x. IsTrue (is_ows x)) b o all))

skip_ows-front : (ds xs : List ℕ) → 0 < length ds → AllPass is_ascii_digit ds → skip_ows (ds ++ xs) ≡ ds ++ xs
skip_ows-front [] xs some all = absurd (omega arith)
skip_ows-front (d ∷ ds) xs some all = let no = is_no_ows d (All-head (λ b. IsTrue (is_ascii_digit b)) d ds all) in rw no refl

skip_ows-all : (o : List ℕ) → AllPass is_ows o → skip_ows o ≡ []
skip_ows-all [] all = refl
skip_ows-all (b ∷ o) all = let here : is_ows b ≡ true = All-head (λ x. IsTrue (is_ows x)) b o all in rw here (skip_ows-all o (All-tail (λ x. IsTrue (is_ows x)) b o all))

-- digits between white space
pub trim_ows-around : (o ds p : List ℕ) → AllPass is_ows o → AllPass is_ows p → 0 < length ds → AllPass is_ascii_digit ds → trim_ows (o ++ (ds ++ p)) ≡ ds
unfolding trim_ows
trim_ows-around o ds p front back some all =
    let turned = AllPass-reverse is_ascii_digit ds all in
    let blank = AllPass-reverse is_ows p back in
    let long : 0 < length (reverse ds) = omega (arith, length-reverse ds) in
    let a = skip_ows-blank o (ds ++ p) front in
    let b = skip_ows-front ds p some all in
    let c = reverse-append ds p in
    let d = skip_ows-blank (reverse p) (reverse ds) blank in
    let e = skip_ows-digits (reverse ds) turned in
    rw (a, b, c, d, e) (reverse-reverse ds)

-- what trimming takes away
pub record HasTrimmed (raw : List ℕ) : Type 0 where
  pub front : List ℕ
  pub back : List ℕ
  pub parts : raw ≡ front ++ (trim_ows raw ++ back)
  pub front_blank : AllPass is_ows front
  pub back_blank : AllPass is_ows back

abbrev Skipped : List ℕ → Type 0
Skipped xs = (o : List ℕ) × (xs ≡ o ++ skip_ows xs) × AllPass is_ows o

skipped_more : (b : ℕ) (xs : List ℕ) → Skipped xs → (t : Bool) → is_ows b ≡ t → Skipped (b ∷ xs)
skipped_more b xs more true blank = (b ∷ more.0, rw blank (ap (λ (l : List ℕ). b ∷ l) more.1), All-cons (λ x. IsTrue (is_ows x)) b more.0 blank more.2)
skipped_more b xs more false other = ([], rw other refl, All-nil _)

skipped : (xs : List ℕ) → Skipped xs
skipped [] = ([], refl, All-nil _)
skipped (b ∷ xs) = skipped_more b xs (skipped xs) (is_ows b) refl

pub trimmed : (raw : List ℕ) → HasTrimmed raw
unfolding trim_ows
trimmed raw =
    let a = skipped raw in
    let b = skipped (reverse (skip_ows raw)) in
    let turned : skip_ows raw ≡ reverse (skip_ows (reverse (skip_ows raw))) ++ reverse b.0 =
    sym (reverse-reverse (skip_ows raw)) ∙ ap reverse b.1 ∙ reverse-append b.0 (skip_ows (reverse (skip_ows raw))) in
    record {
      front = a.0;
      back = reverse b.0;
      parts = a.1 ∙ ap (λ (l : List ℕ). a.0 ++ l) turned;
      front_blank = a.2;
      back_blank = AllPass-reverse is_ows b.0 b.2;
    }

-- ---- fronts of values

pub AllPass-front : (test : ℕ → Bool) (xs ys : List ℕ) → AllPass test (xs ++ ys) → AllPass test xs
AllPass-front test [] ys all = All-nil _
AllPass-front test (x ∷ xs) ys all =
    All-cons (λ b. IsTrue (test b)) x xs (All-head (λ b. IsTrue (test b)) x (xs ++ ys) all) (AllPass-front test xs ys (All-tail (λ b. IsTrue (test b)) x (xs ++ ys) all))

pub value_front : (xs ys : List ℕ) → digits_value 10 xs ≤ digits_value 10 (xs ++ ys)
value_front xs ys = let least = after_at_least (digits_value 10 xs) ys in let e = after-append 0 xs ys in omega arith
