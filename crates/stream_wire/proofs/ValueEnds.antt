-- How the value of a length can end that agrees with the length so far.
use Rattle.std.proofs.Common.{◌≡◌, ℕ, ◌∷◌, ◌+◌, ◌*◌, ◌-◌, ◌<◌, ◌≤◌, ◌^◌, ◌⊎◌, inl, inr, ◌==◌, List, [], ◌++◌, length, take, drop, Bool, true, false, Option, Some, None, unwrap_or, refl, sym, ap, ◌∙◌, subst, arith, append_assoc, append-nil, length-append, length-drop}
use Rattle.std.proofs.lemmas.Bool.{cases_lt, eq-eqb, eqb-true}
use Rattle.std.proofs.lemmas.List.{take-append-drop, drop_all}
use Rattle.std.proofs.lemmas.List.Elements.{All-nil}
use Rattle.std.proofs.lemmas.Int.Digits.{digits_value-lt}
use Rattle.std.specs.Str.Parse.{AllDigits, digits_value}
use Rattle.httparse.specs.Grammar.{AllPass, is_ows, trim_ows}
use Rattle.stream_wire.specs.Head.{decimal_of, joined}
use Rattle.stream_wire.specs.Ends.{IsPadded}
use Rattle.stream_wire.proofs.Cuts.{cut, StopsInside, GoesPast}
use Rattle.stream_wire.proofs.Digits.{says, said, digits_pass, AllDigits-append, AllDigits-front, AllDigits-back, AllDigits-drop, value-append, same_tail, no_front, trim_ows-around, trimmed, AllPass-front, value_front}

-- a value that was cut, ended by the last of these digits
pub record EndsValue (so_far : Option ℕ) (value left digits : List ℕ) : Type 0 where
  pub at : ℕ
  pub within : at ≤ length digits
  pub short : length (drop at digits) ≤ length left
  pub number : ℕ
  pub reads : decimal_of (trim_ows (value ++ drop at digits)) ≡ Some number
  pub agrees : joined so_far (Some number) ≡ Some number

-- what a length so far is, where another agrees with it
agrees_with : (so_far : Option ℕ) (n m : ℕ) → joined so_far (Some n) ≡ Some m → (n ≡ m) × ((so_far ≡ None) ⊎ (so_far ≡ Some n))
agrees_with None n m e = (cc, inl refl)
agrees_with (Some k) n m e = by_test (k == n) refl
  where
    by_test : (t : Bool) → (k == n) ≡ t → (n ≡ m) × ((Some k ≡ None) ⊎ (Some k ≡ Some n))
    by_test true same = let x : k ≡ n = eqb-true k n same in let y : Some n ≡ Some m = rw same at e in (cc, inr (ap Some x))
    by_test false other = let y : None ≡ Some m = rw other at e in absurd (cc)

joined_same : (n : ℕ) → joined (Some n) (Some n) ≡ Some n
joined_same n = rw (eq-eqb n n refl) refl

-- digits behind digits, for a number that they say together with what is left
last_digits : (d left digits : List ℕ) (n : ℕ) → IsPadded n digits → AllDigits 10 (d ++ left) → digits_value 10 (d ++ left) ≡ n → n < 2 ^ 64
    → (at : ℕ) × (at ≤ 20) × (length (drop at digits) ≤ length left) × AllDigits 10 (d ++ drop at digits) × (digits_value 10 (d ++ drop at digits) ≡ n) × (0 < length left → at < 20)
last_digits d left digits n padded all e fits = by_length (cases_lt (length left) 21)
  where
    tail : (at : ℕ) → AllDigits 10 (drop at digits)
    tail at = AllDigits-drop at digits padded.all

    by_length : (length left < 21) ⊎ (21 ≤ length left) → (at : ℕ) × (at ≤ 20) × (length (drop at digits) ≤ length left) × AllDigits 10 (d ++ drop at digits) × (digits_value 10 (d ++ drop at digits) ≡ n) × (0 < length left → at < 20)
    by_length (inl short) =
        let at = 20 - length left in
        let len : length (drop at digits) ≡ length left = omega (arith, length-drop at digits, padded.len) in
        let whole : digits_value 10 (take at digits ++ drop at digits) ≡ n = ap (digits_value 10) (take-append-drop at digits) ∙ padded.value in
        let same = same_tail (drop at digits) left (take at digits) d (tail at) (AllDigits-back d left all) len (whole ∙ sym e) in (
          at,
          omega arith,
          omega arith,
          AllDigits-append d (drop at digits) (AllDigits-front d left all) (tail at),
          value-append d (drop at digits) ∙ ap (λ (v : ℕ). digits_value 10 d * 10 ^ length (drop at digits) + v) same
              ∙ ap (λ (l : ℕ). digits_value 10 d * 10 ^ l + digits_value 10 left) len ∙ sym (value-append d left) ∙ e,
          λ some. omega arith,
        )
    by_length (inr long) =
        let none = no_front d left n (omega arith) e fits in (
          0,
          omega arith,
          omega (arith, padded.len),
          AllDigits-append d digits (AllDigits-front d left all) padded.all,
          value-append d digits ∙ ap (λ (v : ℕ). v * 10 ^ length digits + digits_value 10 digits) none ∙ omega (arith, padded.value),
          λ some. omega arith,
        )

-- digits behind white space and other digits
behind : (o b e : List ℕ) (n : ℕ) → AllPass is_ows o → 0 < length (b ++ e) → AllDigits 10 (b ++ e) → digits_value 10 (b ++ e) ≡ n → n < 2 ^ 64
    → decimal_of (trim_ows (o ++ b ++ e)) ≡ Some n
behind o b e n blank some all value fits =
    let t : trim_ows (o ++ b ++ e) ≡ b ++ e =
    ap trim_ows (append_assoc o b e ∙ ap (λ (l : List ℕ). o ++ l) (sym (append-nil (b ++ e)))) ∙ trim_ows-around o (b ++ e) [] blank (All-nil _) some (digits_pass (b ++ e) all) in
    ap decimal_of t ∙ said (b ++ e) n some all value fits

-- with no length so far one digit is a length
one_digit : (o left digits : List ℕ) → AllPass is_ows o → 0 < length left → IsPadded 0 digits → EndsValue None o left digits
one_digit o left digits blank some padded =
    let len : length (drop 19 digits) ≡ 1 = omega (arith, length-drop 19 digits, padded.len) in
    let all : AllDigits 10 (drop 19 digits) = AllDigits-drop 19 digits padded.all in
    let bound = digits_value-lt 10 (drop 19 digits) all in
    let power : 10 ^ length (drop 19 digits) ≡ 10 = ap (λ (n : ℕ). 10 ^ n) len in
    record {
      at = 19;
      within = omega (arith, padded.len);
      short = omega arith;
      number = digits_value 10 (drop 19 digits);
      reads = ap (λ (l : List ℕ). decimal_of (trim_ows (l ++ drop 19 digits))) (sym (append-nil o)) ∙ behind o [] (drop 19 digits) _ blank (omega arith) all refl (omega arith);
      agrees = refl;
    }

-- white space alone, so far
ends_blank : (so_far : Option ℕ) (o ds left digits : List ℕ) (n : ℕ) → AllPass is_ows o → decimal_of ds ≡ Some n → length ds ≤ length left → (so_far ≡ None) ⊎ (so_far ≡ Some n)
    → IsPadded (unwrap_or so_far 0) digits → EndsValue so_far o left digits
ends_blank None o ds left digits n blank e short so padded = let w = says ds n e in one_digit o left digits blank (omega (arith, w.0, short)) padded
ends_blank (Some k) o ds left digits n blank e short (inl never) padded = absurd (cc)
ends_blank (Some k) o ds left digits n blank e short (inr so) padded =
    let same : k ≡ n = cc in
    let w = says ds n e in
    let l = last_digits [] ds digits n (subst (λ (x : ℕ). IsPadded x digits) same padded) w.1 w.2 w.3 in
    let less = l.5 w.0 in
    record {
      at = l.0;
      within = omega (arith, padded.len, l.1);
      short = omega (arith, l.2, short);
      number = n;
      reads = ap (λ (x : List ℕ). decimal_of (trim_ows (x ++ drop l.0 digits))) (sym (append-nil o))
          ∙ behind o [] (drop l.0 digits) n blank (omega (arith, length-drop l.0 digits, padded.len, less)) l.3 l.4 w.3;
      agrees = ap (λ (x : ℕ). joined (Some x) (Some n)) same ∙ joined_same n;
    }

-- white space and some of the digits
ends_digits : (so_far : Option ℕ) (o b rest left digits : List ℕ) (n : ℕ) → AllPass is_ows o → decimal_of (b ++ rest) ≡ Some n → 0 < length rest → length rest ≤ length left
    → (so_far ≡ None) ⊎ (so_far ≡ Some n) → IsPadded (unwrap_or so_far 0) digits → EndsValue so_far (o ++ b) left digits
ends_digits None o [] rest left digits n blank e some short so padded =
    subst (λ (x : List ℕ). EndsValue None x left digits) (sym (append-nil o)) (one_digit o left digits blank (omega (arith, some, short)) padded)
ends_digits None o (d ∷ b) rest left digits n blank e some short so padded =
    let w = says (d ∷ b ++ rest) n e in
    let front = AllDigits-front (d ∷ b) rest w.1 in
    let low = value_front (d ∷ b) rest in
    let none : drop 20 digits ≡ [] = drop_all 20 digits (omega (arith, padded.len)) in
    record {
      at = 20;
      within = omega (arith, padded.len);
      short = omega (arith, ap length none);
      number = digits_value 10 (d ∷ b);
      reads = ap (λ (x : List ℕ). decimal_of (trim_ows (o ++ d ∷ b ++ x))) none
          ∙ behind o (d ∷ b) [] (digits_value 10 (d ∷ b)) blank (omega (arith, length-append (d ∷ b) [])) (subst (AllDigits 10) (sym (append-nil (d ∷ b))) front)
          (ap (digits_value 10) (append-nil (d ∷ b))) (omega (arith, low, w.2, w.3));
      agrees = refl;
    }
ends_digits (Some k) o b rest left digits n blank e some short (inl never) padded = absurd (cc)
ends_digits (Some k) o b rest left digits n blank e some short (inr so) padded =
    let same : k ≡ n = cc in
    let w = says (b ++ rest) n e in
    let l = last_digits b rest digits n (subst (λ (x : ℕ). IsPadded x digits) same padded) w.1 w.2 w.3 in
    let less = l.5 some in
    record {
      at = l.0;
      within = omega (arith, padded.len, l.1);
      short = omega (arith, l.2, short);
      number = n;
      reads = behind o b (drop l.0 digits) n blank (omega (arith, length-append b (drop l.0 digits), length-drop l.0 digits, padded.len, less)) l.3 l.4 w.3;
      agrees = ap (λ (x : ℕ). joined (Some x) (Some n)) same ∙ joined_same n;
    }

-- all of the digits
ends_whole : (so_far : Option ℕ) (o ds q left digits : List ℕ) (n : ℕ) → AllPass is_ows o → AllPass is_ows q → decimal_of ds ≡ Some n
    → (so_far ≡ None) ⊎ (so_far ≡ Some n) → IsPadded (unwrap_or so_far 0) digits → EndsValue so_far (o ++ (ds ++ q)) left digits
ends_whole so_far o ds q left digits n blank after e so padded =
    let w = says ds n e in
    let none : drop 20 digits ≡ [] = drop_all 20 digits (omega (arith, padded.len)) in
    record {
      at = 20;
      within = omega (arith, padded.len);
      short = omega (arith, ap length none);
      number = n;
      reads = ap (λ (x : List ℕ). decimal_of (trim_ows (o ++ (ds ++ q) ++ x))) none ∙ ap (λ (x : List ℕ). decimal_of (trim_ows x)) (append-nil (o ++ (ds ++ q)))
          ∙ ap decimal_of (trim_ows-around o ds q blank after w.0 (digits_pass ds w.1)) ∙ e;
      agrees = agreed so_far so;
    }
  where
    agreed : (s : Option ℕ) → (s ≡ None) ⊎ (s ≡ Some n) → joined s (Some n) ≡ Some n
    agreed s (inl none) = rw none refl
    agreed s (inr same) = rw same (joined_same n)

-- a value that is a length which agrees with the one so far, cut anywhere
pub ends_value : (so_far : Option ℕ) (value left digits : List ℕ) (n m : ℕ) → decimal_of (trim_ows (value ++ left)) ≡ Some n → joined so_far (Some n) ≡ Some m
    → IsPadded (unwrap_or so_far 0) digits → EndsValue so_far value left digits
ends_value so_far value left digits n m e agree padded =
    let t = trimmed (value ++ left) in
    let so = (agrees_with so_far n m agree).1 in
    by_front (trim_ows (value ++ left)) t.front t.back t.front_blank t.back_blank so e (cut value left t.front (trim_ows (value ++ left) ++ t.back) t.parts)
  where
    by_digits : (ds o b p : List ℕ) → AllPass is_ows o → AllPass is_ows p → (so_far ≡ None) ⊎ (so_far ≡ Some n) → decimal_of ds ≡ Some n
        → StopsInside b left ds p ⊎ GoesPast b left ds p → EndsValue so_far (o ++ b) left digits
    by_digits ds o b p blank after so e (inl x) =
        ends_digits so_far o b x.left left digits n blank (ap decimal_of (sym x.first_is) ∙ e) x.some (omega (arith, ap length x.more_is, length-append x.left p)) so padded
    by_digits ds o b p blank after so e (inr x) =
        subst (λ (l : List ℕ). EndsValue so_far (o ++ l) left digits) (sym x.bytes_are)
        (ends_whole so_far o ds x.behind left digits n blank (AllPass-front is_ows x.behind left (subst (AllPass is_ows) (sym x.rest_is) after)) e so padded)

    by_front : (ds o p : List ℕ) → AllPass is_ows o → AllPass is_ows p → (so_far ≡ None) ⊎ (so_far ≡ Some n) → decimal_of ds ≡ Some n
        → StopsInside value left o (ds ++ p) ⊎ GoesPast value left o (ds ++ p) → EndsValue so_far value left digits
    by_front ds o p blank after so e (inl x) =
        ends_blank so_far value ds left digits n (AllPass-front is_ows value x.left (subst (AllPass is_ows) x.first_is blank)) e
        (omega (arith, ap length x.more_is, length-append x.left (ds ++ p), length-append ds p)) so padded
    by_front ds o p blank after so e (inr x) =
        subst (λ (l : List ℕ). EndsValue so_far l left digits) (sym x.bytes_are) (by_digits ds o x.behind p blank after so e (cut x.behind left ds p x.rest_is))
