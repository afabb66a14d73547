-- How a text in UTF-8 that stops anywhere can end.
use Rattle.std.proofs.Common.{◌≡◌, ℕ, ◌∷◌, ◌+◌, ◌*◌, ◌/◌, ◌%◌, ◌<◌, ◌≤◌, ◌⊎◌, inl, inr, List, [], ◌++◌, length, true, refl, sym, ap, ◌∙◌, subst, arith, append_assoc, length-append, IsUtf8}
use Rattle.std.proofs.lemmas.Grind.{common_steps}
use Rattle.std.proofs.lemmas.Bool.{and_parts, cases_lt}
use Rattle.std.proofs.lemmas.Bool.Decides.{nat_tests}
use Rattle.std.proofs.lemmas.Str.{IsUtf8-append, IsUtf8-nil, IsUtf8-encode}
use Rattle.std.specs.Char.{IsScalar}
use lib.Utf8.{scalar, scalars, encode, encodes, scalar_cases, low_scalar, next}
use Rattle.stream_wire.proofs.Cuts.{cut, StopsInside, GoesPast}

-- the bytes that end a character which was cut
pub data CharEnd : List ℕ → Type 0 where
  none : CharEnd []
  one : CharEnd (128 ∷ [])
  two : CharEnd (128 ∷ 128 ∷ [])
  three : CharEnd (128 ∷ 128 ∷ 128 ∷ [])
  two_high : CharEnd (160 ∷ 128 ∷ [])
  three_high : CharEnd (144 ∷ 128 ∷ 128 ∷ [])

abbrev pub EndsText : List ℕ → List ℕ → Type 0
EndsText t w = (u : List ℕ) × CharEnd u × IsUtf8 (t ++ u) × (length u ≤ length w)

encode_two : (c : ℕ) → 128 ≤ c → c < 2048 → encode c ≡ (192 + c / 64) ∷ next c ∷ []
unfolding encode
encode_two c low high = grind (arith, nat_tests, common_steps)

encode_three : (c : ℕ) → 2048 ≤ c → c < 65536 → encode c ≡ (224 + c / 4096) ∷ next (c / 64) ∷ next c ∷ []
unfolding encode
encode_three c low high = grind (arith, nat_tests, common_steps)

encode_four : (c : ℕ) → 65536 ≤ c → encode c ≡ (240 + c / 262144) ∷ next (c / 4096) ∷ next (c / 64) ∷ next c ∷ []
unfolding encode
encode_four c low = grind (arith, nat_tests, common_steps)

encode_one : (c : ℕ) → c < 128 → encode c ≡ c ∷ []
unfolding encode
encode_one c low = grind (arith, nat_tests, common_steps)

-- the text ends with this character in place of the one that was cut
instead : (t u w : List ℕ) (d : ℕ) → CharEnd u → IsScalar d → encode d ≡ t ++ u → length u ≤ length w → EndsText t w
instead t u w d end is e short = (u, end, subst IsUtf8 e (IsUtf8-encode d is), short)

scalar_high : (d : ℕ) → 57344 ≤ d → d < 1114112 → scalar d ≡ true
scalar_high d low high = grind (arith, nat_tests, common_steps)

nothing : (w : List ℕ) → EndsText [] w
nothing w = ([], none, IsUtf8-nil, omega arith)

ends_one : (c : ℕ) (t w : List ℕ) → c ∷ [] ≡ t ++ w → 0 < length w → EndsText t w
ends_one c [] w e some = nothing w
ends_one c (a ∷ t) w e some = absurd (omega (arith, ap length e, length-append t w))

ends_two : (c : ℕ) (t w : List ℕ) → 128 ≤ c → c < 2048 → (192 + c / 64) ∷ next c ∷ [] ≡ t ++ w → 0 < length w → EndsText t w
ends_two c [] w low high e some = nothing w
ends_two c (a ∷ []) w low high e some =
    let d = c / 64 * 64 in
    let first : a ≡ 192 + c / 64 = cc in
    let x : d / 64 ≡ c / 64 = omega arith in
    let y : d % 64 ≡ 0 = omega arith in
    let text : encode d ≡ a ∷ 128 ∷ [] = encode_two d (omega arith) (omega arith) ∙ rw (x, y, first) refl in
    instead (a ∷ []) (128 ∷ []) w d one (low_scalar d (omega arith)) text (omega (arith, some))
ends_two c (a ∷ b ∷ t) w low high e some = absurd (omega (arith, ap length e, length-append t w, some))

ends_three : (c : ℕ) (t w : List ℕ) → 2048 ≤ c → c < 65536 → IsScalar c → (224 + c / 4096) ∷ next (c / 64) ∷ next c ∷ [] ≡ t ++ w → 0 < length w → EndsText t w
ends_three c [] w low high is e some = nothing w
ends_three c (a ∷ []) w low high is e some = by_first (cases_lt c 4096)
  where
    first : a ≡ 224 + c / 4096
    first = cc

    long : length w ≡ 2
    long = omega (arith, ap length e)

    by_first : (c < 4096) ⊎ (4096 ≤ c) → EndsText (a ∷ []) w
    by_first (inl little) =
        let a_is : a ≡ 224 = omega (arith, first, little) in
        instead (a ∷ []) (160 ∷ 128 ∷ []) w 2048 two_high (low_scalar 2048 (omega arith)) (encode_three 2048 (omega arith) (omega arith) ∙ rw a_is refl) (omega (arith, long))
    by_first (inr more) =
        let d = c / 4096 * 4096 in
        let x : d / 4096 ≡ c / 4096 = omega arith in
        let y : d / 64 % 64 ≡ 0 = omega arith in
        let z : d % 64 ≡ 0 = omega arith in
        let text : encode d ≡ a ∷ 128 ∷ 128 ∷ [] = encode_three d (omega (arith, more)) (omega (arith, high)) ∙ rw (x, y, z, first) refl in
        let range : IsScalar d = elim (scalar_cases c is) [ inl h ↦ low_scalar d (omega arith) | inr h ↦ scalar_high d (omega arith) (omega arith) ] in
        instead (a ∷ []) (128 ∷ 128 ∷ []) w d two range text (omega (arith, long))
ends_three c (a ∷ b ∷ []) w low high is e some =
    let d = c / 64 * 64 in
    let first : a ≡ 224 + c / 4096 = cc in
    let second : b ≡ next (c / 64) = cc in
    let x : d / 64 ≡ c / 64 = omega arith in
    let y : d % 64 ≡ 0 = omega arith in
    let z : d / 4096 ≡ c / 4096 = omega arith in
    let text : encode d ≡ a ∷ b ∷ 128 ∷ [] = encode_three d (omega arith) (omega arith) ∙ rw (z, x, y, first, second) refl in
    let range : IsScalar d = elim (scalar_cases c is) [ inl h ↦ low_scalar d (omega arith) | inr h ↦ scalar_high d (omega arith) (omega arith) ] in
    instead (a ∷ b ∷ []) (128 ∷ []) w d one range text (omega (arith, some))
ends_three c (a ∷ b ∷ x ∷ t) w low high is e some = absurd (omega (arith, ap length e, length-append t w, some))

ends_four : (c : ℕ) (t w : List ℕ) → 65536 ≤ c → c < 1114112 → (240 + c / 262144) ∷ next (c / 4096) ∷ next (c / 64) ∷ next c ∷ [] ≡ t ++ w → 0 < length w → EndsText t w
ends_four c [] w low high e some = nothing w
ends_four c (a ∷ []) w low high e some = by_first (cases_lt c 262144)
  where
    first : a ≡ 240 + c / 262144
    first = cc

    long : length w ≡ 3
    long = omega (arith, ap length e)

    by_first : (c < 262144) ⊎ (262144 ≤ c) → EndsText (a ∷ []) w
    by_first (inl little) =
        let a_is : a ≡ 240 = omega (arith, first, little) in
        instead (a ∷ []) (144 ∷ 128 ∷ 128 ∷ []) w 65536 three_high (scalar_high 65536 (omega arith) (omega arith)) (encode_four 65536 (omega arith) ∙ rw a_is refl) (omega (arith, long))
    by_first (inr more) =
        let d = c / 262144 * 262144 in
        let x : d / 262144 ≡ c / 262144 = omega arith in
        let y : d / 4096 % 64 ≡ 0 = omega arith in
        let z : d / 64 % 64 ≡ 0 = omega arith in
        let u : d % 64 ≡ 0 = omega arith in
        let text : encode d ≡ a ∷ 128 ∷ 128 ∷ 128 ∷ [] = encode_four d (omega (arith, more)) ∙ rw (x, y, z, u, first) refl in
        instead (a ∷ []) (128 ∷ 128 ∷ 128 ∷ []) w d three (scalar_high d (omega (arith, more)) (omega (arith, high))) text (omega (arith, long))
ends_four c (a ∷ b ∷ []) w low high e some =
    let d = c / 4096 * 4096 in
    let first : a ≡ 240 + c / 262144 = cc in
    let second : b ≡ next (c / 4096) = cc in
    let long : length w ≡ 2 = omega (arith, ap length e) in
    let x : d / 262144 ≡ c / 262144 = omega arith in
    let y : d / 4096 ≡ c / 4096 = omega arith in
    let z : d / 64 % 64 ≡ 0 = omega arith in
    let u : d % 64 ≡ 0 = omega arith in
    let text : encode d ≡ a ∷ b ∷ 128 ∷ 128 ∷ [] = encode_four d (omega (arith, low)) ∙ rw (x, y, z, u, first, second) refl in
    instead (a ∷ b ∷ []) (128 ∷ 128 ∷ []) w d two (scalar_high d (omega (arith, low)) (omega (arith, high))) text (omega (arith, long))
ends_four c (a ∷ b ∷ x ∷ []) w low high e some =
    let d = c / 64 * 64 in
    let first : a ≡ 240 + c / 262144 = cc in
    let second : b ≡ next (c / 4096) = cc in
    let third : x ≡ next (c / 64) = cc in
    let v : d / 262144 ≡ c / 262144 = omega arith in
    let y : d / 4096 ≡ c / 4096 = omega arith in
    let z : d / 64 ≡ c / 64 = omega arith in
    let u : d % 64 ≡ 0 = omega arith in
    let text : encode d ≡ a ∷ b ∷ x ∷ 128 ∷ [] = encode_four d (omega (arith, low)) ∙ rw (v, y, z, u, first, second, third) refl in
    instead (a ∷ b ∷ x ∷ []) (128 ∷ []) w d one (scalar_high d (omega (arith, low)) (omega (arith, high))) text (omega (arith, some))
ends_four c (a ∷ b ∷ x ∷ y ∷ t) w low high e some = absurd (omega (arith, ap length e, length-append t w, some))

-- a character that was cut
ends_char : (c : ℕ) (t w : List ℕ) → IsScalar c → encode c ≡ t ++ w → 0 < length w → EndsText t w
ends_char c t w is e some = elim (cases_lt c 128) [
  | inl ascii ↦ ends_one c t w (sym (encode_one c ascii) ∙ e) some
  | inr more ↦ elim (cases_lt c 2048) [
    | inl low ↦ ends_two c t w more low (sym (encode_two c more low) ∙ e) some
    | inr next_ ↦ elim (cases_lt c 65536) [
      | inl plane ↦ ends_three c t w next_ plane is (sym (encode_three c next_ plane) ∙ e) some
      | inr high ↦ ends_four c t w high (below c is) (sym (encode_four c high) ∙ e) some
    ]
  ]
]
  where
    below : (c : ℕ) → IsScalar c → c < 1114112
    below c is = elim (scalar_cases c is) [ inl h ↦ omega arith | inr h ↦ omega arith ]

ends_chars : (cs t w : List ℕ) → scalars cs ≡ true → encodes cs ≡ t ++ w → EndsText t w
ends_chars [] [] w all e = nothing w
ends_chars [] (a ∷ t) w all e = absurd (cc)
ends_chars (c ∷ cs) t w all e =
    let both = and_parts (scalar c) (scalars cs) all in
    on (cut t w (encode c) (encodes cs) (sym e)) both.0 (λ x f. ends_chars cs x w both.1 f)
  where
    on : StopsInside t w (encode c) (encodes cs) ⊎ GoesPast t w (encode c) (encodes cs) → IsScalar c → ((x : List ℕ) → encodes cs ≡ x ++ w → EndsText x w) → EndsText t w
    on (inl x) is more =
        let y = ends_char c t x.left is x.first_is x.some in
        (y.0, y.1, y.2, omega (arith, y.3, ap length x.more_is, length-append x.left (encodes cs)))
    on (inr x) is more =
        let y = more x.behind (sym x.rest_is) in
        let text : t ++ y.0 ≡ encode c ++ (x.behind ++ y.0) = ap (λ (l : List ℕ). l ++ y.0) x.bytes_are ∙ append_assoc (encode c) x.behind y.0 in
        (y.0, y.1, subst IsUtf8 (sym text) (IsUtf8-append (encode c) (x.behind ++ y.0) (IsUtf8-encode c is) y.2), y.3)

-- a text that some bytes end is ended by few
pub ends_text : (t w : List ℕ) → IsUtf8 (t ++ w) → EndsText t w
ends_text t w is = ends_chars is.0 t w is.1.0 is.1.1
