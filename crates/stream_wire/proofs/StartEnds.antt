-- Parts of start lines that stop anywhere.
use Rattle.std.proofs.Common.{◌≡◌, ℕ, ◌∷◌, ◌<◌, ◌≤◌, ◌⊎◌, inl, inr, List, [], ◌++◌, length, drop, refl, sym, ap, ◌∙◌, arith, append_assoc, length-append, flat_map}
use Rattle.httparse.specs.Grammar.{LineEnd, lf, crlf, print_end, print_blank, Field, print_field, print_section}
use Rattle.stream_wire.proofs.Cuts.{cut, StopsInside, GoesPast}

-- ---- empty lines

-- empty lines that stop anywhere are empty lines with one more line feed
pub blank_cut : (es : List LineEnd) (b w : List ℕ) → print_blank es ≡ b ++ w → (fs : List LineEnd) × (b ++ 10 ∷ [] ≡ print_blank fs)
blank_cut [] [] w e = (lf ∷ [], refl)
blank_cut [] (c ∷ b) w e = absurd (cc)
blank_cut (x ∷ es) b w e = on (cut b w (print_end x) (print_blank es) (sym e)) (λ y f. blank_cut es y w f)
  where
    inside : (x : LineEnd) (b left : List ℕ) → print_end x ≡ b ++ left → 0 < length left → (fs : List LineEnd) × (b ++ 10 ∷ [] ≡ print_blank fs)
    inside x [] left e some = (lf ∷ [], refl)
    inside crlf (c ∷ []) left e some = let first : c ≡ 13 = cc in (crlf ∷ [], ap (λ (y : ℕ). y ∷ 10 ∷ []) first)
    inside crlf (c ∷ d ∷ b) left e some = absurd (omega (arith, ap length e, length-append b left))
    inside lf (c ∷ b) left e some = absurd (omega (arith, ap length e, length-append b left))

    on : StopsInside b w (print_end x) (print_blank es) ⊎ GoesPast b w (print_end x) (print_blank es)
        → ((y : List ℕ) → print_blank es ≡ y ++ w → (fs : List LineEnd) × (y ++ 10 ∷ [] ≡ print_blank fs)) → (fs : List LineEnd) × (b ++ 10 ∷ [] ≡ print_blank fs)
    on (inl s) more = inside x b s.left s.first_is s.some
    on (inr s) more =
        let y = more s.behind (sym s.rest_is) in
        (x ∷ y.0, ap (λ (l : List ℕ). l ++ 10 ∷ []) s.bytes_are ∙ append_assoc (print_end x) s.behind (10 ∷ []) ∙ ap (λ (l : List ℕ). print_end x ++ l) y.1)

-- ---- words of the protocol

-- a word that stops before its last byte is a front of the word
pub literal_end : (word b y tail : List ℕ) (d : ℕ) → word ++ d ∷ [] ≡ b ++ y → 0 < length y → b ++ drop (length b) (word ++ tail) ≡ word ++ tail
literal_end word [] y tail d e some = refl
literal_end [] (c ∷ b) y tail d e some = absurd (omega (arith, ap length e, length-append b y, some))
literal_end (l ∷ word) (c ∷ b) y tail d e some =
    let same : c ≡ l = cc in
    let rest : word ++ d ∷ [] ≡ b ++ y = cc in
    ap (λ (x : ℕ). x ∷ (b ++ drop (length b) (word ++ tail))) same ∙ ap (λ (t : List ℕ). l ∷ t) (literal_end word b y tail d rest some)

-- how many bytes of it have come
pub literal_short : (word b y : List ℕ) (d : ℕ) → word ++ d ∷ [] ≡ b ++ y → 0 < length y → length b ≤ length word
literal_short word b y d e some = omega (arith, ap length e, length-append b y, length-append word (d ∷ []), some)

-- ---- the end of a line

pub end_cut : (x : LineEnd) (b left : List ℕ) → print_end x ≡ b ++ left → 0 < length left → (y : LineEnd) × (b ++ 10 ∷ [] ≡ print_end y)
end_cut x [] left e some = (lf, refl)
end_cut crlf (c ∷ []) left e some = let first : c ≡ 13 = cc in (crlf, ap (λ (z : ℕ). z ∷ 10 ∷ []) first)
end_cut crlf (c ∷ d ∷ b) left e some = absurd (omega (arith, ap length e, length-append b left))
end_cut lf (c ∷ b) left e some = absurd (omega (arith, ap length e, length-append b left))

pub end_some : (x : LineEnd) → 0 < length (print_end x)
end_some crlf = omega arith
end_some lf = omega arith

pub section_some : (fields : List Field) (last : LineEnd) → 0 < length (print_section fields last)
section_some fields last = omega (arith, length-append (flat_map print_field fields) (print_end last), end_some last)
