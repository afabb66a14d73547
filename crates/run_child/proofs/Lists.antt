-- Lists, and known bytes.
use Rattle.std.proofs.Common.{◌≡◌, ℕ, zero, suc, ◌+◌, ◌<◌, ◌≤◌, zero-add, suc-add, List, [], ◌∷◌, ◌++◌, length, take, drop, Option, None, Some, refl, sym, ap, ◌∙◌, subst, append_assoc, arith}
use Rattle.std.proofs.lemmas.List.{length-append}
use Rattle.std.specs.Io.KnownBytes.{Appends, Consumes, Keeps}
use Rattle.std.proofs.KnownBytes.{Appends-trans, Consumes-trans}
use Rattle.run_child.specs.Talk.{AppendsPart, Heard, Place}

abbrev no_bytes : List ℕ
no_bytes = []

take_nil : (m : ℕ) → take m [] ≡ no_bytes
take_nil zero = refl
take_nil (suc m) = refl

pub take_two : (n m : ℕ) (xs : List ℕ) → take n xs ++ take m (drop n xs) ≡ take (n + m) xs
take_two zero m xs = rw zero-add refl
take_two (suc n) m [] = rw (suc-add) (take_nil m)
take_two (suc n) m (x ∷ xs) = rw (suc-add) (ap (λ ys. x ∷ ys) (take_two n m xs))

-- ---- what is read

pub heard_two : (a b c : Place) (xs ys : List ℕ) → Heard xs a b → Heard ys b c → Heard (xs ++ ys) a c
heard_two a b c xs ys p q = record {
  read = Consumes-trans a.left b.left c.left xs ys p.read q.read;
  counted = omega (arith, p.counted, q.counted, length-append xs ys);
}

-- ---- what is written

-- a part of the front is a part of the whole
pub take_front : (n : ℕ) (xs ys : List ℕ) → n ≤ length xs → take n (xs ++ ys) ≡ take n xs
take_front zero xs ys h = refl
take_front (suc n) [] ys h = absurd (omega (arith, h))
take_front (suc n) (x ∷ xs) ys h = ap (λ rest. x ∷ rest) (take_front n xs ys (omega (arith, h)))

pub take_self : (xs : List ℕ) → take (length xs) xs ≡ xs
take_self [] = refl
take_self (x ∷ xs) = ap (λ rest. x ∷ rest) (take_self xs)

pub length_front : (n : ℕ) (xs : List ℕ) → n ≤ length xs → length (take n xs) ≡ n
length_front zero xs h = refl
length_front (suc n) [] h = absurd (omega (arith, h))
length_front (suc n) (x ∷ xs) h = ap (λ k. suc k) (length_front n xs (omega (arith, h)))

take_behind : (m : ℕ) (xs ys : List ℕ) → take (length xs + m) (xs ++ ys) ≡ xs ++ take m ys
take_behind m [] ys = rw zero-add refl
take_behind m (x ∷ xs) ys = rw (suc-add) (ap (λ rest. x ∷ rest) (take_behind m xs ys))

pub part_of_front : (a b : Option (List ℕ)) (text more : List ℕ) → AppendsPart a b text → AppendsPart a b (text ++ more)
part_of_front a b text more p = (
  p.0,
  omega (arith, p.1, length-append text more),
  subst (λ bytes. Appends a b bytes) (sym (take_front p.0 text more (omega (arith, p.1)))) p.2,
)

pub part_behind : (a b c : Option (List ℕ)) (text more : List ℕ) → Appends a b text → AppendsPart b c more
    → AppendsPart a c (text ++ more)
part_behind a b c text more p q = (
  length text + q.0,
  omega (arith, q.1, length-append text more),
  subst (λ bytes. Appends a c bytes) (sym (take_behind q.0 text more)) (Appends-trans a b c text (take q.0 more) p q.2),
)
