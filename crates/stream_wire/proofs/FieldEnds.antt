-- How the fields of a head that is taken can end, wherever their bytes stop.
use Rattle.std.proofs.Common.{◌≡◌, ℕ, suc, ◌∷◌, ◌<◌, ◌≤◌, ◌⊎◌, inl, inr, List, [], ◌++◌, length, map, get_or, true, false, Option, Some, None, option_map, option_and_then, refl, sym, ap, ◌∙◌, arith, codes, append_assoc, length-append, flat_map}
use Rattle.std.proofs.lemmas.Bool.{cases_Bool}
use Rattle.std.proofs.lemmas.List.{map-append}
use Rattle.std.proofs.lemmas.Slice.Eq.{bytes_eq-Decides}
use Rattle.std.specs.Char.{to_ascii_lowercase}
use Rattle.httparse.specs.Grammar.{LineEnd, lf, crlf, print_end, Field, print_field}
use Rattle.httparse.specs.Spans.{name_and_value}
use Rattle.stream_wire.specs.Head.{decimal_of, joined, is_called, with_field, framing, framing_of}
use Rattle.stream_wire.proofs.Cuts.{cut, StopsInside, GoesPast}

-- ---- what fields say, one after another

and_some : {A B : Type 0} (g : A → Option B) (o : Option A) (b : B) → option_and_then g o ≡ Some b → (a : A) × (o ≡ Some a) × (g a ≡ Some b)
and_some g None b e = absurd (cc)
and_some g (Some a) b e = (a, refl, e)

abbrev pub Said : Type 0
Said = List ℕ × List ℕ

framing-append : (so_far : Option ℕ) (xs ys : List Said) (s : Option ℕ) → framing so_far xs ≡ Some s → framing so_far (xs ++ ys) ≡ framing s ys
framing-append so_far [] ys s e = let same : so_far ≡ s = cc in ap (λ (x : Option ℕ). framing x ys) same
framing-append so_far (x ∷ xs) ys s e =
    let step = and_some (λ (n : Option ℕ). framing n xs) (with_field so_far x) s e in
    rw step.1 (framing-append step.0 xs ys s step.2)

framing-front : (so_far : Option ℕ) (xs ys : List Said) (t : Option ℕ) → framing so_far (xs ++ ys) ≡ Some t → (s : Option ℕ) × (framing so_far xs ≡ Some s) × (framing s ys ≡ Some t)
framing-front so_far [] ys t e = (so_far, refl, e)
framing-front so_far (x ∷ xs) ys t e =
    let step = and_some (λ (n : Option ℕ). framing n (xs ++ ys)) (with_field so_far x) t e in
    let more = framing-front step.0 xs ys t step.2 in
    (more.0, ap (λ (o : Option (Option ℕ)). option_and_then (λ (n : Option ℕ). framing n xs) o) step.1 ∙ more.1, more.2)

-- the length before a field, and the one behind it
pub parts_framed : (fs gs : List Field) (f : Field) (len : Option ℕ) → framing_of (fs ++ f ∷ gs) ≡ Some len
    → (s : Option ℕ) × (framing_of fs ≡ Some s) × (t : Option ℕ) × (with_field s (name_and_value f) ≡ Some t)
parts_framed fs gs f len e =
    let split : framing None (map name_and_value fs ++ (name_and_value f ∷ map name_and_value gs)) ≡ Some len =
    ap (λ (l : List Said). framing None l) (sym (map-append name_and_value fs (f ∷ gs))) ∙ e in
    let a = framing-front None (map name_and_value fs) (name_and_value f ∷ map name_and_value gs) len split in
    let b = and_some (λ (n : Option ℕ). framing n (map name_and_value gs)) (with_field a.0 (name_and_value f)) len a.2 in
    (a.0, a.1, b.0, b.1)

pub one_more_framed : (fs : List Field) (f : Field) (s t : Option ℕ) → framing_of fs ≡ Some s → with_field s (name_and_value f) ≡ Some t → framing_of (fs ++ f ∷ []) ≡ Some t
one_more_framed fs f s t e g =
    ap (λ (l : List Said). framing None l) (map-append name_and_value fs (f ∷ []))
    ∙ framing-append None (map name_and_value fs) (name_and_value f ∷ []) s e ∙ rw g refl

-- ---- what one field says

abbrev pub coded : List ℕ
coded = codes "transfer-encoding"

abbrev pub sized : List ℕ
sized = codes "content-length"

pub not_coded : (s t : Option ℕ) (f : Said) → with_field s f ≡ Some t → is_called coded f.0 ≡ false
unfolding with_field
not_coded s t f e = elim (cases_Bool (is_called coded f.0)) [
  | inl is ↦ let x = rw is at e in absurd (cc)
  | inr other ↦ other
]

pub says_nothing : (s : Option ℕ) (f : Said) → is_called coded f.0 ≡ false → is_called sized f.0 ≡ false → with_field s f ≡ Some s
unfolding with_field
says_nothing s f a b = rw (a, b) refl

map_some : (o : Option ℕ) (t : Option ℕ) → option_map Some o ≡ Some t → (m : ℕ) × (o ≡ Some m)
map_some None t e = absurd (cc)
map_some (Some m) t e = (m, refl)

joined_some : (s o : Option ℕ) (m : ℕ) → joined s o ≡ Some m → (n : ℕ) × (o ≡ Some n) × (joined s (Some n) ≡ Some m)
joined_some s None m e = absurd (cc)
joined_some s (Some n) m e = (n, refl, e)

-- a length that agrees
pub length_said : (s t : Option ℕ) (f : Said) → with_field s f ≡ Some t → is_called sized f.0 ≡ true → (n : ℕ) × (decimal_of f.1 ≡ Some n) × (m : ℕ) × (joined s (Some n) ≡ Some m)
unfolding with_field
length_said s t f e is =
    let none = not_coded s t f e in
    let x : option_map Some (joined s (decimal_of f.1)) ≡ Some t = rw (none, is) at e in
    let y = map_some (joined s (decimal_of f.1)) t x in
    let z = joined_some s (decimal_of f.1) y.0 y.1 in
    (z.0, z.1, y.0, z.2)

pub says_length : (s : Option ℕ) (f : Said) (n : ℕ) → is_called coded f.0 ≡ false → is_called sized f.0 ≡ true → decimal_of f.1 ≡ Some n → joined s (Some n) ≡ Some n → with_field s f ≡ Some (Some n)
unfolding with_field
says_length s f n a b e g = rw (a, b, e, g) refl

-- ---- a name that goes on

last_is : (xs : List ℕ) (a : ℕ) → get_or (xs ++ a ∷ []) (length xs) 0 ≡ a
last_is [] a = refl
last_is (x ∷ xs) a = last_is xs a

lower-push : (p : List ℕ) → map to_ascii_lowercase (p ++ 120 ∷ []) ≡ map to_ascii_lowercase p ++ 120 ∷ []
lower-push p = map-append to_ascii_lowercase p (120 ∷ [])

no_word : (p word : List ℕ) (n last : ℕ) → length word ≡ suc n → get_or word n 0 ≡ last → (last ≡ 120 → ⊥) → is_called word (p ++ 120 ∷ []) ≡ false
no_word p word n last len is other = elim (cases_Bool (is_called word (p ++ 120 ∷ []))) [
  | inl same ↦ (
      let e : map to_ascii_lowercase (p ++ 120 ∷ []) ≡ word = (bytes_eq-Decides (map to_ascii_lowercase (p ++ 120 ∷ [])) word).0 same in
      let g : map to_ascii_lowercase p ++ 120 ∷ [] ≡ word = sym (lower-push p) ∙ e in
      let l : length (map to_ascii_lowercase p) ≡ n = omega (arith, ap length g, length-append (map to_ascii_lowercase p) (120 ∷ []), len) in
      let a : get_or word n 0 ≡ 120 = ap (λ (x : List ℕ). get_or x n 0) (sym g) ∙ ap (λ (k : ℕ). get_or (map to_ascii_lowercase p ++ 120 ∷ []) k 0) (sym l) ∙ last_is (map to_ascii_lowercase p) 120 in
      absurd (other (sym is ∙ a)))
  | inr differs ↦ differs
]

pub longer_not_coded : (p : List ℕ) → is_called coded (p ++ 120 ∷ []) ≡ false
longer_not_coded p = no_word p coded 16 103 refl refl (λ e. omega arith)

pub longer_not_sized : (p : List ℕ) → is_called sized (p ++ 120 ∷ []) ≡ false
longer_not_sized p = no_word p sized 13 104 refl refl (λ e. omega arith)

-- ---- where bytes stop in the fields

pub record InField (fields : List Field) (b w : List ℕ) : Type 0 where
  pub fs : List Field
  pub f : Field
  pub gs : List Field
  pub p : List ℕ
  pub q : List ℕ
  pub fields_are : fields ≡ fs ++ f ∷ gs
  pub b_is : b ≡ flat_map print_field fs ++ p
  pub field_is : print_field f ≡ p ++ q
  pub some : 0 < length q
  pub long : suc (length q) ≤ length w

pub record InEnd (fields : List Field) (last : LineEnd) (b w : List ℕ) : Type 0 where
  pub p : List ℕ
  pub b_is : b ≡ flat_map print_field fields ++ p
  pub end_is : p ++ w ≡ print_end last

end_some : (last : LineEnd) → 0 < length (print_end last)
end_some crlf = omega arith
end_some lf = omega arith

pub fields_cut : (fields : List Field) (last : LineEnd) (b w : List ℕ) → b ++ w ≡ flat_map print_field fields ++ print_end last → InField fields b w ⊎ InEnd fields last b w
fields_cut [] last b w e = inr (record { p = b; b_is = refl; end_is = e })
fields_cut (f ∷ fields) last b w e = on (cut b w (print_field f) (flat_map print_field fields ++ print_end last) (e ∙ append_assoc (print_field f) (flat_map print_field fields) (print_end last))) (λ x. fields_cut fields last x w)
  where
    behind : (x : GoesPast b w (print_field f) (flat_map print_field fields ++ print_end last)) → InField fields x.behind w ⊎ InEnd fields last x.behind w → InField (f ∷ fields) b w ⊎ InEnd (f ∷ fields) last b w
    behind x (inl y) = inl (record {
      fs = f ∷ y.fs;
      f = y.f;
      gs = y.gs;
      p = y.p;
      q = y.q;
      fields_are = ap (λ (l : List Field). f ∷ l) y.fields_are;
      b_is = x.bytes_are ∙ ap (λ (l : List ℕ). print_field f ++ l) y.b_is ∙ sym (append_assoc (print_field f) (flat_map print_field y.fs) y.p);
      field_is = y.field_is;
      some = y.some;
      long = y.long;
    })
    behind x (inr y) = inr (record {
      p = y.p;
      b_is = x.bytes_are ∙ ap (λ (l : List ℕ). print_field f ++ l) y.b_is ∙ sym (append_assoc (print_field f) (flat_map print_field fields) y.p);
      end_is = y.end_is;
    })

    on : StopsInside b w (print_field f) (flat_map print_field fields ++ print_end last) ⊎ GoesPast b w (print_field f) (flat_map print_field fields ++ print_end last)
        → ((x : List ℕ) → x ++ w ≡ flat_map print_field fields ++ print_end last → InField fields x w ⊎ InEnd fields last x w) → InField (f ∷ fields) b w ⊎ InEnd (f ∷ fields) last b w
    on (inl x) more = inl (record {
      fs = [];
      f = f;
      gs = fields;
      p = b;
      q = x.left;
      fields_are = refl;
      b_is = refl;
      field_is = x.first_is;
      some = x.some;
      long = omega (arith, ap length x.more_is, length-append x.left (flat_map print_field fields ++ print_end last), length-append (flat_map print_field fields) (print_end last), end_some last);
    })
    on (inr x) more = behind x (more x.behind x.rest_is)
