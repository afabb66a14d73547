-- A section of fields that stops anywhere is ended by few bytes, where any bytes end it.
use Rattle.std.proofs.Common.{◌≡◌, ℕ, suc, ◌∷◌, ◌+◌, ◌<◌, ◌≤◌, ◌⊎◌, inl, inr, List, [], ◌++◌, length, drop, true, false, IsTrue, All, Option, Some, unwrap_or, refl, sym, ap, ◌∙◌, subst, arith, append_assoc, append-nil, length-append, flat_map}
use Rattle.std.proofs.lemmas.Grind.{flat_map-append}
use Rattle.std.proofs.lemmas.Bool.{cases_Bool}
use Rattle.std.proofs.lemmas.List.Elements.{All-nil, All-cons, All-append, All-head, All-tail, All-weaker}
use Rattle.std.specs.Char.{is_ascii_digit}
use Rattle.std.specs.Str.Parse.{AllDigits}
use Rattle.httparse.specs.Grammar.{LineEnd, lf, crlf, print_end, Field, print_field, IsField, is_token_byte, is_value_byte, AllPass, trim_ows, print_section}
use Rattle.httparse.specs.Spans.{name_and_value}
use Rattle.httparse.proofs.GrammarLemmas.{cons-append}
use Rattle.stream_wire.specs.Head.{decimal_of, is_called, with_field, framing_of}
use Rattle.stream_wire.proofs.Cuts.{cut, StopsInside, GoesPast}
use Rattle.stream_wire.proofs.Digits.{AllPass-front, AllDigits-drop, digits_pass, is_value, says}
use Rattle.stream_wire.proofs.FieldEnds.{parts_framed, one_more_framed, sized, not_coded, says_nothing, length_said, says_length, longer_not_coded, longer_not_sized, InField, InEnd, fields_cut}
use Rattle.stream_wire.specs.Ends.{IsPadded, name_end}
use Rattle.stream_wire.proofs.ValueEnds.{ends_value}

abbrev pub blank_end : List ℕ
blank_end = 10 ∷ 10 ∷ []

-- the ends that are tried: a part of one behind a name, or some last digits
abbrev pub IsFieldEnd : List ℕ → List ℕ → Type 0
IsFieldEnd digits end = ((at : ℕ) × (at ≤ 3) × (end ≡ drop at name_end)) ⊎ ((at : ℕ) × (at ≤ 20) × (end ≡ drop at digits ++ blank_end))

-- bytes with this end are a section that is taken, and no longer than with another
pub record EndsSection (b w end : List ℕ) : Type 0 where
  pub fields : List Field
  pub last : LineEnd
  pub are : All IsField fields
  pub text : b ++ end ≡ print_section fields last
  pub few : length fields ≤ 128
  pub len : Option ℕ
  pub framed : framing_of fields ≡ Some len
  pub short : length end ≤ length w

-- the length said before the field in which bytes stop, where a digit ends it
abbrev pub SaysBefore : List ℕ → ℕ → Type 0
SaysBefore b k =
    (fs : List Field) (f : Field) (s : Option ℕ) → All IsField (fs ++ f ∷ []) → length (fs ++ f ∷ []) ≤ 128
    → b ++ 48 ∷ 10 ∷ 10 ∷ [] ≡ print_section (fs ++ f ∷ []) lf → framing_of fs ≡ Some s → k ≡ unwrap_or s 0

print_one_more : (fs : List Field) (g : Field) → print_section (fs ++ g ∷ []) lf ≡ flat_map print_field fs ++ (print_field g ++ 10 ∷ [])
print_one_more fs g =
    ap (λ (l : List ℕ). l ++ 10 ∷ []) (flat_map-append print_field fs (g ∷ []))
    ∙ ap (λ (l : List ℕ). flat_map print_field fs ++ l ++ 10 ∷ []) (append-nil (print_field g)) ∙ append_assoc (flat_map print_field fs) (print_field g) (10 ∷ [])

one_more_text : (fs : List Field) (g : Field) (b p end : List ℕ) → b ≡ flat_map print_field fs ++ p → p ++ end ≡ print_field g ++ 10 ∷ [] → b ++ end ≡ print_section (fs ++ g ∷ []) lf
one_more_text fs g b p end e h =
    ap (λ (l : List ℕ). l ++ end) e ∙ append_assoc (flat_map print_field fs) p end ∙ ap (λ (l : List ℕ). flat_map print_field fs ++ l) h ∙ sym (print_one_more fs g)

new_section : (fs : List Field) (g : Field) (b p w end : List ℕ) (s t : Option ℕ) → All IsField fs → IsField g → suc (length fs) ≤ 128
    → framing_of fs ≡ Some s → with_field s (name_and_value g) ≡ Some t → b ≡ flat_map print_field fs ++ p → p ++ end ≡ print_field g ++ 10 ∷ [] → length end ≤ length w
    → EndsSection b w end
new_section fs g b p w end s t are is few framed says e h short = record {
  fields = fs ++ g ∷ [];
  last = lf;
  are = All-append IsField fs (g ∷ []) are (All-cons IsField g [] is (All-nil IsField));
  text = one_more_text fs g b p end e h;
  few = omega (arith, length-append fs (g ∷ []), few);
  len = t;
  framed = one_more_framed fs g s t framed says;
  short = short;
}

-- a field of which the name goes on by one byte
longer : List ℕ → Field
longer name = record { name = name ++ 120 ∷ []; raw = []; end = lf }

is_longer : (name : List ℕ) → AllPass is_token_byte name → IsField (longer name)
unfolding longer is_token_byte
is_longer name all = record {
  name = (omega (arith, length-append name (120 ∷ [])), All-append (λ b. IsTrue (is_token_byte b)) name (120 ∷ []) all (All-cons (λ b. IsTrue (is_token_byte b)) 120 [] refl (All-nil _)));
  raw = All-nil _;
}

longer_text : (name : List ℕ) → name ++ name_end ≡ print_field (longer name) ++ 10 ∷ []
unfolding longer
longer_text name = simp (append_assoc, cons-append)

longer_says : (s : Option ℕ) (name : List ℕ) → with_field s (name_and_value (longer name)) ≡ Some s
unfolding longer
longer_says s name = says_nothing s (name_and_value (longer name)) (longer_not_coded name) (longer_not_sized name)

abbrev plain : List ℕ → List ℕ → LineEnd → Field
plain name raw end = record { name = name; raw = raw; end = end }

colon_text : (name : List ℕ) → name ++ (58 ∷ 10 ∷ 10 ∷ []) ≡ print_field (plain name [] lf) ++ 10 ∷ []
colon_text name = simp (append_assoc, cons-append)

raw_text : (name raw e : List ℕ) → name ++ (58 ∷ raw) ++ (e ++ blank_end) ≡ print_field (plain name (raw ++ e) lf) ++ 10 ∷ []
raw_text name raw e = simp (append_assoc, cons-append)

-- ---- the field in which bytes stop

-- where the bytes stop: behind so many fields, in a field of which `p` has come and `q` has not
record Here (b w : List ℕ) : Type 0 where
  fs : List Field
  f : Field
  p : List ℕ
  q : List ℕ
  s : Option ℕ
  t : Option ℕ
  are : All IsField fs
  is : IsField f
  few : suc (length fs) ≤ 128
  framed : framing_of fs ≡ Some s
  says : with_field s (name_and_value f) ≡ Some t
  b_is : b ≡ flat_map print_field fs ++ p
  field_is : print_field f ≡ p ++ q
  some : 0 < length q
  long : suc (length q) ≤ length w

abbrev Ends : List ℕ → List ℕ → List ℕ → Type 0
Ends digits b w = (end : List ℕ) × IsFieldEnd digits end × EndsSection b w end

-- a part of the name has come, or nothing of it
ends_name : (digits b w : List ℕ) (h : Here b w) (left : List ℕ) → h.f.name ≡ h.p ++ left → 4 ≤ length w → Ends digits b w
ends_name digits b w h left name long = (
  name_end,
  inl (0, omega arith, refl),
  new_section h.fs (longer h.p) b h.p w name_end h.s h.s h.are (is_longer h.p (AllPass-front is_token_byte h.p left (subst (AllPass is_token_byte) name h.is.name.1))) h.few h.framed
      (longer_says h.s h.p) h.b_is (longer_text h.p) (omega (arith, long)),
)

-- the name has come, and it is no word that is looked at
ends_colon : (digits b w : List ℕ) (h : Here b w) → h.p ≡ h.f.name → is_called sized h.f.name ≡ false → 3 ≤ length w → Ends digits b w
ends_colon digits b w h p_is other long = (
  58 ∷ 10 ∷ 10 ∷ [],
  inl (1, omega arith, refl),
  new_section h.fs (plain h.f.name [] lf) b h.p w (58 ∷ 10 ∷ 10 ∷ []) h.s h.s h.are (record { name = h.is.name; raw = All-nil _ }) h.few h.framed
      (says_nothing h.s (name_and_value (plain h.f.name [] lf)) (not_coded h.s h.t (name_and_value h.f) h.says) other) h.b_is
      (ap (λ (l : List ℕ). l ++ (58 ∷ 10 ∷ 10 ∷ [])) p_is ∙ colon_text h.f.name) (omega (arith, long)),
)

-- a part of a value that is not looked at
ends_raw : (digits b w : List ℕ) (h : Here b w) (r left : List ℕ) → h.p ≡ h.f.name ++ (58 ∷ r) → h.f.raw ≡ r ++ left → is_called sized h.f.name ≡ false → 2 ≤ length w → Ends digits b w
ends_raw digits b w h r left p_is raw_is other long = (
  blank_end,
  inl (2, omega arith, refl),
  new_section h.fs (plain h.f.name (r ++ []) lf) b h.p w blank_end h.s h.s h.are
      (record { name = h.is.name; raw = AllPass-front is_value_byte (r ++ []) left (subst (AllPass is_value_byte) (raw_is ∙ ap (λ (l : List ℕ). l ++ left) (sym (append-nil r))) h.is.raw) }) h.few h.framed
      (says_nothing h.s (name_and_value (plain h.f.name (r ++ []) lf)) (not_coded h.s h.t (name_and_value h.f) h.says) other) h.b_is
      (ap (λ (l : List ℕ). l ++ blank_end) p_is ∙ raw_text h.f.name r []) (omega (arith, long)),
)

-- all of the value
ends_whole : (digits b w : List ℕ) (h : Here b w) (e : LineEnd) → h.p ++ blank_end ≡ print_field (plain h.f.name h.f.raw e) ++ 10 ∷ [] → 2 ≤ length w → Ends digits b w
ends_whole digits b w h e text long = (
  blank_end,
  inl (2, omega arith, refl),
  new_section h.fs (plain h.f.name h.f.raw e) b h.p w blank_end h.s h.t h.are (record { name = h.is.name; raw = h.is.raw }) h.few h.framed h.says h.b_is text (omega (arith, long)),
)

value_bytes : (ds : List ℕ) → AllDigits 10 ds → AllPass is_value_byte ds
value_bytes ds all = All-weaker (λ b. IsTrue (is_ascii_digit b)) (λ b. IsTrue (is_value_byte b)) is_value ds (digits_pass ds all)

-- a part of a length
ends_length : (digits b w : List ℕ) (k : ℕ) (h : Here b w) (r left : List ℕ) → SaysBefore b k → IsPadded k digits
    → h.p ≡ h.f.name ++ (58 ∷ r) → h.f.raw ≡ r ++ left → is_called sized h.f.name ≡ true → length left + 2 ≤ length w → Ends digits b w
ends_length digits b w k h r left before padded p_is raw_is called long =
    let none = not_coded h.s h.t (name_and_value h.f) h.says in
    let said = length_said h.s h.t (name_and_value h.f) h.says called in
    let front : AllPass is_value_byte r = AllPass-front is_value_byte r left (subst (AllPass is_value_byte) raw_is h.is.raw) in
    let zero_raw : AllPass is_value_byte (r ++ 48 ∷ []) = All-append (λ b. IsTrue (is_value_byte b)) r (48 ∷ []) front (All-cons (λ b. IsTrue (is_value_byte b)) 48 [] refl (All-nil _)) in
    let g = plain h.f.name (r ++ 48 ∷ []) lf in
    let text : b ++ 48 ∷ 10 ∷ 10 ∷ [] ≡ print_section (h.fs ++ g ∷ []) lf =
    one_more_text h.fs g b h.p (48 ∷ 10 ∷ 10 ∷ []) h.b_is (ap (λ (l : List ℕ). l ++ (48 ∷ 10 ∷ 10 ∷ [])) p_is ∙ raw_text h.f.name r (48 ∷ [])) in
    let k_is : k ≡ unwrap_or h.s 0 =
    before h.fs g h.s (All-append IsField h.fs (g ∷ []) h.are (All-cons IsField g [] (record { name = h.is.name; raw = zero_raw }) (All-nil IsField))) (omega (arith, length-append h.fs (g ∷ []), h.few)) text h.framed in
    let v = ends_value h.s r left digits said.0 said.2 (ap (λ (l : List ℕ). decimal_of (trim_ows l)) (sym raw_is) ∙ said.1) said.3 (subst (λ (x : ℕ). IsPadded x digits) k_is padded) in
    let tail : AllDigits 10 (drop v.at digits) = AllDigits-drop v.at digits padded.all in
    let now = plain h.f.name (r ++ drop v.at digits) lf in (
      drop v.at digits ++ blank_end,
      inr (v.at, omega (arith, v.within, padded.len), refl),
      new_section h.fs now b h.p w (drop v.at digits ++ blank_end) h.s (Some v.number) h.are
          (record { name = h.is.name; raw = All-append (λ b. IsTrue (is_value_byte b)) r (drop v.at digits) front (value_bytes (drop v.at digits) tail) }) h.few h.framed
          (says_length h.s (name_and_value now) v.number none called v.reads v.agrees) h.b_is
          (ap (λ (l : List ℕ). l ++ (drop v.at digits ++ blank_end)) p_is ∙ raw_text h.f.name r (drop v.at digits))
          (omega (arith, length-append (drop v.at digits) blank_end, v.short, long)),
    )

-- ---- put together

print_parts : (f : Field) → print_field f ≡ f.name ++ (58 ∷ (f.raw ++ print_end f.end))
print_parts f = append_assoc f.name (58 ∷ f.raw) (print_end f.end)

one_end : (e : LineEnd) → 0 < length (print_end e)
one_end crlf = omega arith
one_end lf = omega arith

-- a value that says a number is not empty
some_raw : (raw : List ℕ) (n : ℕ) → decimal_of (trim_ows raw) ≡ Some n → 0 < length raw
unfolding trim_ows
some_raw [] n e = absurd (cc)
some_raw (b ∷ raw) n e = omega arith

end_line : (digits b w : List ℕ) (h : Here b w) (e : LineEnd) (r behind : List ℕ) → h.f.end ≡ e → h.p ≡ h.f.name ++ (58 ∷ r) → r ≡ h.f.raw ++ behind → behind ++ h.q ≡ print_end e → Ends digits b w
end_line digits b w h e r [] is p_is r_is rest =
    ends_whole digits b w h lf (ap (λ (l : List ℕ). l ++ blank_end) (p_is ∙ ap (λ (l : List ℕ). h.f.name ++ (58 ∷ l)) r_is) ∙ whole_text h.f.name h.f.raw) (omega (arith, h.some, h.long))
  where
    whole_text : (name raw : List ℕ) → name ++ (58 ∷ raw ++ []) ++ blank_end ≡ print_field (plain name raw lf) ++ 10 ∷ []
    whole_text name raw = simp (append_assoc, cons-append)
end_line digits b w h lf r (c ∷ behind) is p_is r_is rest = absurd (omega (arith, h.some, ap length rest, length-append behind h.q))
end_line digits b w h crlf r (c ∷ []) is p_is r_is rest =
    let first : c ≡ 13 = cc in
    ends_whole digits b w h crlf (ap (λ (l : List ℕ). l ++ blank_end) (p_is ∙ ap (λ (l : List ℕ). h.f.name ++ (58 ∷ l)) (r_is ∙ ap (λ (x : ℕ). h.f.raw ++ x ∷ []) first)) ∙ cr_text h.f.name h.f.raw) (omega (arith, h.some, h.long))
  where
    cr_text : (name raw : List ℕ) → name ++ (58 ∷ raw ++ 13 ∷ []) ++ blank_end ≡ print_field (plain name raw crlf) ++ 10 ∷ []
    cr_text name raw = simp (append_assoc, cons-append)
end_line digits b w h crlf r (c ∷ d ∷ behind) is p_is r_is rest = absurd (omega (arith, h.some, ap length rest, length-append behind h.q))

ends_value_part : (digits b w : List ℕ) (k : ℕ) (h : Here b w) (r : List ℕ) → SaysBefore b k → IsPadded k digits → h.p ≡ h.f.name ++ (58 ∷ r)
    → StopsInside r h.q h.f.raw (print_end h.f.end) ⊎ GoesPast r h.q h.f.raw (print_end h.f.end) → Ends digits b w
ends_value_part digits b w k h r before padded p_is (inl x) =
    let l = one_end h.f.end in
    let long : length x.left + 2 ≤ length w = omega (arith, ap length x.more_is, length-append x.left (print_end h.f.end), h.long, l) in
    elim (cases_Bool (is_called sized h.f.name)) [
      | inl called ↦ ends_length digits b w k h r x.left before padded p_is x.first_is called long
      | inr other ↦ ends_raw digits b w h r x.left p_is x.first_is other (omega (arith, long))
    ]
ends_value_part digits b w k h r before padded p_is (inr x) = end_line digits b w h h.f.end r x.behind refl p_is x.bytes_are x.rest_is

ends_behind_name : (digits b w : List ℕ) (k : ℕ) (h : Here b w) (behind : List ℕ) → SaysBefore b k → IsPadded k digits → h.p ≡ h.f.name ++ behind
    → behind ++ h.q ≡ 58 ∷ (h.f.raw ++ print_end h.f.end) → Ends digits b w
ends_behind_name digits b w k h [] before padded p_is rest =
    let l = one_end h.f.end in
    let q_len : length h.q ≡ suc (length h.f.raw + length (print_end h.f.end)) = ap length rest ∙ ap suc (length-append h.f.raw (print_end h.f.end)) in
    let name : h.f.name ≡ h.p ++ [] = sym (append-nil (h.f.name)) ∙ sym p_is ∙ sym (append-nil h.p) in
    elim (cases_Bool (is_called sized h.f.name)) [
      | inl called ↦ (
          let said = length_said h.s h.t (name_and_value h.f) h.says called in
          let some = some_raw h.f.raw said.0 said.1 in
          ends_name digits b w h [] name (omega (arith, q_len, h.long, l, some)))
      | inr other ↦ ends_colon digits b w h (p_is ∙ append-nil h.f.name) other (omega (arith, q_len, h.long, l))
    ]
ends_behind_name digits b w k h (c ∷ r) before padded p_is rest =
    let first : c ≡ 58 = cc in
    let more : r ++ h.q ≡ h.f.raw ++ print_end h.f.end = cc in
    ends_value_part digits b w k h r before padded (p_is ∙ ap (λ (x : ℕ). h.f.name ++ x ∷ r) first) (cut r h.q h.f.raw (print_end h.f.end) more)

ends_here : (digits b w : List ℕ) (k : ℕ) (h : Here b w) → SaysBefore b k → IsPadded k digits
    → StopsInside h.p h.q h.f.name (58 ∷ (h.f.raw ++ print_end h.f.end)) ⊎ GoesPast h.p h.q h.f.name (58 ∷ (h.f.raw ++ print_end h.f.end)) → Ends digits b w
ends_here digits b w k h before padded (inl x) =
    let l = one_end h.f.end in
    ends_name digits b w h x.left x.first_is (omega (arith, ap length x.more_is, length-append x.left (58 ∷ (h.f.raw ++ print_end h.f.end)), length-append h.f.raw (print_end h.f.end), x.some, h.long, l))
ends_here digits b w k h before padded (inr x) = ends_behind_name digits b w k h x.behind before padded x.bytes_are x.rest_is

-- ---- the whole section

All-front : {A : Type 0} (P : A → Type 0) (xs ys : List A) → All P (xs ++ ys) → All P xs
All-front P [] ys all = All-nil P
All-front P (x ∷ xs) ys all = All-cons P x xs (All-head P x (xs ++ ys) all) (All-front P xs ys (All-tail P x (xs ++ ys) all))

All-back : {A : Type 0} (P : A → Type 0) (xs ys : List A) → All P (xs ++ ys) → All P ys
All-back P [] ys all = all
All-back P (x ∷ xs) ys all = All-back P xs ys (All-tail P x (xs ++ ys) all)

ends_last : (fields : List Field) (last : LineEnd) (b w p digits : List ℕ) (len : Option ℕ) → All IsField fields → length fields ≤ 128 → framing_of fields ≡ Some len → 0 < length w
    → b ≡ flat_map print_field fields ++ p → p ++ w ≡ print_end last → Ends digits b w
ends_last fields last b w [] digits len are few framed some b_is end_is = (
  10 ∷ [],
  inl (3, omega arith, refl),
  record {
    fields = fields;
    last = lf;
    are = are;
    text = ap (λ (l : List ℕ). l ++ 10 ∷ []) (b_is ∙ append-nil (flat_map print_field fields));
    few = few;
    len = len;
    framed = framed;
    short = omega (arith, some);
  },
)
ends_last fields lf b w (c ∷ p) digits len are few framed some b_is end_is = absurd (omega (arith, some, ap length end_is, length-append p w))
ends_last fields crlf b w (c ∷ []) digits len are few framed some b_is end_is =
    let first : c ≡ 13 = cc in (
      10 ∷ [],
      inl (3, omega arith, refl),
      record {
        fields = fields;
        last = crlf;
        are = are;
        text = ap (λ (l : List ℕ). l ++ 10 ∷ []) (b_is ∙ ap (λ (x : ℕ). flat_map print_field fields ++ x ∷ []) first) ∙ append_assoc (flat_map print_field fields) (13 ∷ []) (10 ∷ []);
        few = few;
        len = len;
        framed = framed;
        short = omega (arith, some);
      },
    )
ends_last fields crlf b w (c ∷ d ∷ p) digits len are few framed some b_is end_is = absurd (omega (arith, some, ap length end_is, length-append p w))

pub section_ends : (fields : List Field) (last : LineEnd) (b w digits : List ℕ) (k : ℕ) (len : Option ℕ) → All IsField fields → length fields ≤ 128 → framing_of fields ≡ Some len
    → b ++ w ≡ print_section fields last → 0 < length w → SaysBefore b k → IsPadded k digits → (end : List ℕ) × IsFieldEnd digits end × EndsSection b w end
section_ends fields last b w digits k len are few framed e some before padded = on (fields_cut fields last b w e)
  where
    on : InField fields b w ⊎ InEnd fields last b w → (end : List ℕ) × IsFieldEnd digits end × EndsSection b w end
    on (inl x) =
        let all : All IsField (x.fs ++ x.f ∷ x.gs) = subst (All IsField) x.fields_are are in
        let parts = parts_framed x.fs x.gs x.f len (ap framing_of (sym x.fields_are) ∙ framed) in
        let h : Here b w = record {
          fs = x.fs;
          f = x.f;
          p = x.p;
          q = x.q;
          s = parts.0;
          t = parts.2;
          are = All-front IsField x.fs (x.f ∷ x.gs) all;
          is = All-head IsField x.f x.gs (All-back IsField x.fs (x.f ∷ x.gs) all);
          few = omega (arith, few, ap length x.fields_are, length-append x.fs (x.f ∷ x.gs));
          framed = parts.1;
          says = parts.3;
          b_is = x.b_is;
          field_is = x.field_is;
          some = x.some;
          long = x.long;
        } in
        ends_here digits b w k h before padded (cut x.p x.q x.f.name (58 ∷ (x.f.raw ++ print_end x.f.end)) (sym x.field_is ∙ print_parts x.f))
    on (inr x) = ends_last fields last b w x.p digits len are few framed some x.b_is x.end_is
