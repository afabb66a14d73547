-- The lines of a head's fields.
use Rattle.std.proofs.Common.{◌≡◌, ℕ, zero, suc, ◌+◌, ◌<◌, ◌==◌, ◌∷◌, true, false, List, [], ◌++◌, length, length-append, take, drop, All, refl, sym}
use Rattle.std.proofs.Common.{ap, subst, ◌∙◌, arith, append_assoc, append-nil, inl, inr, Result, Ok, Err, OnOk}
use Rattle.std.proofs.lemmas.Bool.{cases_Bool}
use Rattle.std.proofs.lemmas.Grind.{common_steps}
use Rattle.std.proofs.lemmas.List.Elements.{All-append, All-cons}
use Rattle.std.proofs.Math.Seq.{drop-append_seam}
use Rattle.std.specs.List.{filter, flat_map}
use Rattle.std.specs.Prelude.{codes, not}
use Rattle.stream_wire.specs.Head.{is_called}
use Rattle.httparse.specs.Grammar.{LineEnd, crlf, lf, is_token_byte, is_value_byte, AllPass, Field, IsField, print_end, print_field, print_section}
use Rattle.txid_proxy.specs.Lines.{IsEmptyLine, Lacks}
use Rattle.txid_proxy.specs.Passing.{close_field, is_passed}
use Rattle.txid_proxy.proofs.Starts.{end_front, end_lacks, end_parts, lacks_by, token_no_colon, token_no_feed, token_no_return, value_no_feed}

-- a field's line, without its line feed
abbrev field_line : Field → List ℕ
field_line f = f.name ++ 58 ∷ f.raw ++ end_front f.end

line_of : (f : Field) → print_field f ≡ field_line f ++ 10 ∷ []
line_of f = ap (λ (xs : List ℕ). f.name ++ 58 ∷ f.raw ++ xs) (end_parts f.end) ∙ sym (append_assoc (f.name ++ 58 ∷ f.raw) (end_front f.end) (10 ∷ []))

line_lacks : (f : Field) → IsField f → Lacks 10 (field_line f)
line_lacks f is =
    let P : ℕ → Type 0 = λ x. (x == 10) ≡ false in
    All-append P (f.name ++ 58 ∷ f.raw) (end_front f.end)
    (All-append P f.name (58 ∷ f.raw) (lacks_by is_token_byte 10 f.name token_no_feed is.name.1) (All-cons P 58 f.raw refl
    (lacks_by is_value_byte 10 f.raw value_no_feed is.raw)))
    (end_lacks f.end)

pub name_lacks : (f : Field) → IsField f → Lacks 58 f.name
name_lacks f is = lacks_by is_token_byte 58 f.name token_no_colon is.name.1

-- a length that cuts behind the first line feed
abbrev pub CutsLine : List ℕ → ℕ → Type 0
CutsLine bytes n = (line rest : List ℕ) → Lacks 10 line → bytes ≡ line ++ 10 ∷ rest → n ≡ length line + 1

-- no field's line is empty
no_empty : (name raw end : List ℕ) → 0 < length name → AllPass is_token_byte name → IsEmptyLine (name ++ 58 ∷ raw ++ end) → ⊥
no_empty [] raw end some all e = omega (arith, some)
no_empty (n ∷ name) raw end some all (inl e) = cc
no_empty (n ∷ name) raw end some all (inr (inl e)) = let same : n ≡ 10 = cc in token_no_feed (subst (λ (x : ℕ). is_token_byte x ≡ true) same (all zero zero
    (omega arith)))
no_empty (n ∷ name) raw end some all (inr (inr e)) = let same : n ≡ 13 = cc in token_no_return (subst (λ (x : ℕ). is_token_byte x ≡ true) same (all zero zero
    (omega arith)))

pub section_of : (f : Field) (fs : List Field) (last : LineEnd) → print_section (f ∷ fs) last ≡ print_field f ++ print_section fs last
section_of f fs last = append_assoc (print_field f) (flat_map print_field fs) (print_end last)

-- the first line of a section that has a field
first_length : (section : List ℕ) (f : Field) (fs : List Field) (last : LineEnd) (n : ℕ) → IsField f → section ≡ print_section (f ∷ fs) last → CutsLine section n
    → n ≡ length (print_field f)
first_length section f fs last n is e cuts =
    let whole : section ≡ field_line f ++ 10 ∷ print_section fs last =
    e ∙ section_of f fs last ∙ ap (λ (xs : List ℕ). xs ++ print_section fs last) (line_of f) ∙ append_assoc (field_line f) (10 ∷ []) (print_section fs last) in
    cuts (field_line f) (print_section fs last) (line_lacks f is) whole
    ∙ sym (ap length (line_of f) ∙ length-append (field_line f) (10 ∷ []))

last_length : (section : List ℕ) (last : LineEnd) (n : ℕ) → section ≡ print_end last → CutsLine section n → n ≡ length (print_end last)
last_length section last n e cuts =
    cuts (end_front last) [] (end_lacks last) (e ∙ end_parts last) ∙ sym (ap length (end_parts last) ∙ length-append (end_front last) (10 ∷ []))

end_empty : (last : LineEnd) → IsEmptyLine (print_end last)
end_empty crlf = inr (inr refl)
end_empty lf = inr (inl refl)

pub take_front : (xs ys : List ℕ) (n : ℕ) → n ≡ length xs → take n (xs ++ ys) ≡ xs
take_front xs ys n e = grind (arith, common_steps)

all_first : (f : Field) (fs : List Field) → All IsField (f ∷ fs) → IsField f
all_first f fs all = all zero f (omega arith)

all_more : (f : Field) (fs : List Field) → All IsField (f ∷ fs) → All IsField fs
all_more f fs all = λ k d less. all (suc k) d (omega arith)

-- a section cut behind its first line, which is empty
pub at_last : (section line : List ℕ) (fields : List Field) (last : LineEnd) (n : ℕ) → All IsField fields → section ≡ print_section fields last → CutsLine section n
    → line ≡ take n section
    → IsEmptyLine line → (fields ≡ []) × (line ≡ print_end last)
at_last section line [] last n all e cuts by empty =
    (refl, by ∙ ap (take n) (e ∙ sym (append-nil (print_end last))) ∙ take_front (print_end last) [] n (last_length section last n e cuts))
at_last section line (f ∷ fs) last n all e cuts by empty =
    let is = all_first f fs all in
    let front : line ≡ print_field f =
    by ∙ ap (take n) (e ∙ section_of f fs last) ∙ take_front (print_field f) (print_section fs last) n (first_length section f fs last n is e cuts) in
    absurd (no_empty f.name f.raw (print_end f.end) is.name.0 is.name.1 (subst IsEmptyLine front empty))

-- and one whose first line is not: that of a field
pub record AtField (line rest : List ℕ) (fields : List Field) (last : LineEnd) : Type 0 where
  pub field : Field
  pub more : List Field
  pub are : fields ≡ field ∷ more
  pub is : IsField field
  pub all : All IsField more
  pub line_is : line ≡ print_field field
  pub rest_is : rest ≡ print_section more last

pub at_field : (section line rest : List ℕ) (fields : List Field) (last : LineEnd) (n : ℕ) → All IsField fields → section ≡ print_section fields last → CutsLine section n
    → line ≡ take n section → rest ≡ drop n section → (IsEmptyLine line → ⊥) → AtField line rest fields last
at_field section line rest [] last n all e cuts by behind some =
    let front : line ≡ print_end last = by ∙ ap (take n) (e ∙ sym (append-nil (print_end last))) ∙ take_front (print_end last) [] n (last_length section last n e cuts) in
    absurd (some (subst IsEmptyLine (sym front) (end_empty last)))
at_field section line rest (f ∷ fs) last n all e cuts by behind some =
    let is = all_first f fs all in
    let len = first_length section f fs last n is e cuts in record {
      field = f;
      more = fs;
      are = refl;
      is = is;
      all = all_more f fs all;
      line_is = by ∙ ap (take n) (e ∙ section_of f fs last) ∙ take_front (print_field f) (print_section fs last) n len;
      rest_is = behind ∙ ap (λ (m : ℕ). drop m section) len ∙ ap (drop (length (print_field f))) (e ∙ section_of f fs last)
          ∙ drop-append_seam (print_field f) (print_section fs last);
    }

-- what is passed on of a first field and of the others
pub passed_on : (f : Field) (fs gs : List Field) (last : LineEnd)
    → print_section (filter is_passed (f ∷ fs) ++ gs) last ≡ flat_map print_field (filter is_passed (f ∷ [])) ++ print_section (filter is_passed fs ++ gs) last
passed_on f fs gs last = elim (cases_Bool (is_passed f)) [
  | inl t ↦ rw t (append_assoc (print_field f) (flat_map print_field (filter is_passed fs ++ gs)) (print_end last)
      ∙ ap (λ (xs : List ℕ). xs ++ print_section (filter is_passed fs ++ gs) last) (sym (append-nil (print_field f))))
  | inr n ↦ rw n refl
]

-- a field's name, before the first colon
pub named : (f : Field) → print_field f ≡ f.name ++ 58 ∷ (f.raw ++ print_end f.end)
named f = append_assoc f.name (58 ∷ f.raw) (print_end f.end)

pub name_front : (f : Field) (line : List ℕ) (at : ℕ) → line ≡ print_field f → at ≡ length f.name → take at line ≡ f.name
name_front f line at e len = ap (take at) (e ∙ named f) ∙ take_front f.name (58 ∷ (f.raw ++ print_end f.end)) at len

-- a field by what its name is called
pub kept_out : (f : Field) (name : List ℕ) → name ≡ f.name → is_called (codes "connection") name ≡ true → is_passed f ≡ false
kept_out f name e t = rw (ap (is_called (codes "connection")) (sym e) ∙ t) refl

pub by_expect : (f : Field) (name : List ℕ) → name ≡ f.name → is_called (codes "connection") name ≡ false → is_passed f ≡ not (is_called (codes "expect") name)
by_expect f name e n = rw (ap (is_called (codes "connection")) (sym e) ∙ n) (ap (λ (xs : List ℕ). not (is_called (codes "expect") xs)) (sym e))

-- ---- what is put for a section

pub then_ok : {T E : Type 0} (r : Result T E) (P Q : Type 0) → (P → Q) → OnOk r P → OnOk r Q
then_ok (Ok x) P Q f p = f p
then_ok (Err e) P Q f p = tt

-- of its last line
pub last_put : (fields : List Field) (last : LineEnd) (line out mid out_now : List ℕ) → fields ≡ [] → line ≡ print_end last
    → mid ≡ out ++ codes "Connection: close\r\n" → out_now ≡ mid ++ line
    → out_now ≡ out ++ print_section (filter is_passed fields ++ close_field ∷ []) last
last_put fields last line out mid out_now none is close put =
    put ∙ ap (λ (xs : List ℕ). xs ++ line) close ∙ append_assoc out (codes "Connection: close\r\n") line
    ∙ ap (λ (xs : List ℕ). out ++ (codes "Connection: close\r\n" ++ xs)) is
    ∙ ap (λ (fs : List Field). out ++ print_section (filter is_passed fs ++ close_field ∷ []) last) (sym none)

-- of a field and the lines behind it
pub field_put : (fields : List Field) (last : LineEnd) (line rest out mid out_now : List ℕ) (at : AtField line rest fields last)
    → mid ≡ out ++ flat_map print_field (filter is_passed (at.field ∷ [])) → out_now ≡ mid ++ print_section (filter is_passed at.more ++ close_field ∷ []) last
    → out_now ≡ out ++ print_section (filter is_passed fields ++ close_field ∷ []) last
field_put fields last line rest out mid out_now at field put =
    let more : List ℕ = print_section (filter is_passed at.more ++ close_field ∷ []) last in
    put ∙ ap (λ (xs : List ℕ). xs ++ more) field ∙ append_assoc out (flat_map print_field (filter is_passed (at.field ∷ []))) more
    ∙ ap (λ (xs : List ℕ). out ++ xs) (sym (passed_on at.field at.more (close_field ∷ []) last))
    ∙ ap (λ (fs : List Field). out ++ print_section (filter is_passed fs ++ close_field ∷ []) last) (sym at.are)
