-- What bytes begin with stays when more bytes come.
use Rattle.std.proofs.Common.{◌≡◌, ℕ, ◌⊎◌, inl, inr, ◌+◌, ◌-◌, ◌<◌, ◌≤◌, List, ◌++◌, length, take, drop, Bool, true, false, cond, not, nat_lt, Option, Some, None, IsTrue, subst, refl, sym, ap, ◌∙◌, arith, length-append}
use Rattle.std.proofs.lemmas.Grind.{common_steps}
use Rattle.std.proofs.lemmas.Bool.{cases_lt, le-ltb, ltb-false}
use Rattle.std.proofs.lemmas.Bool.Decides.{nat_tests}
use Rattle.std.proofs.lemmas.List.{take-append-drop, drop-take, take-take}
use Rattle.std.proofs.Math.Seq.{take-append-add}
use Rattle.std.specs.Int.{w32, w64, from_be_bytes}
use Rattle.stream_wire.specs.declared.frame.Frame.{Frame}
use Rattle.stream_wire.specs.Frame.{frame_text}
use Rattle.stream_wire.specs.Feeding.{EndsFrame}
use Rattle.lf_base.specs.Endian.{be32_at, be64_at}
use Rattle.lf_base.specs.Name.{IsName}
use Rattle.stream_wire.specs.declared.wire_fault.WireFault.{WireFault}
use Rattle.stream_wire.specs.declared.wire_fault.WireFault.TheVariants as fault
use Rattle.stream_wire.specs.Front.{kind_at, name_len_at, body_len_at, name_at, named_len_at, frame_len_at, head_fault, HasBadName, BeginsWith, whole, broken, IsShort, IsWholeFrame, GivesName, is_kind, is_name_len, is_body_len}

cut_front : (place n : ℕ) (xs ys : List ℕ) → place + n ≤ length xs → take n (drop place (xs ++ ys)) ≡ take n (drop place xs)
cut_front place n xs ys h = grind (arith, common_steps)

pub be32_at-append : (place : ℕ) (xs ys : List ℕ) → place + 4 ≤ length xs → be32_at place (xs ++ ys) ≡ be32_at place xs
unfolding be32_at
be32_at-append place xs ys h = ap (from_be_bytes w32) (cut_front place 4 xs ys h)

pub be64_at-append : (place : ℕ) (xs ys : List ℕ) → place + 8 ≤ length xs → be64_at place (xs ++ ys) ≡ be64_at place xs
unfolding be64_at
be64_at-append place xs ys h = ap (from_be_bytes w64) (cut_front place 8 xs ys h)

pub frame_len_at-append : (xs ys : List ℕ) → 16 ≤ length xs → frame_len_at (xs ++ ys) ≡ frame_len_at xs
frame_len_at-append xs ys h =
    let n = be32_at-append 4 xs ys (omega arith) in
    let b = be64_at-append 8 xs ys (omega arith) in
    omega arith

-- a whole frame ends behind bytes that were too short for it
pub ends_behind : (held piece : List ℕ) → IsShort held → 16 ≤ length (held ++ piece) → length held < frame_len_at (held ++ piece)
ends_behind held piece short h = either (cases_lt (length held) 16)
  where
    either : (length held < 16) ⊎ (16 ≤ length held) → length held < frame_len_at (held ++ piece)
    either (inr long) = let e = frame_len_at-append held piece long in let s = short long in omega arith
    either (inl less) = omega arith

sound_fields : (limit : ℕ) (bytes : List ℕ) → 16 ≤ length bytes → head_fault limit bytes ≡ None
    → IsTrue (is_kind (kind_at bytes)) × IsTrue (is_name_len (kind_at bytes) (name_len_at bytes)) × IsTrue (is_body_len (kind_at bytes) (body_len_at bytes))
unfolding head_fault
sound_fields limit bytes long none = (grind (arith, nat_tests, common_steps, none), grind (arith, nat_tests, common_steps, none), grind (arith, nat_tests, common_steps, none))

-- a whole frame at the front of bytes is a whole frame
pub front_is_whole : (limit len : ℕ) (bytes : List ℕ) → BeginsWith limit bytes (whole len) → IsWholeFrame (take len bytes)
front_is_whole limit len bytes (sound, good, long, fits, e) =
    let cut : 16 ≤ length (take len bytes) = grind (arith, common_steps) in
    let glued : take len bytes ++ drop len bytes ≡ bytes = take-append-drop len bytes in
    let k : kind_at bytes ≡ kind_at (take len bytes) = ap kind_at (sym glued) ∙ be32_at-append 0 (take len bytes) (drop len bytes) (omega arith) in
    let n : name_len_at bytes ≡ name_len_at (take len bytes) = ap name_len_at (sym glued) ∙ be32_at-append 4 (take len bytes) (drop len bytes) (omega arith) in
    let b : body_len_at bytes ≡ body_len_at (take len bytes) = ap body_len_at (sym glued) ∙ be64_at-append 8 (take len bytes) (drop len bytes) (omega arith) in
    let s = sound_fields limit bytes long sound in
    record {
      fields = cut;
      len = grind (arith, common_steps, n, b);
      kind = subst (λ (x : ℕ). IsTrue (is_kind x)) k s.0;
      name_len = subst (λ (x : ℕ). IsTrue (is_name_len x (name_len_at (take len bytes)))) k (subst (λ (x : ℕ). IsTrue (is_name_len (kind_at bytes) x)) n s.1);
      body_len = subst (λ (x : ℕ). IsTrue (is_body_len x (body_len_at (take len bytes)))) k (subst (λ (x : ℕ). IsTrue (is_body_len (kind_at bytes) x)) b s.2);
    }

cut_name : (len k : ℕ) (bytes : List ℕ) → 16 + k ≤ len → take k (drop 16 (take len bytes)) ≡ take k (drop 16 bytes)
cut_name len k bytes h =
    let e : len ≡ 16 + (len - 16) = omega arith in
    let d : drop 16 (take len bytes) ≡ take (len - 16) (drop 16 bytes) = ap (λ (n : ℕ). drop 16 (take n bytes)) e ∙ drop-take 16 (len - 16) bytes in
    ap (λ (l : List ℕ). take k l) d ∙ take-take k (len - 16) (drop 16 bytes) (omega arith)

-- and its name stays
pub front_name : (limit len : ℕ) (bytes : List ℕ) (name : Option (List ℕ)) → BeginsWith limit bytes (whole len) → GivesName bytes name → GivesName (take len bytes) name
front_name limit len bytes name (sound, good, long, fits, e) gives =
    let cut : 16 ≤ length (take len bytes) = grind (arith, common_steps) in
    let glued : take len bytes ++ drop len bytes ≡ bytes = take-append-drop len bytes in
    let n : name_len_at bytes ≡ name_len_at (take len bytes) = ap name_len_at (sym glued) ∙ be32_at-append 4 (take len bytes) (drop len bytes) (omega arith) in
    let l : length (take len bytes) ≡ len = grind (arith, common_steps) in
    keeps name gives n l
  where
    keeps : (o : Option (List ℕ)) → GivesName bytes o → name_len_at bytes ≡ name_len_at (take len bytes) → length (take len bytes) ≡ len → GivesName (take len bytes) o
    keeps None (inl zero) n l = inl (omega arith)
    keeps None (inr short) n l = absurd (omega arith)
    keeps (Some name) (some, there, same) n l = (omega arith, omega arith, same ∙ ap (λ k. take k (drop 16 bytes)) n ∙ sym (cut_name len (name_len_at (take len bytes)) bytes (omega arith)))

-- where a frame ends in a piece
pub ends_frame : (limit len : ℕ) (held piece : List ℕ) (frame : Frame) → IsShort held → BeginsWith limit (held ++ piece) (whole len)
    → frame_text frame ≡ take len (held ++ piece) → EndsFrame limit held piece (len - length held) frame
ends_frame limit len held piece frame short w text =
    let behind = ends_behind held piece short w.2 in
    let sum : length held + (len - length held) ≡ len = omega (arith, behind, w.4) in
    record {
      within = omega (arith, w.3, w.4, length-append held piece, sum);
      ends = (w.0, w.1, w.2, w.3, sum ∙ w.4);
      text = text ∙ ap (λ (n : ℕ). take n (held ++ piece)) (sym sum) ∙ take-append-add held piece (len - length held);
    }

-- ---- more bytes

name_at-append : (xs ys : List ℕ) → named_len_at xs ≤ length xs → name_at (xs ++ ys) ≡ name_at xs
name_at-append xs ys h =
    let n : name_len_at (xs ++ ys) ≡ name_len_at xs = be32_at-append 4 xs ys (omega (arith, h)) in
    ap (λ (k : ℕ). take k (drop 16 (xs ++ ys))) n ∙ cut_front 16 (name_len_at xs) xs ys h

-- one field: too little of it, or a fault, or what the rest says
abbrev gate : Bool → Bool → WireFault → Option WireFault → Option WireFault
gate short sound fault rest = cond short None (cond (not sound) (Some fault) rest)

gate_stays : (s s' ok ok' : Bool) (f f' g : WireFault) (r r' : Option WireFault) → gate s ok f r ≡ Some g
    → (s ≡ false → (s' ≡ false) × (ok' ≡ ok) × (f' ≡ f)) → (s ≡ false → r ≡ Some g → r' ≡ Some g) → gate s' ok' f' r' ≡ Some g
gate_stays true s' ok ok' f f' g r r' e h k = cc
gate_stays false s' true ok' f f' g r r' e h k = let x = h refl in rw (x.0, x.1) (k refl e)
gate_stays false s' false ok' f f' g r r' e h k = let x = h refl in rw (x.0, x.1, x.2) e

abbrev fields_fault : ℕ → ℕ → ℕ → ℕ → ℕ → Option WireFault
fields_fault limit l k n b =
    gate (nat_lt l 4) (is_kind k) (fault.Kind k) (gate (nat_lt l 8) (is_name_len k n) fault.NameText
    (cond (nat_lt l 16) None (cond (nat_lt limit b) (Some (fault.TooLong b)) (cond (not (is_body_len k b)) (Some fault.Length) None))))

fields_are : (limit : ℕ) (xs : List ℕ) → head_fault limit xs ≡ fields_fault limit (length xs) (kind_at xs) (name_len_at xs) (body_len_at xs)
unfolding head_fault
fields_are limit xs = refl

longer : (l l' m : ℕ) → l ≤ l' → nat_lt l m ≡ false → nat_lt l' m ≡ false
longer l l' m h e = le-ltb l' m (omega (arith, ltb-false l m e))

fault_stays : (limit : ℕ) (xs ys : List ℕ) (f : WireFault) → head_fault limit xs ≡ Some f → head_fault limit (xs ++ ys) ≡ Some f
fault_stays limit xs ys f e =
    let up : length xs ≤ length (xs ++ ys) = omega (arith, length-append xs ys) in
    let from : fields_fault limit (length xs) (kind_at xs) (name_len_at xs) (body_len_at xs) ≡ Some f = sym (fields_are limit xs) ∙ e in
    let kind : 4 ≤ length xs → kind_at (xs ++ ys) ≡ kind_at xs = λ h. be32_at-append 0 xs ys (omega arith) in
    let name : 8 ≤ length xs → name_len_at (xs ++ ys) ≡ name_len_at xs = λ h. be32_at-append 4 xs ys (omega arith) in
    let body : 16 ≤ length xs → body_len_at (xs ++ ys) ≡ body_len_at xs = λ h. be64_at-append 8 xs ys (omega arith) in
    fields_are limit (xs ++ ys)
    ∙ gate_stays _ _ _ _ _ _ f _ _ from
    (λ s. (longer (length xs) (length (xs ++ ys)) 4 up s, ap is_kind (kind (ltb-false (length xs) 4 s)), ap fault.Kind (kind (ltb-false (length xs) 4 s))))
    (λ s r. gate_stays _ _ _ _ _ _ f _ _ r
    (λ t. let h = ltb-false (length xs) 8 t in (longer (length xs) (length (xs ++ ys)) 8 up t, ap (λ (k : ℕ). is_name_len k (name_len_at (xs ++ ys))) (kind (omega arith)) ∙ ap (is_name_len (kind_at xs)) (name h), refl))
    (λ t q. last (nat_lt (length xs) 16) refl q up (kind (omega (arith, ltb-false (length xs) 8 t))) body))
  where
    last : (b : Bool) → nat_lt (length xs) 16 ≡ b
        → cond (nat_lt (length xs) 16) None (cond (nat_lt limit (body_len_at xs)) (Some (fault.TooLong (body_len_at xs))) (cond (not (is_body_len (kind_at xs) (body_len_at xs))) (Some fault.Length) None)) ≡ Some f
        → length xs ≤ length (xs ++ ys) → kind_at (xs ++ ys) ≡ kind_at xs → (16 ≤ length xs → body_len_at (xs ++ ys) ≡ body_len_at xs)
        → cond (nat_lt (length (xs ++ ys)) 16) None (cond (nat_lt limit (body_len_at (xs ++ ys))) (Some (fault.TooLong (body_len_at (xs ++ ys)))) (cond (not (is_body_len (kind_at (xs ++ ys)) (body_len_at (xs ++ ys)))) (Some fault.Length) None)) ≡ Some f
    last true s q up k body = let none : None ≡ Some f = rw s at q in cc
    last false s q up k body =
        let b = body (ltb-false (length xs) 16 s) in
        rw (longer (length xs) (length (xs ++ ys)) 16 up s, k, b) (rw s at q)

sound_stays : (limit : ℕ) (xs ys : List ℕ) → 16 ≤ length xs → head_fault limit xs ≡ None → head_fault limit (xs ++ ys) ≡ None
sound_stays limit xs ys long e =
    let up : length xs ≤ length (xs ++ ys) = omega (arith, length-append xs ys) in
    let from : fields_fault limit (length xs) (kind_at xs) (name_len_at xs) (body_len_at xs) ≡ None = sym (fields_are limit xs) ∙ e in
    let kind : kind_at (xs ++ ys) ≡ kind_at xs = be32_at-append 0 xs ys (omega arith) in
    let name : name_len_at (xs ++ ys) ≡ name_len_at xs = be32_at-append 4 xs ys (omega arith) in
    let body : body_len_at (xs ++ ys) ≡ body_len_at xs = be64_at-append 8 xs ys (omega arith) in
    fields_are limit (xs ++ ys) ∙ ap (λ (k : ℕ). fields_fault limit (length (xs ++ ys)) k (name_len_at (xs ++ ys)) (body_len_at (xs ++ ys))) kind
    ∙ ap (λ (n : ℕ). fields_fault limit (length (xs ++ ys)) (kind_at xs) n (body_len_at (xs ++ ys))) name
    ∙ ap (λ (b : ℕ). fields_fault limit (length (xs ++ ys)) (kind_at xs) (name_len_at xs) b) body
    ∙ same_length limit (length xs) (length (xs ++ ys)) (kind_at xs) (name_len_at xs) (body_len_at xs) long (omega arith) ∙ from
  where
    same_length : (limit l l' k n b : ℕ) → 16 ≤ l → 16 ≤ l' → fields_fault limit l' k n b ≡ fields_fault limit l k n b
    same_length limit l l' k n b h h' =
        rw (le-ltb l 4 (omega arith), le-ltb l' 4 (omega arith), le-ltb l 8 (omega arith), le-ltb l' 8 (omega arith), le-ltb l 16 (omega arith), le-ltb l' 16 (omega arith)) refl

bad_stays : (xs ys : List ℕ) → HasBadName xs → HasBadName (xs ++ ys)
bad_stays xs ys bad =
    let l = length-append xs ys in
    let n : name_len_at (xs ++ ys) ≡ name_len_at xs = be32_at-append 4 xs ys (omega (arith, bad.fields)) in
    record {
      fields = omega (arith, bad.fields);
      there = omega (arith, bad.there);
      some = omega (arith, bad.some);
      bad = λ is. bad.bad (subst IsName (name_at-append xs ys bad.there) is);
    }

good_stays : (xs ys : List ℕ) → 16 ≤ length xs → frame_len_at xs ≤ length xs → (HasBadName xs → ⊥) → HasBadName (xs ++ ys) → ⊥
good_stays xs ys long fits good bad =
    let n : name_len_at (xs ++ ys) ≡ name_len_at xs = be32_at-append 4 xs ys (omega arith) in
    good (record {
      fields = long;
      there = omega arith;
      some = omega (arith, bad.some);
      bad = λ is. bad.bad (subst IsName (sym (name_at-append xs ys (omega arith))) is);
    })

pub frame_stays : (limit len : ℕ) (bytes more : List ℕ) → BeginsWith limit bytes (whole len) → BeginsWith limit (bytes ++ more) (whole len)
frame_stays limit len bytes more (sound, good, long, fits, e) =
    let l = length-append bytes more in
    let n = frame_len_at-append bytes more long in
    (sound_stays limit bytes more long sound, good_stays bytes more long fits good, omega arith, omega arith, e ∙ sym n)

pub refusal_stays : (limit : ℕ) (bytes more : List ℕ) (f : WireFault) → BeginsWith limit bytes (broken f) → BeginsWith limit (bytes ++ more) (broken f)
refusal_stays limit bytes more f (inl e) = inl (fault_stays limit bytes more f e)
refusal_stays limit bytes more f (inr (sound, bad, e)) = inr (sound_stays limit bytes more bad.fields sound, bad_stays bytes more bad, e)
