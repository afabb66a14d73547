-- What trying the ends of a head shows.
use Rattle.std.proofs.Common.{◌≡◌, ℕ, zero, suc, ◌∷◌, ◌+◌, ◌*◌, ◌-◌, ◌/◌, ◌%◌, ◌<◌, ◌≤◌, ◌^◌, List, [], ◌++◌, length, map, take, drop, set, Option, Some, None, true, is_some, unwrap_or, refl, sym, ap, ◌∙◌, subst, arith, append_assoc, length-append, length-take, add-one}
use Rattle.std.proofs.lemmas.Grind.{common_steps}
use Rattle.std.proofs.lemmas.Bool.Decides.{nat_tests}
use Rattle.std.proofs.lemmas.List.{drop-set, take-append-le, take_all, take-map, take-take, length-map}
use Rattle.std.proofs.Math.Nat.{pow-suc}
use Rattle.std.specs.Char.{digit_value}
use Rattle.std.specs.Str.Parse.{AllDigits, digits_value}
use Rattle.httparse.specs.Grammar.{Field, RequestHead, print_request, ResponseHead, print_response}
use Rattle.httparse.specs.declared.spans.HeaderSpan.{HeaderSpan}
use Rattle.httparse.specs.Spans.{name_and_value, header_bytes, AreFieldsAt}
use Rattle.httparse.proofs.GrammarLemmas.{request_unique, response_unique}
use Rattle.stream_wire.specs.declared.head_ends.HeadKind.{HeadKind}
use Rattle.stream_wire.specs.declared.head_ends.HeadKind.TheVariants as kind
use Rattle.stream_wire.specs.Head.{framing, framing_of, IsTaken}
use Rattle.stream_wire.specs.Ends.{HasHead, TakesHead, SaysLength, IsLengthEnd}
use Rattle.stream_wire.proofs.Digits.{AllDigits-append, value-append}

-- ---- one head, and whether it is taken

pub same_head : (k : HeadKind) (text : List ℕ) (a b : ℕ) (fs gs : List Field) → HasHead k text a fs → HasHead k text b gs → (a ≡ b) × (fs ≡ gs)
same_head kind.Request text a b fs gs (h, r, x, size, fields) (i, q, y, other, also) =
    let same = (request_unique text h i r q x y).0 in
    (size ∙ ap (λ (z : RequestHead). length (print_request z)) same ∙ sym other, fields ∙ ap (λ (z : RequestHead). z.fields) same ∙ sym also)
same_head kind.Response text a b fs gs (h, r, x, size, fields) (i, q, y, other, also) =
    let same = (response_unique text h i r q x y).0 in
    (size ∙ ap (λ (z : ResponseHead). length (print_response z)) same ∙ sym other, fields ∙ ap (λ (z : ResponseHead). z.fields) same ∙ sym also)

pub takes_from : (k : HeadKind) (text : List ℕ) (size : ℕ) (fields : List Field) (len : Option ℕ) → HasHead k text size fields → IsTaken size fields len → TakesHead k text
takes_from kind.Request text size fields len (h, r, x, s, f) taken =
    (h, r, len, x, subst (λ (n : ℕ). IsTaken n h.fields len) s (subst (λ (fs : List Field). IsTaken size fs len) f taken))
takes_from kind.Response text size fields len (h, r, x, s, f) taken =
    (h, r, len, x, subst (λ (n : ℕ). IsTaken n h.fields len) s (subst (λ (fs : List Field). IsTaken size fs len) f taken))

pub takes_to : (k : HeadKind) (text : List ℕ) → TakesHead k text → (size : ℕ) × (fields : List Field) × (len : Option ℕ) × HasHead k text size fields × IsTaken size fields len
takes_to kind.Request text (h, r, len, x, taken) = (length (print_request h), h.fields, len, (h, r, x, refl, refl), taken)
takes_to kind.Response text (h, r, len, x, taken) = (length (print_response h), h.fields, len, (h, r, x, refl, refl), taken)

-- the head that was read, with its fields as the code saw them
pub framed : (text : List ℕ) (headers : List HeaderSpan) (count : ℕ) (fields : List Field) → AreFieldsAt text headers count fields → framing None (map (header_bytes text) (take count headers)) ≡ framing_of fields
framed text headers count fields at = ap (framing None) at

-- ---- the length before the last field

pub front_said : (text : List ℕ) (headers : List HeaderSpan) (count : ℕ) (fs : List Field) (f : Field) → AreFieldsAt text headers count (fs ++ f ∷ []) → count ≤ length headers
    → framing None (map (header_bytes text) (take (count - 1) headers)) ≡ framing_of fs
front_said text headers count fs f at fits =
    let sizes : count ≡ suc (length fs) =
    omega (arith, ap length at, length-map (take count headers) (header_bytes text), length-map (fs ++ f ∷ []) name_and_value, length-take count headers, length-append fs (f ∷ [])) in
    let one : count - 1 ≡ length fs = omega (arith, sizes) in
    let a : map (header_bytes text) (take (length fs) headers) ≡ take (length fs) (map (header_bytes text) (take count headers)) =
    sym (take-map (header_bytes text) (length fs) (take count headers) ∙ ap (map (header_bytes text)) (take-take (length fs) count headers (omega (arith, sizes)))) in
    let b : take (length fs) (map name_and_value (fs ++ f ∷ [])) ≡ map name_and_value fs =
    take-map name_and_value (length fs) (fs ++ f ∷ []) ∙ ap (map name_and_value) (take-append-le (length fs) fs (f ∷ []) (omega arith) ∙ take_all (length fs) fs (omega arith)) in
    ap (λ (n : ℕ). framing None (map (header_bytes text) (take n headers))) one ∙ ap (framing None) (a ∙ ap (take (length fs)) at ∙ b)

pub says_length : (k : HeadKind) (bytes text : List ℕ) (headers : List HeaderSpan) (size count n : ℕ) (fields : List Field) → text ≡ bytes ++ 48 ∷ 10 ∷ 10 ∷ [] → HasHead k text size fields
    → AreFieldsAt text headers count fields → count ≤ length headers
    → ((so_far : Option ℕ) → framing None (map (header_bytes text) (take (count - 1) headers)) ≡ Some so_far → n ≡ unwrap_or so_far 0) → SaysLength k bytes n
says_length k bytes text headers size count n fields text_is has at fits says other fs f so_far also few framed_so =
    let same = same_head k text size other fields (fs ++ f ∷ []) has (subst (λ (t : List ℕ). HasHead k t other (fs ++ f ∷ [])) (sym text_is) also) in
    let there : AreFieldsAt text headers count (fs ++ f ∷ []) = subst (AreFieldsAt text headers count) same.1 at in
    says so_far (front_said text headers count fs f there fits ∙ framed_so)

pub says_none : (k : HeadKind) (bytes text : List ℕ) → text ≡ bytes ++ 48 ∷ 10 ∷ 10 ∷ [] → ((size : ℕ) (fields : List Field) → HasHead k text size fields → length fields ≤ 128 → ⊥) → SaysLength k bytes 0
says_none k bytes text text_is never size fs f so_far has few framed_so = absurd (never size (fs ++ f ∷ []) (subst (λ (t : List ℕ). HasHead k t size (fs ++ f ∷ [])) (sym text_is) has) few)

-- ---- twenty digits

abbrev pub tail_digits : ℕ → ℕ → List ℕ
tail_digits zero n = []
tail_digits (suc k) n = tail_digits k (n / 10) ++ (48 + n % 10) ∷ []

pub digit_set : (k n d : ℕ) (text : List ℕ) → k < length text → d ≡ 48 + n % 10 → tail_digits k (n / 10) ++ drop k (set text k d) ≡ tail_digits (suc k) n ++ drop (suc k) text
digit_set k n d text below d-is =
    ap (λ (l : List ℕ). tail_digits k (n / 10) ++ l) (drop-set text k d below)
    ∙ ap (λ (m : ℕ). tail_digits k (n / 10) ++ (d ∷ drop m text)) (add-one k)
    ∙ ap (λ (m : ℕ). tail_digits k (n / 10) ++ (m ∷ drop (suc k) text)) d-is
    ∙ sym (append_assoc (tail_digits k (n / 10)) ((48 + n % 10) ∷ []) (drop (suc k) text))

pub digit_put : (place n d : ℕ) (text whole : List ℕ) → place < 20 → length text ≡ 22 → d ≡ 48 + n % 10 → tail_digits (20 - place) n ++ drop (20 - place) text ≡ whole
    → tail_digits (20 - (place + 1)) (n / 10) ++ drop (20 - (place + 1)) (set text (19 - place) d) ≡ whole
digit_put place n d text whole below len d-is kept =
    let left : 20 - (place + 1) ≡ 19 - place = omega arith in
    let here : 20 - place ≡ suc (19 - place) = omega arith in
    ap (λ (k : ℕ). tail_digits k (n / 10) ++ drop k (set text (19 - place) d)) left
    ∙ digit_set (19 - place) n d text (omega arith) d-is
    ∙ sym (ap (λ (k : ℕ). tail_digits k n ++ drop k text) here)
    ∙ kept

pub all_stand : (place n : ℕ) (text whole : List ℕ) → 20 ≤ place → tail_digits (20 - place) n ++ drop (20 - place) text ≡ whole → text ≡ whole
all_stand place n text whole done kept =
    let none : 20 - place ≡ 0 = omega arith in
    sym (ap (λ (k : ℕ). tail_digits k n ++ drop k text) none) ∙ kept

tail_len : (k n : ℕ) → length (tail_digits k n) ≡ k
tail_len zero n = refl
tail_len (suc k) n = length-append (tail_digits k (n / 10)) ((48 + n % 10) ∷ []) ∙ omega (arith, tail_len k (n / 10))

digit_says : (d : ℕ) → d < 10 → digit_value (48 + d) ≡ d
digit_says d low = grind (arith, nat_tests, common_steps)

tail_all : (k n : ℕ) → AllDigits 10 (tail_digits k n)
tail_all zero n = tt
tail_all (suc k) n = AllDigits-append (tail_digits k (n / 10)) ((48 + n % 10) ∷ []) (tail_all k (n / 10)) (omega (arith, digit_says (n % 10) (omega arith)), tt)

tail_value : (k n : ℕ) → n < 10 ^ k → digits_value 10 (tail_digits k n) ≡ n
tail_value zero n below = omega (arith, below)
tail_value (suc k) n below =
    let power : 10 ^ suc k ≡ 10 ^ k * 10 = pow-suc 10 k in
    let front = tail_value k (n / 10) (omega (arith, below, power)) in
    let d = digit_says (n % 10) (omega arith) in
    value-append (tail_digits k (n / 10)) ((48 + n % 10) ∷ []) ∙ omega (arith, front, d)

pub is_length_end : (n : ℕ) (text : List ℕ) → n < 2 ^ 64 → text ≡ tail_digits 20 n ++ 10 ∷ 10 ∷ [] → IsLengthEnd n text
is_length_end n text fits e = (tail_digits 20 n, record { len = tail_len 20 n; all = tail_all 20 n; value = tail_value 20 n (omega (arith, fits)) }, e)

-- ---- answers

pub some_is : (o : Option (Option ℕ)) → is_some o ≡ true → (x : Option ℕ) × (o ≡ Some x)
some_is None e = absurd (cc)
some_is (Some x) e = (x, refl)

pub is_some_of : (o : Option (Option ℕ)) (x : Option ℕ) → o ≡ Some x → is_some o ≡ true
is_some_of o x e = rw e refl
