-- The pairs of a cookie, cut at semicolons.
use Rattle.std.proofs.Common.{◌≡◌, ℕ, zero, suc, ◌<◌, ◌==◌, ◌∷◌, Bool, true, false, cond, List, [], map, ◌++◌, length, take, drop, get_or, All, Option, Some}
use Rattle.std.proofs.Common.{None, MatchOption, sym, ap, ◌∙◌, ◌≤◌, ◌⊎◌, inl, inr, ltb, arith, append_assoc, append-nil, drop-cons}
use Rattle.std.proofs.lemmas.Bool.{cases_Bool, cases_lt}
use Rattle.std.proofs.lemmas.Bool.Decides.{nat_tests}
use Rattle.std.proofs.lemmas.Grind.{common_steps}
use Rattle.std.proofs.lemmas.List.{reverse-append, take-append-drop}
use Rattle.std.proofs.lemmas.List.Elements.{All-cons, All-nil}
use Rattle.std.proofs.lemmas.List.Quantifiers.{position-Some}
use Rattle.std.specs.List.{position, position_or_len}
use Rattle.std.specs.Prelude.{reverse}
use Rattle.httparse.specs.declared.spans.HeaderSpan.{HeaderSpan}
use Rattle.httparse.specs.Spans.{header_bytes}
use Rattle.txid_proxy.specs.Lines.{Lacks}
use Rattle.txid_proxy.specs.Cookies.{CookiesSay, Says, SaysFirst, nothing, found, further, pairs_behind}

pushed : (so_far xs : List ℕ) (x : ℕ) → reverse (x ∷ so_far) ++ xs ≡ reverse so_far ++ x ∷ xs
pushed so_far xs x = ap (λ (ys : List ℕ). ys ++ xs) (reverse-append (x ∷ []) so_far) ∙ append_assoc (reverse so_far) (x ∷ []) xs

lacks_more : (b x : ℕ) (xs : List ℕ) → Lacks b (x ∷ xs) → Lacks b xs
lacks_more b x xs all = λ k d less. all (suc k) d (omega arith)

behind_last : (so_far xs : List ℕ) → Lacks 59 xs → pairs_behind so_far xs ≡ (reverse so_far ++ xs) ∷ []
behind_last so_far [] lacks = ap (λ (p : List ℕ). p ∷ []) (sym (append-nil (reverse so_far)))
behind_last so_far (x ∷ xs) lacks =
    let other : (x == 59) ≡ false = lacks zero zero (omega arith) in
    rw other (behind_last (x ∷ so_far) xs (lacks_more 59 x xs lacks) ∙ ap (λ (p : List ℕ). p ∷ []) (pushed so_far xs x))

behind_cut : (so_far xs ys : List ℕ) → Lacks 59 xs → pairs_behind so_far (xs ++ 59 ∷ ys) ≡ (reverse so_far ++ xs) ∷ pairs_behind [] ys
behind_cut so_far [] ys lacks = ap (λ (p : List ℕ). p ∷ pairs_behind [] ys) (sym (append-nil (reverse so_far)))
behind_cut so_far (x ∷ xs) ys lacks =
    let other : (x == 59) ≡ false = lacks zero zero (omega arith) in
    rw other (behind_cut (x ∷ so_far) xs ys (lacks_more 59 x xs lacks) ∙ ap (λ (p : List ℕ). p ∷ pairs_behind [] ys) (pushed so_far xs x))

-- ---- by where the first semicolon stands

none_far : (p : ℕ → Bool) (xs : List ℕ) → position p xs ≡ None → length xs ≤ position_or_len p xs
none_far p xs e = within (cases_lt (position_or_len p xs) (length xs))
  where
    within : (position_or_len p xs < length xs) ⊎ (length xs ≤ position_or_len p xs) → length xs ≤ position_or_len p xs
    within (inl less) =
        let test : ltb (position_or_len p xs) (length xs) ≡ true = grind (arith, nat_tests, less) in
        let some : position p xs ≡ Some (position_or_len p xs) = ap (λ (b : Bool). cond b (Some (position_or_len p xs)) None) test in absurd (cc)
    within (inr past) = past

far_none : (p : ℕ → Bool) (xs : List ℕ) → length xs ≤ position_or_len p xs → All (λ x. p x ≡ false) xs
far_none p [] h = All-nil _
far_none p (x ∷ xs) h = elim (cases_Bool (p x)) [
  | inl t ↦ (let past = rw t at h in absurd (omega (arith, past)))
  | inr n ↦ (let past = rw n at h in All-cons (λ y. p y ≡ false) x xs n (far_none p xs (omega (arith, past))))
]

none_lacks : (b : ℕ) (xs : List ℕ) → position (λ x. x == b) xs ≡ None → Lacks b xs
none_lacks b xs e = far_none (λ x. x == b) xs (none_far (λ x. x == b) xs e)

pub one_pair : (xs : List ℕ) → position (λ x. x == 59) xs ≡ None → pairs_behind [] xs ≡ xs ∷ []
one_pair xs e = behind_last [] xs (none_lacks 59 xs e)

-- the bytes around the first
around : (b at : ℕ) (xs : List ℕ) → position (λ x. x == b) xs ≡ Some at → xs ≡ take at xs ++ b ∷ drop 1 (drop at xs)
around b at xs e =
    let some = position-Some (λ x. x == b) xs at 0 e in
    let less : at < length xs = some.0 in
    let here : get_or xs at 0 ≡ b = grind (arith, nat_tests, some.1) in
    let cut : drop at xs ≡ get_or xs at 0 ∷ drop (suc at) xs = drop-cons xs at 0 less in
    sym (take-append-drop at xs)
    ∙ ap (λ (ys : List ℕ). take at xs ++ ys) (cut ∙ ap (λ (n : ℕ). n ∷ drop (suc at) xs) here ∙ ap (λ (ys : List ℕ). b ∷ ys) (sym (ap (drop 1) cut)))

before_lacks : (b at : ℕ) (xs : List ℕ) → position (λ x. x == b) xs ≡ Some at → Lacks b (take at xs)
before_lacks b at xs e = λ k d less.
    let some = position-Some (λ x. x == b) xs at d e in
    let below : k < at = grind (arith, common_steps, less) in
    let h = some.2 k below in grind (arith, common_steps, h)

pub more_pairs : (xs : List ℕ) (at : ℕ) → position (λ x. x == 59) xs ≡ Some at → pairs_behind [] xs ≡ take at xs ∷ pairs_behind [] (drop 1 (drop at xs))
more_pairs xs at e = ap (pairs_behind []) (around 59 at xs e) ∙ behind_cut [] (take at xs) (drop 1 (drop at xs)) (before_lacks 59 at xs e)

-- ---- what they say

pub said_once : (pair : List ℕ) (r : Option ℕ) → MatchOption r ((txid : ℕ) → Says pair txid → ⊥) (Says pair) → SaysFirst (pair ∷ []) r
said_once pair None h = further h nothing
said_once pair (Some txid) h = found h

pub said_front : (xs ys : List (List ℕ)) (txid : ℕ) → SaysFirst xs (Some txid) → SaysFirst (xs ++ ys) (Some txid)
said_front [] ys txid x' = elim x' [ ]
said_front (x ∷ xs) ys txid (found says) = found says
said_front (x ∷ xs) ys txid (further none more) = further none (said_front xs ys txid more)

pub said_behind : (xs ys : List (List ℕ)) (r : Option ℕ) → SaysFirst xs None → SaysFirst ys r → SaysFirst (xs ++ ys) r
said_behind [] ys r nothing s = s
said_behind (x ∷ xs) ys r (further none more) s = further none (said_behind xs ys r more s)

-- no field says nothing
pub no_headers : (bytes : List ℕ) (headers : List HeaderSpan) → length headers < 1 → CookiesSay (map (header_bytes bytes) headers) None
no_headers bytes [] none = nothing
no_headers bytes (h ∷ hs) none = absurd (omega (arith, none))
