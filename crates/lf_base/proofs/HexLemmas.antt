-- Numbers in hexadecimal digits, written and read again.
use Rattle.std.proofs.Common.{◌≡◌, ℕ, zero, suc, ◌+◌, ◌-◌, ◌*◌, ◌/◌, ◌%◌, ◌^◌, ◌<◌, ◌≤◌, List, [], ◌∷◌, ◌++◌, length, take, drop, set, arith, refl, sym, ap, ◌∙◌, append_assoc, length-append, add-one}
use Rattle.std.proofs.lemmas.List.{drop-set, take_at, drop_at}
use Rattle.std.proofs.Math.Nat.{pow-suc}
use Rattle.lf_base.specs.Hex.{hex_digit, hex_digits, digit_value, number_after}
use Rattle.lf_base.specs.Position.{position_text}
use Rattle.lf_base.specs.declared.pos.Pos.{Pos}

-- one more digit written in front of those that stand
pub digit_set : (k n d : ℕ) (text : List ℕ) → k < length text → d ≡ hex_digit (n % 16) → hex_digits k (n / 16) ++ drop k (set text k d) ≡ hex_digits (suc k) n ++ drop (suc k) text
unfolding hex_digits
digit_set k n d text below d-is =
    ap (λ (l : List ℕ). hex_digits k (n / 16) ++ l) (drop-set text k d below)
    ∙ ap (λ (m : ℕ). hex_digits k (n / 16) ++ (d ∷ drop m text)) (add-one k)
    ∙ ap (λ (m : ℕ). hex_digits k (n / 16) ++ (m ∷ drop (suc k) text)) d-is
    ∙ sym (append_assoc (hex_digits k (n / 16)) (hex_digit (n % 16) ∷ []) (drop (suc k) text))

number_after-append : (n : ℕ) (xs ys : List ℕ) → number_after n (xs ++ ys) ≡ number_after (number_after n xs) ys
number_after-append n [] ys = refl
number_after-append n (x ∷ xs) ys = number_after-append (n % 2 ^ 60 * 16 + digit_value x) xs ys

-- a digit says its number
digit_again : (d : ℕ) → d < 16 → digit_value (hex_digit d) ≡ d
unfolding hex_digit digit_value
digit_again zero small = refl
digit_again (suc zero) small = refl
digit_again (suc (suc zero)) small = refl
digit_again (suc (suc (suc zero))) small = refl
digit_again (suc (suc (suc (suc zero)))) small = refl
digit_again (suc (suc (suc (suc (suc zero))))) small = refl
digit_again (suc (suc (suc (suc (suc (suc zero)))))) small = refl
digit_again (suc (suc (suc (suc (suc (suc (suc zero))))))) small = refl
digit_again (suc (suc (suc (suc (suc (suc (suc (suc zero)))))))) small = refl
digit_again (suc (suc (suc (suc (suc (suc (suc (suc (suc zero))))))))) small = refl
digit_again (suc (suc (suc (suc (suc (suc (suc (suc (suc (suc zero)))))))))) small = refl
digit_again (suc (suc (suc (suc (suc (suc (suc (suc (suc (suc (suc zero))))))))))) small = refl
digit_again (suc (suc (suc (suc (suc (suc (suc (suc (suc (suc (suc (suc zero)))))))))))) small = refl
digit_again (suc (suc (suc (suc (suc (suc (suc (suc (suc (suc (suc (suc (suc zero))))))))))))) small = refl
digit_again (suc (suc (suc (suc (suc (suc (suc (suc (suc (suc (suc (suc (suc (suc zero)))))))))))))) small = refl
digit_again (suc (suc (suc (suc (suc (suc (suc (suc (suc (suc (suc (suc (suc (suc (suc zero))))))))))))))) small = refl
digit_again (suc (suc (suc (suc (suc (suc (suc (suc (suc (suc (suc (suc (suc (suc (suc (suc d)))))))))))))))) small = absurd (omega (arith, small))

-- the digits of a number say it
number_again : (k n : ℕ) → n < 16 ^ k → n < 2 ^ 64 → number_after 0 (hex_digits k n) ≡ n
unfolding hex_digits
number_again zero n below small = let none : n ≡ 0 = omega (arith, below) in sym none
number_again (suc k) n below small =
    let power : 16 ^ suc k ≡ 16 ^ k * 16 = pow-suc 16 k in
    let less : n / 16 < 16 ^ k = omega (arith, below, power) in
    let front : number_after 0 (hex_digits k (n / 16)) ≡ n / 16 = number_again k (n / 16) less (omega (arith, small)) in
    number_after-append 0 (hex_digits k (n / 16)) (hex_digit (n % 16) ∷ [])
    ∙ ap (λ (m : ℕ). m % 2 ^ 60 * 16 + digit_value (hex_digit (n % 16))) front
    ∙ ap (λ (d : ℕ). n / 16 % 2 ^ 60 * 16 + d) (digit_again (n % 16) (omega arith))
    ∙ omega (arith, small)

pub hex_length : (k n : ℕ) → length (hex_digits k n) ≡ k
unfolding hex_digits
hex_length zero n = refl
hex_length (suc k) n = length-append (hex_digits k (n / 16)) (hex_digit (n % 16) ∷ []) ∙ ap (λ (m : ℕ). m + 1) (hex_length k (n / 16)) ∙ add-one k

-- the number of 16 digits
pub sixteen : (n : ℕ) → n < 2 ^ 64 → number_after 0 (hex_digits 16 n) ≡ n
sixteen n small = number_again 16 n (omega (arith, small)) small

pub position_length : (pos : Pos) → length (position_text pos) ≡ 33
position_length pos =
    length-append (hex_digits 16 pos.txid) (47 ∷ hex_digits 16 pos.sum)
    ∙ ap (λ (m : ℕ). m + suc (length (hex_digits 16 pos.sum))) (hex_length 16 pos.txid)
    ∙ ap (λ (m : ℕ). 16 + suc m) (hex_length 16 pos.sum)

-- the two numbers of a position's text
pub txid_there : (pos : Pos) (bytes : List ℕ) → bytes ≡ position_text pos → take 16 bytes ≡ hex_digits 16 pos.txid
txid_there pos bytes same =
    ap (λ (l : List ℕ). take 16 l) same
    ∙ take_at (hex_digits 16 pos.txid) (47 ∷ hex_digits 16 pos.sum) 16 (hex_length 16 pos.txid)

pub sum_there : (pos : Pos) (bytes : List ℕ) → bytes ≡ position_text pos → drop 1 (drop 16 bytes) ≡ hex_digits 16 pos.sum
sum_there pos bytes same =
    ap (λ (l : List ℕ). drop 1 (drop 16 l)) same
    ∙ ap (λ (l : List ℕ). drop 1 l) (drop_at (hex_digits 16 pos.txid) (47 ∷ hex_digits 16 pos.sum) 16 (hex_length 16 pos.txid))

-- at the last turn all digits stand
pub all_stand : (place n m : ℕ) (text : List ℕ) → 16 ≤ place → hex_digits (16 - place) n ++ drop (16 - place) text ≡ hex_digits 16 m → text ≡ hex_digits 16 m
unfolding hex_digits
all_stand place n m text done kept =
    let none : 16 - place ≡ 0 = omega arith in
    sym (ap (λ (k : ℕ). hex_digits k n ++ drop k text) none) ∙ kept

-- one turn of the loop that writes digits
pub digit_put : (place n d m : ℕ) (text : List ℕ) → place < 16 → length text ≡ 16 → d ≡ hex_digit (n % 16)
    → hex_digits (16 - place) n ++ drop (16 - place) text ≡ hex_digits 16 m
    → hex_digits (16 - (place + 1)) (n / 16) ++ drop (16 - (place + 1)) (set text (15 - place) d) ≡ hex_digits 16 m
digit_put place n d m text below len d-is kept =
    let left : 16 - (place + 1) ≡ 15 - place = omega arith in
    let here : 16 - place ≡ suc (15 - place) = omega arith in
    ap (λ (k : ℕ). hex_digits k (n / 16) ++ drop k (set text (15 - place) d)) left
    ∙ digit_set (15 - place) n d text (omega arith) d-is
    ∙ sym (ap (λ (k : ℕ). hex_digits k n ++ drop k text) here)
    ∙ kept
