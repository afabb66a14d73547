-- A reply with the line that names a transaction, behind its first line.
use Rattle.std.proofs.Common.{◌≡◌, ℕ, ◌∷◌, List, ◌++◌, length, take, drop, ap, ◌∙◌, append_assoc, arith}
use Rattle.std.proofs.lemmas.Grind.{common_steps}
use Rattle.std.specs.Prelude.{codes}
use Rattle.lf_base.specs.Hex.{hex_digits}
use Rattle.httparse.specs.Grammar.{ReadsResponse, ResponseHead, print_field, print_response, print_section}
use Rattle.txid_proxy.specs.Lines.{IsStart}
use Rattle.txid_proxy.specs.Passing.{cookie_field, marked_head}
use Rattle.txid_proxy.proofs.FieldLines.{section_of}
use Rattle.txid_proxy.proofs.Starts.{cut_response}

-- the line
abbrev pub cookie_line : ℕ → List ℕ
cookie_line txid = codes "Set-Cookie: __txid=" ++ hex_digits 16 txid ++ codes "; Path=/\r\n"

line_is : (txid : ℕ) → print_field (cookie_field txid) ≡ cookie_line txid
line_is txid = simp append_assoc

take_front : (xs ys : List ℕ) (n : ℕ) → n ≡ length xs → take n (xs ++ ys) ≡ xs
take_front xs ys n e = grind (arith, common_steps)

drop_front : (xs ys : List ℕ) (n : ℕ) → n ≡ length xs → drop n (xs ++ ys) ≡ ys
drop_front xs ys n e = grind (arith, common_steps)

pub marked_is : (head : ResponseHead) (rest reply out out_now : List ℕ) (txid size : ℕ) → ReadsResponse reply head rest
    → ((start more : List ℕ) → IsStart start → reply ≡ start ++ more → size ≡ length start)
    → out_now ≡ out ++ take size reply ++ codes "Set-Cookie: __txid=" ++ hex_digits 16 txid ++ codes "; Path=/\r\n"
    → out_now ++ drop size reply ≡ out ++ (print_response (marked_head head txid) ++ rest)
marked_is head rest reply out out_now txid size reads sizes put =
    let cut = cut_response head reads.0 in
    let section : List ℕ = print_section head.fields head.last in
    let parts : reply ≡ cut.start ++ (section ++ rest) = reads.1 ∙ ap (λ (xs : List ℕ). xs ++ rest) (cut.cut head.fields) ∙ append_assoc cut.start section rest in
    let len = sizes cut.start (section ++ rest) cut.is parts in
    let front : take size reply ≡ cut.start = ap (take size) parts ∙ take_front cut.start (section ++ rest) size len in
    let back : drop size reply ≡ section ++ rest = ap (drop size) parts ∙ drop_front cut.start (section ++ rest) size len in
    let marked : print_response (marked_head head txid) ≡ cut.start ++ (cookie_line txid ++ section) =
    cut.cut (cookie_field txid ∷ head.fields) ∙ ap (λ (xs : List ℕ). cut.start ++ xs) (section_of (cookie_field txid) head.fields head.last
    ∙ ap (λ (xs : List ℕ). xs ++ section) (line_is txid)) in
    rw (put, front, back, marked) (simp append_assoc)

-- four texts put one behind another
pub four_put : (o0 o1 o2 o3 o4 a b c d a_is c_is : List ℕ) → o1 ≡ o0 ++ a → a ≡ a_is → o2 ≡ o1 ++ b → o3 ≡ o2 ++ c → c ≡ c_is → o4 ≡ o3 ++ d
    → o4 ≡ o0 ++ a_is ++ b ++ c_is ++ d
four_put o0 o1 o2 o3 o4 a b c d a_is c_is e1 ea e2 e3 ec e4 =
    e4 ∙ ap (λ (xs : List ℕ). xs ++ d) (e3 ∙ ap (λ (xs : List ℕ). o2 ++ xs) ec ∙ ap (λ (xs : List ℕ). xs ++ c_is) (e2 ∙ ap (λ (xs : List ℕ). xs ++ b) (e1
    ∙ ap (λ (xs : List ℕ). o0 ++ xs) ea)))
