-- Numbers as 16 digits, one behind another.
use Rattle.std.proofs.Common.{◌≡◌, ℕ, ◌+◌, ◌-◌, ◌≤◌, List, [], ◌∷◌, ◌++◌, length, take, drop, sym, ap, ◌∙◌, arith, append_assoc}
use Rattle.std.proofs.lemmas.List.{length-append}
use Rattle.std.proofs.Math.Seq.{drop-append_seam, take-append_seam}
use Rattle.httparse.proofs.GrammarLemmas.{cons-append}
use Rattle.lf_base.specs.Hex.{hex_digits}
use Rattle.lf_base.specs.Position.{position_text}
use Rattle.lf_base.specs.declared.pos.Pos.{Pos}
use Rattle.lf_base.proofs.HexLemmas.{hex_length}
use Rattle.stream_wire.specs.NumberLines.{number_end, number_line, pass_line}
use Rattle.stream_wire.specs.declared.pass_line.PassLine.{PassLine}

-- a number, a mark and the rest
pub number_size : (bytes : List ℕ) (n mark : ℕ) (rest : List ℕ) → bytes ≡ hex_digits 16 n ++ mark ∷ rest → 17 ≤ length bytes
number_size bytes n mark rest e = omega (arith, ap length e, length-append (hex_digits 16 n) (mark ∷ rest), hex_length 16 n)

pub number_part : (bytes : List ℕ) (n mark : ℕ) (rest : List ℕ) → bytes ≡ hex_digits 16 n ++ mark ∷ rest → take 16 bytes ≡ hex_digits 16 n
number_part bytes n mark rest e =
    ap (λ (l : List ℕ). take 16 l) e ∙ ap (λ (k : ℕ). take k (hex_digits 16 n ++ mark ∷ rest)) (sym (hex_length 16 n)) ∙ take-append_seam (hex_digits 16 n) (mark ∷ rest)

pub rest_part : (bytes : List ℕ) (n mark : ℕ) (rest : List ℕ) → bytes ≡ hex_digits 16 n ++ mark ∷ rest → drop 16 bytes ≡ mark ∷ rest
rest_part bytes n mark rest e =
    ap (λ (l : List ℕ). drop 16 l) e ∙ ap (λ (k : ℕ). drop k (hex_digits 16 n ++ mark ∷ rest)) (sym (hex_length 16 n)) ∙ drop-append_seam (hex_digits 16 n) (mark ∷ rest)

-- what stands behind a number and its mark is one rest
pub same_rest : (bytes : List ℕ) (n m mark : ℕ) (r q : List ℕ) → bytes ≡ hex_digits 16 n ++ mark ∷ r → bytes ≡ hex_digits 16 m ++ mark ∷ q → r ≡ q
same_rest bytes n m mark r q a b = ap (λ (l : List ℕ). drop 1 l) (sym (rest_part bytes n mark r a) ∙ rest_part bytes m mark q b)

-- a position in print is two numbers
pub two_numbers : (pos : Pos) (rest : List ℕ) → position_text pos ++ rest ≡ hex_digits 16 pos.txid ++ 47 ∷ (hex_digits 16 pos.sum ++ rest)
two_numbers pos rest = append_assoc (hex_digits 16 pos.txid) (47 ∷ hex_digits 16 pos.sum) rest

regroup : (out a b t s : List ℕ) → ((((out ++ (a ++ 32 ∷ [])) ++ (b ++ 32 ∷ [])) ++ (t ++ 47 ∷ [])) ++ (s ++ 10 ∷ [])) ≡ out ++ (a ++ 32 ∷ (b ++ 32 ∷ ((t ++ 47 ∷ s) ++ 10 ∷ [])))
regroup out a b t s = simp (append_assoc, cons-append)

pub pass_text : (out : List ℕ) (pass : PassLine)
    → ((((out ++ (hex_digits 16 pass.number ++ 32 ∷ [])) ++ (hex_digits 16 pass.until ++ 32 ∷ [])) ++ (hex_digits 16 pass.pos.txid ++ 47 ∷ [])) ++ (hex_digits 16 pass.pos.sum ++ 10 ∷ [])) ≡ out ++ pass_line pass
pass_text out pass = regroup out (hex_digits 16 pass.number) (hex_digits 16 pass.until) (hex_digits 16 pass.pos.txid) (hex_digits 16 pass.pos.sum)

-- ---- the line of a name and a number

pub end_length : (n : ℕ) → length (number_end n) ≡ 18
end_length n = omega (arith, length-append (hex_digits 16 n) (10 ∷ []), hex_length 16 n)

pub line_length : (line name : List ℕ) (n : ℕ) → line ≡ number_line name n → length line ≡ length name + 18
line_length line name n e = ap length e ∙ length-append name (number_end n) ∙ ap (λ (k : ℕ). length name + k) (end_length n)

pub name_part : (line name : List ℕ) (n : ℕ) → line ≡ number_line name n → take (length line - 18) line ≡ name
name_part line name n e =
    ap (λ (k : ℕ). take k line) (omega (arith, line_length line name n e)) ∙ ap (λ (l : List ℕ). take (length name) l) e ∙ take-append_seam name (number_end n)

pub end_part : (line name : List ℕ) (n : ℕ) → line ≡ number_line name n → drop (length line - 18) line ≡ number_end n
end_part line name n e =
    ap (λ (k : ℕ). drop k line) (omega (arith, line_length line name n e)) ∙ ap (λ (l : List ℕ). drop (length name) l) e ∙ drop-append_seam name (number_end n)
