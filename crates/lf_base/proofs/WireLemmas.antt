-- The bytes that a link in memory has given and has left, after a read.
use Rattle.std.proofs.Common.{◌≡◌, ◌<◌, ℕ, ◌+◌, List, [], ◌++◌, length, min, take, drop, sym, ap, ◌∙◌, arith}
use Rattle.std.proofs.lemmas.List.{take-append-drop, drop-drop, drop_all, length-drop}
use Rattle.std.proofs.Math.Seq.{take-add}

pub left_less : (at n : ℕ) (input piece : List ℕ) → piece ≡ take n (drop at input) → drop at input ≡ piece ++ drop (at + n) input
left_less at n input piece is =
    sym (take-append-drop n (drop at input)) ∙ ap (λ (l : List ℕ). take n (drop at input) ++ l) (drop-drop n at input)
    ∙ ap (λ (l : List ℕ). l ++ drop (at + n) input) (sym is)

pub given_more : (at n : ℕ) (input piece : List ℕ) → piece ≡ take n (drop at input) → take (at + n) input ≡ take at input ++ piece
given_more at n input piece is = take-add at n input ∙ ap (λ (l : List ℕ). take at input ++ l) (sym is)

-- a read that gives nothing although there is room is at the end
pub nothing_left : (at n size room : ℕ) (input : List ℕ) → n ≡ min (min size room) (length (drop at input)) → 0 < size → n ≡ 0 → 0 < room → drop (at + n) input ≡ []
nothing_left at n size room input is some none space =
    drop_all (at + n) input (omega (arith, length-drop at input, is, some, none, space))
