-- The lines that ask for a stream.
use Rattle.std.proofs.Common.{◌≡◌, ℕ, ◌+◌, ◌-◌, List, [], ◌∷◌, ◌++◌, length, take, drop, sym, ap, ◌∙◌, arith}
use Rattle.std.proofs.lemmas.List.{length-append, take-append-drop}
use Rattle.std.proofs.Math.Seq.{drop-append_seam, take-append_seam}
use Rattle.lf_base.proofs.HexLemmas.{position_length}
use Rattle.lf_base.specs.Position.{position_text}
use Rattle.lf_base.specs.declared.pos.Pos.{Pos}
use Rattle.stream_wire.specs.StreamLine.{line_end, stream_line}

between : (text : List ℕ) → length text ≡ 33 → length (32 ∷ (text ++ 10 ∷ [])) ≡ 35
between text e = omega (arith, length-append text (10 ∷ []), e)

pub end_length : (pos : Pos) → length (line_end pos) ≡ 35
end_length pos = between (position_text pos) (position_length pos)

pub line_length : (line name : List ℕ) (pos : Pos) → line ≡ stream_line name pos → length line ≡ length name + 35
line_length line name pos e = ap length e ∙ length-append name (line_end pos) ∙ ap (λ (n : ℕ). length name + n) (end_length pos)

name_length : (line name : List ℕ) (pos : Pos) → line ≡ stream_line name pos → length line - 35 ≡ length name
name_length line name pos e = omega (arith, line_length line name pos e)

-- what stands in front of the last 35 bytes, and they
pub name_part : (line name : List ℕ) (pos : Pos) → line ≡ stream_line name pos → take (length line - 35) line ≡ name
name_part line name pos e =
    ap (λ (n : ℕ). take n line) (name_length line name pos e) ∙ ap (λ (l : List ℕ). take (length name) l) e ∙ take-append_seam name (line_end pos)

pub end_part : (line name : List ℕ) (pos : Pos) → line ≡ stream_line name pos → drop (length line - 35) line ≡ line_end pos
end_part line name pos e =
    ap (λ (n : ℕ). drop n line) (name_length line name pos e) ∙ ap (λ (l : List ℕ). drop (length name) l) e ∙ drop-append_seam name (line_end pos)

-- the three parts of these
pub text_part : (bytes : List ℕ) (pos : Pos) → bytes ≡ line_end pos → take 33 (drop 1 bytes) ≡ position_text pos
text_part bytes pos e =
    ap (λ (l : List ℕ). take 33 (drop 1 l)) e
    ∙ ap (λ (n : ℕ). take n (position_text pos ++ 10 ∷ [])) (sym (position_length pos)) ∙ take-append_seam (position_text pos) (10 ∷ [])

pub newline_part : (bytes : List ℕ) (pos : Pos) → bytes ≡ line_end pos → drop 33 (drop 1 bytes) ≡ 10 ∷ []
newline_part bytes pos e =
    ap (λ (l : List ℕ). drop 33 (drop 1 l)) e
    ∙ ap (λ (n : ℕ). drop n (position_text pos ++ 10 ∷ [])) (sym (position_length pos)) ∙ drop-append_seam (position_text pos) (10 ∷ [])

pub blank_part : (bytes : List ℕ) (pos : Pos) → bytes ≡ line_end pos → take 1 bytes ≡ 32 ∷ []
blank_part bytes pos e = ap (λ (l : List ℕ). take 1 l) e

-- the parts make them
pub end_of_parts : (bytes : List ℕ) (pos : Pos) → take 1 bytes ≡ 32 ∷ [] → take 33 (drop 1 bytes) ≡ position_text pos → drop 33 (drop 1 bytes) ≡ 10 ∷ []
    → bytes ≡ line_end pos
end_of_parts bytes pos b t n =
    sym (take-append-drop 1 bytes) ∙ ap (λ (l : List ℕ). l ++ drop 1 bytes) b
    ∙ ap (λ (l : List ℕ). 32 ∷ l) (sym (take-append-drop 33 (drop 1 bytes)) ∙ ap (λ (l : List ℕ). l ++ drop 33 (drop 1 bytes)) t ∙ ap (λ (l : List ℕ). position_text pos ++ l) n)

pub line_of_parts : (line : List ℕ) (pos : Pos) (k : ℕ) → drop k line ≡ line_end pos → line ≡ stream_line (take k line) pos
line_of_parts line pos k e = sym (take-append-drop k line) ∙ ap (λ (l : List ℕ). take k line ++ l) e
