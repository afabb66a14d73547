-- A text in pieces, and what each does to the register.
use Rattle.std.proofs.Common.{◌≡◌, ℕ, zero, suc, ◌+◌, ◌-◌, ◌*◌, ◌<◌, ◌≤◌, ◌/◌, List, [], ◌∷◌, ◌++◌, length, get_or, take, drop, take-add, arith, sym, ap, ◌∙◌}
use Rattle.std.proofs.Math.Nat.{zero-mul, suc-mul, add_comm}
use Rattle.std.proofs.Math.Seq.{take-length}
use Rattle.std.proofs.lemmas.List.{take_more, append-nil, take-append-drop}
use Rattle.std.proofs.lemmas.List.Folds.{concat-append}
use Rattle.std.specs.List.{concat}
use Rattle.std.specs.Simd.{first_chunks}
use Rattle.page_checksum.specs.Crc.{after_bytes}
use Rattle.page_checksum.proofs.CrcLemmas.{after_bytes-append}

-- one more piece
pub after_piece : (register : ℕ) (pieces : List (List ℕ)) (i : ℕ) → i < length pieces
    → after_bytes register (concat (take (i + 1) pieces)) ≡ after_bytes (after_bytes register (concat (take i pieces))) (get_or pieces i [])
after_piece register pieces i below =
    ap (λ (xs : List (List ℕ)). after_bytes register (concat xs)) (take_more pieces i [] below)
    ∙ ap (after_bytes register) (concat-append (take i pieces) (get_or pieces i [] ∷ []))
    ∙ ap (λ (xs : List ℕ). after_bytes register (concat (take i pieces) ++ xs)) (append-nil (get_or pieces i []))
    ∙ after_bytes-append register (concat (take i pieces)) (get_or pieces i [])

-- the chunks at the front are the front
concat-first_chunks : (size count : ℕ) (bytes : List ℕ) → concat (first_chunks size count bytes) ≡ take (count * size) bytes
concat-first_chunks size zero bytes = sym (ap (λ (n : ℕ). take n bytes) (zero-mul size))
concat-first_chunks size (suc count) bytes =
    ap (λ (xs : List ℕ). take size bytes ++ xs) (concat-first_chunks size count (drop size bytes))
    ∙ sym (take-add size (count * size) bytes)
    ∙ ap (λ (n : ℕ). take n bytes) (add_comm size (count * size) ∙ sym (suc-mul count size))

-- whole chunks and then the bytes that are left are the text
pub chunks_join : (register size : ℕ) (bytes : List ℕ)
    → after_bytes (after_bytes register (concat (first_chunks size (length bytes / size) bytes))) (drop (length bytes / size * size) bytes) ≡ after_bytes register bytes
chunks_join register size bytes =
    ap (λ (xs : List ℕ). after_bytes (after_bytes register xs) (drop (length bytes / size * size) bytes)) (concat-first_chunks size (length bytes / size) bytes)
    ∙ sym (after_bytes-append register (take (length bytes / size * size) bytes) (drop (length bytes / size * size) bytes))
    ∙ ap (after_bytes register) (take-append-drop (length bytes / size * size) bytes)

-- bytes in place of the first ones of a text, which move a register of 0 as those move this one
pub front_replaced : (register count : ℕ) (front text : List ℕ) → after_bytes 0 front ≡ after_bytes register (take count text)
    → after_bytes 0 (front ++ drop count text) ≡ after_bytes register text
front_replaced register count front text same =
    after_bytes-append 0 front (drop count text)
    ∙ ap (λ (r : ℕ). after_bytes r (drop count text)) same
    ∙ sym (after_bytes-append register (take count text) (drop count text))
    ∙ ap (after_bytes register) (take-append-drop count text)

-- a state that has taken in the pieces before this one, and then this one
pub piece_joined : (first state new : List ℕ) (pieces : List (List ℕ)) (i : ℕ) → i < length pieces
    → after_bytes 0 state ≡ after_bytes 0 (first ++ concat (take i pieces)) → after_bytes 0 new ≡ after_bytes 0 (state ++ get_or pieces i [])
    → after_bytes 0 new ≡ after_bytes 0 (first ++ concat (take (i + 1) pieces))
piece_joined first state new pieces i below before now =
    now ∙ after_bytes-append 0 state (get_or pieces i [])
    ∙ ap (λ (r : ℕ). after_bytes r (get_or pieces i [])) (before ∙ after_bytes-append 0 first (concat (take i pieces)))
    ∙ sym (after_bytes-append 0 first (concat (take (i + 1) pieces)) ∙ after_piece (after_bytes 0 first) pieces i below)

-- a state that stands for the first piece, and the pieces after it
pub pieces_after_first : (register : ℕ) (state : List ℕ) (pieces : List (List ℕ)) → 1 ≤ length pieces → after_bytes 0 state ≡ after_bytes register (get_or pieces 0 [])
    → after_bytes 0 (state ++ concat (take (length pieces - 1) (drop 1 pieces))) ≡ after_bytes register (concat pieces)
pieces_after_first register state [] some same = absurd (omega arith)
pieces_after_first register state (piece ∷ pieces) some same =
    let rest : length (piece ∷ pieces) - 1 ≡ length pieces = omega arith in
    let all : take (length (piece ∷ pieces) - 1) pieces ≡ pieces = ap (λ (n : ℕ). take n pieces) rest ∙ take-length pieces in
    ap (λ (xs : List (List ℕ)). after_bytes 0 (state ++ concat xs)) all
    ∙ after_bytes-append 0 state (concat pieces)
    ∙ ap (λ (r : ℕ). after_bytes r (concat pieces)) same
    ∙ sym (after_bytes-append register piece (concat pieces))
