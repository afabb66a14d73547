-- A block folded into the one that follows.
use Rattle.std.proofs.Common.{◌≡◌, ℕ, ◌+◌, ◌-◌, ◌<◌, ◌≤◌, ◌^◌, List, ◌++◌, length, get_or, take, drop, inl, inr, arith, refl, sym, ap, subst, take-take, ◌∙◌, append_assoc}
use borrow.Rule.Slice.PartMut.{put_mid}
use Rattle.std.proofs.Math.Seq.{take-append_seam, drop-append_seam}
use Rattle.std.proofs.lemmas.Bool.{cases_lt}
use Rattle.std.proofs.lemmas.Grind.{same_number_lists}
use Rattle.std.proofs.lemmas.List.{get_or-append-add, get_or_append_left, get_or-append_right, get_or-drop, get_or-take, length-append, length-drop, length-replicate, length-take-le, take-append-drop, take-append-le}
use Rattle.std.proofs.lemmas.Nat.{xor_comm}
use Rattle.std.specs.Int.Bits.{xor_assoc, xor_self, xor_zero_r}
use Rattle.std.specs.Prelude.{bit_xor}
use Rattle.page_checksum.specs.Blocks.{carry_after, carry_byte, product_byte, IsCarried, IsProductInto}
use Rattle.page_checksum.specs.Crc.{after_bytes}
use Rattle.page_checksum.specs.Zeros.{after_zeros}
use Rattle.page_checksum.proofs.CrcLemmas.{after_bytes-append, after_bytes_fit}
use Rattle.page_checksum.proofs.ListLemmas.{after_bytes-xor, after_text, get_or-xors, get_or-zeros, get_or-zeros_after, get_or-zeros_before, length-xors, xors, zeros, zeros-before}
use Rattle.page_checksum.proofs.ProductLemmas.{length-product, product, product_first, product_later, value-product}
use Rattle.page_checksum.proofs.ZerosLemmas.{after_zeros-xor}

-- what stands under the same XOR on both sides goes
xor_cancel : (a b c : ℕ) → bit_xor a c ≡ bit_xor c b → a ≡ b
xor_cancel a b c same =
    let out : (x : ℕ) → bit_xor (bit_xor x c) c ≡ x = λ x. xor_assoc x c c ∙ ap (bit_xor x) (xor_self c) ∙ xor_zero_r x in
    sym (out a) ∙ ap (λ (x : ℕ). bit_xor x c) (same ∙ xor_comm c b) ∙ out b

-- bytes XORed into the end of a list
written_end : (count : ℕ) (block carried end : List ℕ) → length block ≡ count + 16 → length carried ≡ 16 → length end ≡ 16
    → ((k : ℕ) → k < 16 → get_or end k 0 ≡ bit_xor (get_or block (count + k) 0) (get_or carried k 0))
    → take count block ++ end ≡ xors block (zeros count ++ carried)
written_end count block carried end whole c_whole e_whole bytes =
    let front : List ℕ = take count block in
    let front_long : length front ≡ count = length-take-le count block (omega arith) in
    let tail : List ℕ = zeros count ++ carried in
    let tail_long : length block ≡ length tail = whole ∙ sym (length-append (zeros count) carried ∙ omega (arith, length-replicate {A = ℕ} count 0)) in
    let long : length (front ++ end) ≡ length block = length-append front end ∙ omega arith in
    same_number_lists (front ++ end) (xors block tail) (long ∙ sym (length-xors block tail tail_long)) (λ k below.
    sym (get_or-xors block tail k tail_long ∙ elim (cases_lt k count) [
      | inl early ↦
          let none : get_or tail k 0 ≡ 0 = get_or-zeros count carried k early in
          ap (bit_xor (get_or block k 0)) none ∙ xor_zero_r (get_or block k 0)
          ∙ sym (get_or_append_left front end 0 k (subst (λ (n : ℕ). k < n) (sym front_long) early) ∙ get_or-take count block k 0 early)
      | inr late ↦
          let j : ℕ = k - count in
          let place : count + j ≡ k = omega arith in
          ap (λ (n : ℕ). bit_xor (get_or block n 0) (get_or tail n 0)) (sym place)
          ∙ ap (bit_xor (get_or block (count + j) 0)) (get_or-zeros_before count carried j)
          ∙ sym (bytes j (omega arith))
          ∙ sym (get_or-append-add front end j 0)
          ∙ ap (λ (n : ℕ). get_or (front ++ end) n 0) (ap (λ (n : ℕ). n + j) front_long ∙ place)
    ]))

-- the carry reads no more than the first 16 bytes
carry_same : (block end : List ℕ) (k : ℕ) → length block ≡ 256 → carry_byte (take 240 block ++ end) k ≡ carry_byte block k
carry_same block end k whole =
    let long : 16 ≤ length (take 240 block) = omega (arith, length-take-le 240 block (omega arith)) in
    let top : take 16 (take 240 block ++ end) ≡ take 16 block = take-append-le 16 (take 240 block) end long ∙ take-take 16 240 block (omega arith) in
    ap (λ (xs : List ℕ). carry_after (zeros 12 ++ xs) k) top

-- the carried bytes of a block, and the rest of its product
abbrev carried : List ℕ → List ℕ
carried block = take 16 (product block)

abbrev folded : List ℕ → List ℕ
folded block = drop 16 (product block)

-- a product moves the register as its first 16 bytes do before 256 zero bytes, and the rest of it apart
value-parts : (block : List ℕ) → length block ≡ 256 → after_bytes 0 (product block) ≡ bit_xor (after_zeros 256 (after_bytes 0 (carried block))) (after_bytes 0 (folded block))
value-parts block whole =
    let long : length (folded block) ≡ 256 = length-drop 16 (product block) ∙ omega (arith, length-product block) in
    ap (after_bytes 0) (sym (take-append-drop 16 (product block)))
    ∙ after_bytes-append 0 (carried block) (folded block)
    ∙ after_text (after_bytes 0 (carried block)) (folded block)
    ∙ ap (λ (n : ℕ). bit_xor (after_zeros n (after_bytes 0 (carried block))) (after_bytes 0 (folded block))) long

-- with its carried bytes XORed into its end, the rest of a block's product is the block before 256 zero bytes
value-folded : (block new : List ℕ) → length block ≡ 256 → length new ≡ 256 → after_bytes 0 new < 2 ^ 64
    → new ≡ xors block (zeros 240 ++ carried new) → after_zeros 256 (after_bytes 0 block) ≡ after_bytes 0 (folded new)
value-folded block new whole new_whole small is =
    let c : ℕ = after_bytes 0 (carried new) in
    let tail : List ℕ = zeros 240 ++ carried new in
    let tail_long : length block ≡ length tail =
    whole ∙ sym (length-append (zeros 240) (carried new) ∙ omega (arith, length-replicate {A = ℕ} 240 0, length-take-le 16 (product new) (omega (arith, length-product new)))) in
    let value : after_bytes 0 new ≡ bit_xor (after_bytes 0 block) c =
    ap (after_bytes 0) is ∙ after_bytes-xor 0 0 block tail tail_long ∙ ap (bit_xor (after_bytes 0 block)) (zeros-before 240 (carried new)) in
    xor_cancel (after_zeros 256 (after_bytes 0 block)) (after_bytes 0 (folded new)) (after_zeros 256 c)
    (sym (after_zeros-xor 256 (after_bytes 0 block) c) ∙ ap (after_zeros 256) (sym value) ∙ sym (value-product new small) ∙ value-parts new new_whole)

-- the bytes of a block with other last bytes fit
fits-joined : (count : ℕ) (block end : List ℕ) → count ≤ length block → ((i : ℕ) → get_or block i 0 < 256) → ((i : ℕ) → get_or end i 0 < 256)
    → (i : ℕ) → get_or (take count block ++ end) i 0 < 256
fits-joined count block end within of_block of_end i =
    let front : List ℕ = take count block in
    let long : length front ≡ count = length-take-le count block within in
    elim (cases_lt i count) [
      | inl early ↦ rw (get_or_append_left front end 0 i (subst (λ (n : ℕ). i < n) (sym long) early), get_or-take count block i 0 early) (of_block i)
      | inr late ↦ rw (get_or-append_right front end count i 0 long late) (of_end (i - count))
    ]

-- zero bytes after a block are no part of its product
product-padded : (block : List ℕ) (k : ℕ) → product_byte (block ++ zeros 16) k ≡ product_byte block k
product-padded block k =
    rw (get_or-zeros_after block 16 k, get_or-zeros_after block 16 (k + 4), get_or-zeros_after block 16 (k + 12), get_or-zeros_after block 16 (k + 16)) refl

-- the block that stands for a block and the next
pub fold_is : (block end next new : List ℕ) → length block ≡ 256 → length end ≡ 16 → length next ≡ 256 → length new ≡ 256
    → ((i : ℕ) → get_or block i 0 < 256) → ((i : ℕ) → get_or end i 0 < 256)
    → IsCarried block end → IsProductInto (take 240 block ++ end ++ zeros 16) next new
    → after_bytes 0 new ≡ after_bytes 0 (block ++ next)
fold_is block end next new whole end_whole next_whole new_whole of_block of_end ends bytes =
    let joined : List ℕ = take 240 block ++ end in
    let joined_whole : length joined ≡ 256 = length-append (take 240 block) end ∙ omega (arith, length-take-le 240 block (omega arith)) in
    let small : after_bytes 0 joined < 2 ^ 64 = after_bytes_fit 0 joined (omega arith) (fits-joined 240 block end (omega arith) of_block of_end) in
    let carried_whole : length (carried joined) ≡ 16 = length-take-le 16 (product joined) (omega (arith, length-product joined)) in
    let is : joined ≡ xors block (zeros 240 ++ carried joined) =
    written_end 240 block (carried joined) end whole carried_whole end_whole (λ k below.
    ends k below ∙ ap (bit_xor (get_or block (240 + k) 0)) (sym (get_or-take 16 (product joined) k 0 below ∙ product_first joined k below ∙ carry_same block end k whole))) in
    let value : after_zeros 256 (after_bytes 0 block) ≡ after_bytes 0 (folded joined) = value-folded block joined whole joined_whole small is in
    let folded_whole : length (folded joined) ≡ 256 = length-drop 16 (product joined) ∙ omega (arith, length-product joined) in
    let same_long : length next ≡ length (folded joined) = next_whole ∙ sym folded_whole in
    let new_is : new ≡ xors next (folded joined) =
    same_number_lists new (xors next (folded joined)) (new_whole ∙ sym (length-xors next (folded joined) same_long ∙ next_whole)) (λ k below.
    bytes k (omega arith)
    ∙ ap (bit_xor (get_or next k 0)) (product-padded joined k ∙ sym (get_or-drop 16 (product joined) k 0 ∙ product_later joined k))
    ∙ sym (get_or-xors next (folded joined) k same_long)) in
    ap (after_bytes 0) new_is
    ∙ after_bytes-xor 0 0 next (folded joined) same_long
    ∙ xor_comm (after_bytes 0 next) (after_bytes 0 (folded joined))
    ∙ ap (λ (x : ℕ). bit_xor x (after_bytes 0 next)) (sym value)
    ∙ sym (after_bytes-append 0 block next ∙ after_text (after_bytes 0 block) next ∙ ap (λ (n : ℕ). bit_xor (after_zeros n (after_bytes 0 block)) (after_bytes 0 next)) next_whole)

-- what stands in a block with its last bytes written
pub end_written : (front end rest : List ℕ) → length front ≡ 240 → put_mid 240 16 (front ++ rest) end ≡ front ++ end ++ drop 16 rest
end_written front end rest long =
    let whole : List ℕ = front ++ rest in
    let before : take 240 whole ≡ front = ap (λ (n : ℕ). take n whole) (sym long) ∙ take-append_seam front rest in
    let after : drop 240 whole ≡ rest = ap (λ (n : ℕ). drop n whole) (sym long) ∙ drop-append_seam front rest in
    ap (λ (xs : List ℕ). xs ++ (end ++ drop 16 (drop 240 whole))) before ∙ ap (λ (xs : List ℕ). front ++ (end ++ drop 16 xs)) after ∙ sym (append_assoc front end (drop 16 rest))
