-- The product of a block and z^16 + z^12 + z^4 + 1, as a list of bytes: what it does to the register, and its bytes.
use Rattle.std.proofs.Common.{◌≡◌, ℕ, ◌+◌, ◌<◌, ◌≤◌, ◌^◌, List, ◌++◌, length, get_or, take, arith, refl, sym, ap, ◌∙◌, add_comm}
use Rattle.std.proofs.lemmas.List.{get_or-drop, get_or-take, length-append, length-replicate}
use Rattle.std.specs.Prelude.{bit_xor}
use Rattle.page_checksum.specs.Blocks.{carry_byte, product_byte}
use Rattle.page_checksum.specs.Crc.{after_bytes}
use Rattle.page_checksum.specs.Zeros.{after_zeros}
use Rattle.page_checksum.proofs.ListLemmas.{after_bytes-xor, get_or-xors, get_or-zeros, get_or-zeros_after, get_or-zeros_before, get_or-zeros_same, length-xors, xors, zeros, zeros-after, zeros-before}
use Rattle.page_checksum.proofs.PowerLemmas.{zeros_fold}

-- a block with zero bytes before and after it
abbrev shifted : ℕ → ℕ → List ℕ → List ℕ
shifted before after block = zeros before ++ (block ++ zeros after)

-- the first and the first two and three of the four shifted blocks, and all of them, under XOR
abbrev pub two : List ℕ → List ℕ
two block = xors (shifted 16 0 block) (shifted 12 4 block)

abbrev pub three : List ℕ → List ℕ
three block = xors (two block) (shifted 4 12 block)

unfoldable pub product : List ℕ → List ℕ
product block = xors (three block) (shifted 0 16 block)

-- each is 16 bytes longer than the block
length-shifted : (before after : ℕ) (block : List ℕ) → before + after ≡ 16 → length (shifted before after block) ≡ length block + 16
length-shifted before after block is =
    length-append (zeros before) (block ++ zeros after)
    ∙ omega (arith, length-replicate {A = ℕ} before 0, length-append block (zeros after), length-replicate {A = ℕ} after 0)

length-two : (block : List ℕ) → length (two block) ≡ length block + 16
length-two block =
    length-xors (shifted 16 0 block) (shifted 12 4 block) (length-shifted 16 0 block refl ∙ sym (length-shifted 12 4 block refl)) ∙ length-shifted 16 0 block refl

length-three : (block : List ℕ) → length (three block) ≡ length block + 16
length-three block = length-xors (two block) (shifted 4 12 block) (length-two block ∙ sym (length-shifted 4 12 block refl)) ∙ length-two block

pub length-product : (block : List ℕ) → length (product block) ≡ length block + 16
unfolding product
length-product block = length-xors (three block) (shifted 0 16 block) (length-three block ∙ sym (length-shifted 0 16 block refl)) ∙ length-three block

-- zero bytes before the block do nothing to a register of 0
value-shifted : (before after : ℕ) (block : List ℕ) → after_bytes 0 (shifted before after block) ≡ after_zeros after (after_bytes 0 block)
value-shifted before after block = zeros-before before (block ++ zeros after) ∙ zeros-after after 0 block

-- the product moves a register of 0 as the block and 256 zero bytes do
pub value-product : (block : List ℕ) → after_bytes 0 block < 2 ^ 64 → after_bytes 0 (product block) ≡ after_zeros 256 (after_bytes 0 block)
unfolding product after_zeros
value-product block small =
    let v : ℕ = after_bytes 0 block in
    let same : (before after : ℕ) → before + after ≡ 16 → length block + 16 ≡ length (shifted before after block) =
    λ before after is. sym (length-shifted before after block is) in
    after_bytes-xor 0 0 (three block) (shifted 0 16 block) (length-three block ∙ same 0 16 refl)
    ∙ ap (λ (x : ℕ). bit_xor x (after_bytes 0 (shifted 0 16 block)))
    (after_bytes-xor 0 0 (two block) (shifted 4 12 block) (length-two block ∙ same 4 12 refl)
    ∙ ap (λ (x : ℕ). bit_xor x (after_bytes 0 (shifted 4 12 block)))
    (after_bytes-xor 0 0 (shifted 16 0 block) (shifted 12 4 block) (length-shifted 16 0 block refl ∙ same 12 4 refl)
    ∙ ap (λ (x : ℕ). bit_xor x (after_bytes 0 (shifted 12 4 block))) (value-shifted 16 0 block)
    ∙ ap (bit_xor v) (value-shifted 12 4 block))
    ∙ ap (bit_xor (bit_xor v (after_zeros 4 v))) (value-shifted 4 12 block))
    ∙ ap (bit_xor (bit_xor (bit_xor v (after_zeros 4 v)) (after_zeros 12 v))) (value-shifted 0 16 block)
    ∙ sym (zeros_fold v small)

-- a byte of the product, and of a shifted block
get_or-product : (block : List ℕ) (k : ℕ)
    → get_or (product block) k 0 ≡ bit_xor (bit_xor (bit_xor (get_or (shifted 16 0 block) k 0) (get_or (shifted 12 4 block) k 0)) (get_or (shifted 4 12 block) k 0)) (get_or (shifted 0 16 block) k 0)
unfolding product
get_or-product block k =
    get_or-xors (three block) (shifted 0 16 block) k (length-three block ∙ sym (length-shifted 0 16 block refl))
    ∙ ap (λ (x : ℕ). bit_xor x (get_or (shifted 0 16 block) k 0))
    (get_or-xors (two block) (shifted 4 12 block) k (length-two block ∙ sym (length-shifted 4 12 block refl))
    ∙ ap (λ (x : ℕ). bit_xor x (get_or (shifted 4 12 block) k 0))
    (get_or-xors (shifted 16 0 block) (shifted 12 4 block) k (length-shifted 16 0 block refl ∙ sym (length-shifted 12 4 block refl))))

get_or-shifted : (before after : ℕ) (block : List ℕ) (k i : ℕ) → i ≡ before + k → get_or (shifted before after block) i 0 ≡ get_or block k 0
get_or-shifted before after block k i is =
    ap (λ (n : ℕ). get_or (shifted before after block) n 0) is ∙ get_or-zeros_before before (block ++ zeros after) k ∙ get_or-zeros_after block after k

-- the bytes of the product from the block's first byte on
pub product_later : (block : List ℕ) (k : ℕ) → get_or (product block) (16 + k) 0 ≡ product_byte block k
product_later block k =
    let i : ℕ = 16 + k in
    get_or-product block i
    ∙ rw (get_or-shifted 16 0 block k i refl, get_or-shifted 12 4 block (k + 4) i (omega arith), get_or-shifted 4 12 block (k + 12) i (omega arith), get_or-shifted 0 16 block (k + 16) i (omega arith)) refl

-- the first 16 bytes of the product
pub product_first : (block : List ℕ) (k : ℕ) → k < 16 → get_or (product block) k 0 ≡ carry_byte block k
product_first block k below =
    let top : List ℕ = take 16 block in
    let alike : (after i : ℕ) → i ≤ k → get_or (block ++ zeros after) i 0 ≡ get_or top i 0 =
    λ after i within. get_or-zeros_after block after i ∙ sym (get_or-take 16 block i 0 (omega arith)) in
    let none : get_or (shifted 16 0 block) k 0 ≡ 0 = get_or-zeros 16 (block ++ zeros 0) k below in
    let by_12 : get_or (shifted 12 4 block) k 0 ≡ get_or (zeros 12 ++ top) k 0 = get_or-zeros_same 12 (block ++ zeros 4) top k (alike 4) in
    let by_4 : get_or (shifted 4 12 block) k 0 ≡ get_or (zeros 12 ++ top) (k + 8) 0 =
    get_or-zeros_same 4 (block ++ zeros 12) top k (alike 12) ∙ get_or-drop 8 (zeros 12 ++ top) k 0 ∙ ap (λ (n : ℕ). get_or (zeros 12 ++ top) n 0) (add_comm 8 k) in
    let by_none : get_or (shifted 0 16 block) k 0 ≡ get_or (zeros 12 ++ top) (k + 12) 0 =
    alike 16 k (omega arith) ∙ sym (get_or-zeros_before 12 top k) ∙ ap (λ (n : ℕ). get_or (zeros 12 ++ top) n 0) (add_comm 12 k) in
    get_or-product block k ∙ rw (none, by_12, by_4, by_none) refl
