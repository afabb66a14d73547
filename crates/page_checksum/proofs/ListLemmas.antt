-- Lists of bytes under XOR, with zero bytes before and after them, and what they do to the register.
use Rattle.std.proofs.Common.{◌≡◌, ℕ, zero, suc, ◌+◌, ◌<◌, ◌≤◌, List, [], ◌∷◌, ◌++◌, length, get_or, replicate, arith, refl, sym, ap, ◌∙◌}
use Rattle.std.proofs.lemmas.List.{get_or-append-add, length-replicate}
use Rattle.std.specs.Int.Bits.{xor_assoc, xor_zero_r}
use Rattle.std.specs.Prelude.{bit_xor}
use Rattle.page_checksum.specs.Crc.{after_bit, after_byte, after_bytes}
use Rattle.page_checksum.specs.Zeros.{after_zeros}
use Rattle.page_checksum.proofs.CrcLemmas.{after_bytes-append}
use Rattle.page_checksum.proofs.Linear.{after_byte-xor}
use Rattle.page_checksum.proofs.ZerosLemmas.{after_zeros-is, after_zeros-xor}

-- some zero bytes
abbrev pub zeros : ℕ → List ℕ
zeros count = replicate count 0

-- two lists, byte by byte
abbrev pub xors : List ℕ → List ℕ → List ℕ
xors [] back = []
xors (x ∷ front) [] = []
xors (x ∷ front) (y ∷ back) = bit_xor x y ∷ xors front back

-- how long it is, and its bytes
pub length-xors : (front back : List ℕ) → length front ≡ length back → length (xors front back) ≡ length front
length-xors [] back is = refl
length-xors (x ∷ front) [] is = absurd (omega arith)
length-xors (x ∷ front) (y ∷ back) is = ap suc (length-xors front back (omega arith))

pub get_or-xors : (front back : List ℕ) (k : ℕ) → length front ≡ length back → get_or (xors front back) k 0 ≡ bit_xor (get_or front k 0) (get_or back k 0)
get_or-xors [] [] k is = refl
get_or-xors [] (y ∷ back) k is = absurd (omega arith)
get_or-xors (x ∷ front) [] k is = absurd (omega arith)
get_or-xors (x ∷ front) (y ∷ back) zero is = refl
get_or-xors (x ∷ front) (y ∷ back) (suc k) is = get_or-xors front back k (omega arith)

-- the register moves linearly over whole texts
pub after_bytes-xor : (a b : ℕ) (front back : List ℕ) → length front ≡ length back
    → after_bytes (bit_xor a b) (xors front back) ≡ bit_xor (after_bytes a front) (after_bytes b back)
after_bytes-xor a b [] [] is = refl
after_bytes-xor a b [] (y ∷ back) is = absurd (omega arith)
after_bytes-xor a b (x ∷ front) [] is = absurd (omega arith)
after_bytes-xor a b (x ∷ front) (y ∷ back) is =
    ap (λ (r : ℕ). after_bytes r (xors front back)) (after_byte-xor a b x y) ∙ after_bytes-xor (after_byte a x) (after_byte b y) front back (omega arith)

-- zero bytes before a text do nothing to a register of 0
pub zeros-before : (count : ℕ) (text : List ℕ) → after_bytes 0 (zeros count ++ text) ≡ after_bytes 0 text
unfolding after_bit after_byte
zeros-before zero text = refl
zeros-before (suc count) text = zeros-before count text

-- zero bytes after a text come after its register
pub zeros-after : (count register : ℕ) (text : List ℕ) → after_bytes register (text ++ zeros count) ≡ after_zeros count (after_bytes register text)
zeros-after count register text = after_bytes-append register text (zeros count) ∙ after_zeros-is count (after_bytes register text)

-- the register passes a text as zero bytes, and the text's own part is apart
pub after_text : (register : ℕ) (text : List ℕ) → after_bytes register text ≡ bit_xor (after_zeros (length text) register) (after_bytes 0 text)
unfolding after_zeros
after_text register [] = sym (xor_zero_r register)
after_text register (byte ∷ text) =
    after_text (after_byte register byte) text
    ∙ ap (λ (x : ℕ). bit_xor (after_zeros (length text) x) (after_bytes 0 text)) (ap (λ (x : ℕ). after_byte x byte) (sym (xor_zero_r register)) ∙ after_byte-xor register 0 0 byte)
    ∙ ap (λ (x : ℕ). bit_xor x (after_bytes 0 text)) (after_zeros-xor (length text) (after_byte register 0) (after_byte 0 byte))
    ∙ xor_assoc (after_zeros (length text) (after_byte register 0)) (after_zeros (length text) (after_byte 0 byte)) (after_bytes 0 text)
    ∙ ap (bit_xor (after_zeros (length text) (after_byte register 0))) (sym (after_text (after_byte 0 byte) text))

-- bytes past the end read as 0, so zero bytes after a list change no read
pub get_or-zeros_after : (text : List ℕ) (count k : ℕ) → get_or (text ++ zeros count) k 0 ≡ get_or text k 0
get_or-zeros_after [] zero k = refl
get_or-zeros_after [] (suc count) zero = refl
get_or-zeros_after [] (suc count) (suc k) = get_or-zeros_after [] count k
get_or-zeros_after (x ∷ text) count zero = refl
get_or-zeros_after (x ∷ text) count (suc k) = get_or-zeros_after text count k

-- a read past the zero bytes before a text
pub get_or-zeros_before : (count : ℕ) (text : List ℕ) (k : ℕ) → get_or (zeros count ++ text) (count + k) 0 ≡ get_or text k 0
get_or-zeros_before count text k =
    ap (λ (n : ℕ). get_or (zeros count ++ text) (n + k) 0) (sym (length-replicate count 0)) ∙ get_or-append-add (zeros count) text k 0

-- a read among the zero bytes before a text
pub get_or-zeros : (count : ℕ) (text : List ℕ) (k : ℕ) → k < count → get_or (zeros count ++ text) k 0 ≡ 0
get_or-zeros zero text k below = absurd (omega arith)
get_or-zeros (suc count) text zero below = refl
get_or-zeros (suc count) text (suc k) below = get_or-zeros count text k (omega arith)

-- two texts that begin alike, each after as many zero bytes, begin alike
pub get_or-zeros_same : (count : ℕ) (front back : List ℕ) (k : ℕ) → ((i : ℕ) → i ≤ k → get_or front i 0 ≡ get_or back i 0)
    → get_or (zeros count ++ front) k 0 ≡ get_or (zeros count ++ back) k 0
get_or-zeros_same zero front back k alike = alike k (omega arith)
get_or-zeros_same (suc count) front back zero alike = refl
get_or-zeros_same (suc count) front back (suc k) alike = get_or-zeros_same count front back k (λ i below. alike i (omega arith))
