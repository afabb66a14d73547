-- Parts written one after another are the encoding of the file.
use Rattle.std.proofs.Common.{◌≡◌, ℕ, suc, ◌+◌, ◌<◌, List, ◌∷◌, ◌++◌, length, take, drop, refl, sym, ap, ◌∙◌, append_assoc, add-one, arith, ◌≤◌}
use Rattle.std.specs.Io.{StartsWith}
use Rattle.std.proofs.lemmas.List.{length-take, take-append-le}
use Rattle.std.specs.Prelude.{slice_index_or}
use Rattle.std.proofs.Math.Seq.{drop-cons}
use Rattle.std.specs.Int.{w32, w64, to_be_bytes}
use Rattle.page_checksum.specs.Crc.{after_bytes, all_ones, crc}
use Rattle.page_checksum.proofs.CrcLemmas.{after_bytes-append}
use Rattle.lf_sqlite_pages.specs.declared.page_write.PageWrite.{PageWrite}
use Rattle.ltx_codec.specs.Format.{header_encoding, no_meaning, page_encoding, pages_encoding, end_encoding, sealed, summed_encoding, file_encoding, file_sum, IsFile, IsLtx}
use Rattle.ltx_codec.specs.Encoding.{trailer_encoding}
use Rattle.ltx_codec.specs.declared.file.Ltx.{Ltx}

-- the pages left from i on are the i-th page and those left from i + 1 on
left_over : (pages : List PageWrite) (i : ℕ) (w : PageWrite) → i < length pages → w ≡ slice_index_or pages i w → drop i pages ≡ w ∷ drop (i + 1) pages
left_over pages i w below at = drop-cons pages i w below ∙ ap (λ (v : PageWrite). v ∷ drop (suc i) pages) (sym at) ∙ ap (λ (n : ℕ). w ∷ drop n pages) (sym (add-one i))

-- a page written and the encoding of the pages behind it
pub page_written : (pages : List PageWrite) (i : ℕ) (w : PageWrite) (old new : List ℕ) → i < length pages → w ≡ slice_index_or pages i w → new ≡ old ++ page_encoding w.number w.bytes
    → new ++ pages_encoding (drop (i + 1) pages) ≡ old ++ pages_encoding (drop i pages)
page_written pages i w old new below at written =
    ap (λ (l : List ℕ). l ++ pages_encoding (drop (i + 1) pages)) written
    ∙ append_assoc old (page_encoding w.number w.bytes) (pages_encoding (drop (i + 1) pages))
    ∙ ap (λ (l : List ℕ). old ++ l) (append_assoc (to_be_bytes w32 w.number) w.bytes (pages_encoding (drop (i + 1) pages)))
    ∙ ap (λ (l : List PageWrite). old ++ pages_encoding l) (sym (left_over pages i w below at))

pub page_fed : (pages : List PageWrite) (i : ℕ) (w : PageWrite) (old new : ℕ) → i < length pages → w ≡ slice_index_or pages i w → new ≡ after_bytes old (page_encoding w.number w.bytes)
    → after_bytes new (pages_encoding (drop (i + 1) pages)) ≡ after_bytes old (pages_encoding (drop i pages))
page_fed pages i w old new below at fed =
    ap (λ (n : ℕ). after_bytes n (pages_encoding (drop (i + 1) pages))) fed
    ∙ sym (after_bytes-append old (page_encoding w.number w.bytes) (pages_encoding (drop (i + 1) pages)))
    ∙ ap (λ (l : List ℕ). after_bytes old l) (append_assoc (to_be_bytes w32 w.number) w.bytes (pages_encoding (drop (i + 1) pages)))
    ∙ ap (λ (l : List PageWrite). after_bytes old (pages_encoding l)) (sym (left_over pages i w below at))

-- what begins a list begins a longer one
pub starts_longer : (front old new more : List ℕ) → StartsWith old front → new ≡ old ++ more → StartsWith new front
starts_longer front old new more starts grown =
    let within : length front ≤ length old = omega (arith, length-take (length front) old, ap length starts) in
    ap (λ (l : List ℕ). take (length front) l) grown ∙ take-append-le (length front) old more within ∙ starts

sealed_sum : (encoding : List ℕ) → sealed (after_bytes all_ones encoding) ≡ file_sum encoding
unfolding crc
sealed_sum encoding = refl

-- header, pages and trailer
pub file_written : (file : Ltx) (old v1 v2 v3 : List ℕ) (r1 r2 : ℕ) → v1 ≡ old ++ header_encoding file.header no_meaning → r1 ≡ after_bytes all_ones (header_encoding file.header no_meaning)
    → v2 ≡ v1 ++ pages_encoding file.change.pages → r2 ≡ after_bytes r1 (pages_encoding file.change.pages)
    → v3 ≡ v2 ++ trailer_encoding r2 file.post
    → v3 ≡ old ++ file_encoding file no_meaning
file_written file old v1 v2 v3 r1 r2 e1 f1 e2 f2 e3 =
    let head = header_encoding file.header no_meaning in
    let pages = pages_encoding file.change.pages in
    let front : List ℕ = head ++ pages in
    let register : after_bytes r2 (end_encoding file.post) ≡ after_bytes all_ones (front ++ end_encoding file.post) =
    ap (λ (n : ℕ). after_bytes n (end_encoding file.post)) (f2 ∙ ap (λ (n : ℕ). after_bytes n pages) f1 ∙ sym (after_bytes-append all_ones head pages))
    ∙ sym (after_bytes-append all_ones front (end_encoding file.post)) in
    let summed : front ++ end_encoding file.post ≡ summed_encoding file no_meaning = sym (append_assoc front (to_be_bytes w32 0) (to_be_bytes w64 file.post)) in
    let seal : sealed (after_bytes r2 (end_encoding file.post)) ≡ file_sum (summed_encoding file no_meaning) =
    ap sealed register ∙ sealed_sum (front ++ end_encoding file.post) ∙ ap file_sum summed in
    let here : v2 ≡ old ++ front = e2 ∙ ap (λ (l : List ℕ). l ++ pages) e1 ∙ append_assoc old head pages in
    e3
    ∙ sym (append_assoc v2 (end_encoding file.post) (to_be_bytes w64 (sealed (after_bytes r2 (end_encoding file.post)))))
    ∙ ap (λ (n : ℕ). v2 ++ end_encoding file.post ++ to_be_bytes w64 n) seal
    ∙ ap (λ (l : List ℕ). l ++ end_encoding file.post ++ to_be_bytes w64 (file_sum (summed_encoding file no_meaning))) here
    ∙ ap (λ (l : List ℕ). l ++ to_be_bytes w64 (file_sum (summed_encoding file no_meaning))) (append_assoc old front (end_encoding file.post))
    ∙ ap (λ (l : List ℕ). old ++ l ++ to_be_bytes w64 (file_sum (summed_encoding file no_meaning))) summed
    ∙ append_assoc old (summed_encoding file no_meaning) (to_be_bytes w64 (file_sum (summed_encoding file no_meaning)))

-- what is written is an encoding of the file
pub encoding_is : (file : Ltx) → IsFile file → IsLtx (file_encoding file no_meaning) file
encoding_is file valid = record { valid = valid; reserved = no_meaning; room = refl; encoding = refl }
