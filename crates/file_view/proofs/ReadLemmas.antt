-- A read into a buffer that has room for just the bytes that there are.
use Rattle.std.proofs.Common.{◌≡◌, ℕ, ◌-◌, ◌≤◌, min, length, List, [], ◌++◌, take, drop, refl, ◌∙◌, sym, arith, append-nil, length-drop, ⊎_elim, Option, Some, None, true}
use Rattle.std.specs.Prelude.{unwrap_or, nat_le}
use Rattle.std.specs.Option.{option_map}
use Rattle.std.proofs.lemmas.List.{take_all}
use Rattle.std.proofs.Math.ListN.{drop_of_length-le}
use Rattle.std.proofs.lemmas.Bool.{cases_lt, and_parts}
use Rattle.std.proofs.lemmas.Bool.Decides.{nat_tests}
use Rattle.journal_watch.specs.Journal.{is_active, bytes_of}
use Rattle.lf_base.specs.FileBytes.{Reads}
use Rattle.file_handles.specs.Texts.{part}

pub whole_read : (bytes old new : List ℕ) (place size n : ℕ) → length old ≡ min size (length bytes - place) → Reads bytes place old new n →
    new ≡ part bytes place size
whole_read bytes old new place size n room reads =
    let nothing : drop (length bytes - place) old ≡ [] = drop_of_length-le old (omega (arith, room)) in
    let shown : new ≡ take (length old) (drop place bytes) = reads.front ∙ rw nothing (append-nil (take (length old) (drop place bytes))) in
    shown
    ∙ ⊎_elim
    (λ less. let e : length old ≡ size = omega (arith, room, less) in rw e refl)
    (λ more. let all : length (drop place bytes) ≤ size = rw length-drop (omega (arith, more)) in
    let own : length (drop place bytes) ≤ length old = rw length-drop (omega (arith, room, more)) in
    take_all (length old) (drop place bytes) own ∙ sym (take_all size (drop place bytes) all))
    (cases_lt size (length bytes - place))

-- the length of a file that may be absent
file_length : (file : Option (List ℕ)) → unwrap_or (option_map length file) 0 ≡ length (unwrap_or file [])
file_length None = refl
file_length (Some bytes) = refl

pub read_all : (file : Option (List ℕ)) (len : ℕ) (old items new : List ℕ) (place size n : ℕ) → len ≡ unwrap_or (option_map length file) 0 →
    length items ≡ min size (len - place) → old ≡ items → Reads (unwrap_or file []) place old new n → new ≡ part (unwrap_or file []) place size
read_all file len old items new place size n is room same reads =
    let whole : len ≡ length (unwrap_or file []) = is ∙ file_length file in
    whole_read (unwrap_or file []) old new place size n (rw (same, ← whole) room) reads

-- the salts of a log
pub salts_read : (contents old new : List ℕ) (n : ℕ) → length old ≡ 8 → 32 ≤ length contents → Reads contents 16 old new n → new ≡ take 8 (drop 16 contents)
salts_read contents old new n eight long reads = whole_read contents old new 16 8 n (omega (arith, eight, long)) reads

-- a buffer that was filled through a slice of all of it
pub filled : (items out : List ℕ) (len : ℕ) → len ≡ length items → length out ≡ length items → take len (out ++ drop (length out) items) ≡ out
filled items out len whole kept =
    let nothing : drop (length out) items ≡ [] = drop_of_length-le items (omega (arith, kept)) in
    let all : length out ≤ len = omega (arith, whole, kept) in
    rw (nothing, append-nil out) (take_all len out all)

-- an active journal has a whole header
active-long : (file : Option (List ℕ)) → is_active file ≡ true → 28 ≤ length (bytes_of file)
active-long None h = absurd cc
active-long (Some bytes) h = let long : nat_le 28 (length bytes) ≡ true = (and_parts _ _ h).0 in grind (arith, nat_tests, long)

pub size_read : (file : Option (List ℕ)) (old new : List ℕ) (n : ℕ) → length old ≡ 4 → is_active file ≡ true → Reads (bytes_of file) 24 old new n →
    new ≡ take 4 (drop 24 (bytes_of file))
size_read file old new n four active reads =
    let long = active-long file active in
    whole_read (bytes_of file) old new 24 4 n (omega (arith, four, long)) reads
