-- What a read puts in front of a buffer.
use Rattle.std.proofs.Common.{◌≡◌, ℕ, ◌-◌, List, ◌++◌, length, min, take, drop}
use Rattle.lf_base.specs.FileBytes.{read_into}
use Rattle.lf_base.proofs.FileLemmas.{read_into-count}

pub read_front : (at n : ℕ) (bytes buffer : List ℕ) → n ≡ min (length buffer) (length bytes - at)
    → take n (drop at bytes) ++ drop n buffer ≡ read_into at bytes buffer
read_front = read_into-count
