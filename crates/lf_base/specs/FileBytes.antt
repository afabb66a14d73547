-- A file as a list of bytes: what a write, a change of its length and a read do (POSIX: pwrite, ftruncate, pread).
use Rattle.std.specs.Prelude.{◌≡◌, ℕ, ◌+◌, ◌-◌, min, List, [], ◌∷◌, ◌++◌, length, take, drop, replicate}

-- bytes cut to a length, or filled up to it with zeros
abbrev pub resized : ℕ → List ℕ → List ℕ
resized len bytes = take len bytes ++ replicate (len - length bytes) 0

-- bytes with a piece in place of those from an offset on; a gap holds zeros
abbrev pub overwritten : ℕ → List ℕ → List ℕ → List ℕ
overwritten at piece bytes = resized at bytes ++ piece ++ drop (at + length piece) bytes

-- the bytes after a write; a write of nothing changes nothing
abbrev pub written : ℕ → List ℕ → List ℕ → List ℕ
written at [] bytes = bytes
written at (b ∷ bs) bytes = overwritten at (b ∷ bs) bytes

-- a buffer after a read from an offset: as many bytes as there are, and its old bytes after them
abbrev pub read_into : ℕ → List ℕ → List ℕ → List ℕ
read_into at bytes buffer = take (length buffer) (drop at bytes) ++ drop (length bytes - at) buffer

-- a read from an offset puts the bytes that there are in front of a buffer, and n says how many
pub record Reads (bytes : List ℕ) (at : ℕ) (old new : List ℕ) (n : ℕ) : Type 0 where
  pub count : n ≡ min (length old) (length bytes - at)
  pub front : new ≡ read_into at bytes old
