-- Names, which end in a zero byte.
use Rattle.std.specs.Prelude.{◌≡◌, ℕ, ◌-◌, ◌≤◌, ◌==◌, ◌&&◌, not, nat_le, Bool, List, [], ◌∷◌, ◌++◌, length, take, drop, slice_index, IsTrue}
use Rattle.std.specs.List.{list_any}

-- 1 to 80 bytes, none of them zero
abbrev pub is_name : List ℕ → Bool
is_name name = nat_le 1 (length name) && nat_le (length name) 80 && not (list_any (λ b. b == 0) name)

-- the bytes are that name and a zero byte
abbrev pub IsTerminatedName : List ℕ → List ℕ → Type 0
IsTerminatedName bytes name = IsTrue (is_name name) × (bytes ≡ name ++ 0 ∷ [])

-- whether the bytes are a name and a zero byte
unfoldable pub is_terminated_name : List ℕ → Bool
is_terminated_name bytes = is_name (take (length bytes - 1) bytes) && (slice_index bytes (length bytes - 1) == 0)

-- a `fuse_create_in` and a terminated name: flags 4, mode 4, umask 4, padding 4
abbrev pub IsCreateIn : List ℕ → List ℕ → Type 0
IsCreateIn body name = (16 ≤ length body) × IsTerminatedName (drop 16 body) name
