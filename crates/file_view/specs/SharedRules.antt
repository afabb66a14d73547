-- WRITE, SETATTR of a size and UNLINK of the shared memory. What connections put there decides nothing else.
use Rattle.std.specs.Prelude.{ℕ, ◌+◌, nat_lt, None, List, [], ◌∷◌}
use Rattle.lf_base.specs.FileBytes.{written, resized}
use Rattle.shm_index.specs.Shared.{bytes_of, with_bytes}
use Rattle.file_view.specs.Errno.{ENOSPC}
use Rattle.file_view.specs.Refusal.{Row}
use Rattle.file_view.specs.Served.{Served}

-- so many bytes at a place
abbrev pub shared_rows : ℕ → ℕ → List Row
shared_rows place len = (nat_lt 8388608 (place + len), ENOSPC) ∷ []

-- what they do
abbrev pub shared_written : Served → ℕ → List ℕ → Served
shared_written s place bytes = record s { shared = with_bytes s.shared (written place bytes (bytes_of s.shared)) }

abbrev pub shared_cut : Served → ℕ → Served
shared_cut s len = record s { shared = with_bytes s.shared (resized len (bytes_of s.shared)) }

abbrev pub shared_removed : Served → Served
shared_removed s = record s { shared = record { file = None; last_change = s.shared.last_change } }
