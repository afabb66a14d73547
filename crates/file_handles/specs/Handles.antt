-- The handles that sessions have open on served files.
use Rattle.std.specs.Prelude.{ℕ, Bool, false, not, nat_eq, Option, is_none, List, find, filter, unwrap_or}
use Rattle.std.specs.List.{range_with_len}
use Rattle.std.specs.Option.{option_map}
use Rattle.std.specs.declared.cmp.Ordering.{Ordering}
use Rattle.std.specs.Ordering.{nat_cmp, ordering_then}
use Rattle.std.specs.Map.{lookup, remove_entry}
use Rattle.std.specs.BTreeMap.{insert_entry, is_at}
use Rattle.byte_locks.specs.declared.lock_bytes.FileKind.{FileKind}
use Rattle.byte_locks.specs.LockBytes.{same_file}

-- the open handles of all sessions: each by its session and its number, with the file that it is open on
abbrev pub OpenHandles : Type 0
OpenHandles = List ((ℕ × ℕ) × FileKind)

-- they stand in order of session, then of number
abbrev pub by_session : (ℕ × ℕ) → (ℕ × ℕ) → Ordering
by_session a b = ordering_then (nat_cmp a.0 b.0) (nat_cmp a.1 b.1)

-- the file that a session's handle is open on
abbrev pub file_of : OpenHandles → ℕ → ℕ → Option FileKind
file_of handles session number = lookup (is_at (by_session (session, number))) handles

-- whether a session's handle is open on a file
abbrev pub is_open : OpenHandles → ℕ → ℕ → FileKind → Bool
is_open handles session number file = unwrap_or (option_map (λ other. same_file other file) (file_of handles session number)) false

-- the least number from 1 to 1,024 of which the session has no handle
unfoldable pub least_free : OpenHandles → ℕ → Option ℕ
least_free handles session = find (λ number. is_none (file_of handles session number)) (range_with_len 1 1024)

-- the handles with one more, without one, and without those of a session
abbrev pub opened : OpenHandles → ℕ → ℕ → FileKind → OpenHandles
opened handles session number file = insert_entry by_session handles (session, number) file

abbrev pub closed : OpenHandles → ℕ → ℕ → OpenHandles
closed handles session number = remove_entry (is_at (by_session (session, number))) handles

abbrev pub without_session : OpenHandles → ℕ → OpenHandles
without_session handles session = filter (λ h. not (nat_eq h.0.0 session)) handles
