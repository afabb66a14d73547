use Rattle.std.specs.Prelude.{◌≡◌, ◌≢◌, ℕ, ◌≤◌, Bool, true, ◌&&◌, not, nat_eq, nat_le, if◌then◌else◌}
use Rattle.std.specs.Prelude.{List, ◌++◌, All, find, map, filter, count_by, Option, Some, None, is_some, is_none, IsSome, option_and_then}
use Rattle.std.specs.List.{list_any}
use Rattle.std.specs.Option.{option_map}
use Rattle.byte_locks.specs.declared.owner.Owner.{Owner}
use Rattle.byte_locks.specs.declared.lock_id.LockId.{LockId}
use Rattle.byte_locks.specs.declared.lock_kind.LockKind.{LockKind}
use Rattle.byte_locks.specs.declared.lock_kind.LockKind.TheVariants.{Read}
use Rattle.byte_locks.specs.declared.lock_entry.LockEntry.{LockEntry}
use Rattle.byte_locks.specs.declared.set_fault.SetFault.{SetFault}
use Rattle.byte_locks.specs.declared.set_fault.SetFault.TheVariants.{Conflict, Full, NoMemory}
use Rattle.byte_locks.specs.LockId.{every_lock, same_lock}
use Rattle.byte_locks.specs.LockSet.{Marks, has}
use Rattle.byte_locks.specs.LockEntry.{is_of, opposes, writes, in_kind, MayStandTogether}

-- who holds which lock how, in the order of granting
abbrev pub LockList : Type 0
LockList = List LockEntry

-- how many may hold one lock
abbrev pub most_holders : ℕ
most_holders = 1024

-- how the owner holds the lock, if it does
abbrev pub kind_held : LockList → Owner → LockId → Option LockKind
kind_held entries owner lock = option_map (λ e. e.kind) (find (is_of owner lock) entries)

-- how many hold the lock
abbrev pub holder_count : LockList → LockId → ℕ
holder_count entries lock = count_by (λ e. same_lock e.lock lock) entries

-- whether anybody holds the lock
abbrev pub is_held : LockList → LockId → Bool
is_held entries lock = list_any (λ e. same_lock e.lock lock) entries

-- whether an owner of the session holds the lock
abbrev pub is_held_by : LockList → ℕ → LockId → Bool
is_held_by entries session lock = list_any (λ e. same_lock e.lock lock && nat_eq e.owner.session session) entries

-- who holds the lock for writing, if anybody does
abbrev pub writer_of : LockList → LockId → Option Owner
writer_of entries lock = option_map (λ e. e.owner) (find (writes lock) entries)

-- nobody holds the lock
abbrev pub IsFree : LockList → LockId → Type 0
IsFree entries lock = (owner : Owner) → kind_held entries owner lock ≡ None

-- the holder is another than the owner, and holds a lock of the set
pub record StandsAgainst (entries : LockList) (owner : Owner) (locks : Marks) (lock : LockId) (holder : Owner) : Type 0 where
  pub asked : has locks lock ≡ true
  pub another : holder ≢ owner
  pub holds : IsSome (kind_held entries holder lock)

-- whoever else holds a lock of the set holds it for reading, as the owner would
abbrev pub IsShared : LockList → Owner → Marks → LockKind → Type 0
IsShared entries owner locks kind =
    (lock : LockId) (other : Owner) (held : LockKind) → has locks lock ≡ true → other ≢ owner
    → kind_held entries other lock ≡ Some held → (kind ≡ Read) × (held ≡ Read)

-- the oldest holder that keeps the owner from the lock
abbrev pub opponent : LockList → Owner → LockId → LockKind → Option Owner
opponent entries owner lock kind = option_map (λ e. e.owner) (find (opposes owner lock kind) entries)

-- the first lock of the set that somebody keeps the owner from
abbrev pub first_contested : LockList → Owner → Marks → LockKind → Option LockId
first_contested entries owner locks kind =
    find (λ lock. has locks lock && is_some (opponent entries owner lock kind)) every_lock

-- the same lock, with the oldest who does
abbrev pub conflict : LockList → Owner → Marks → LockKind → Option (LockId × Owner)
conflict entries owner locks kind =
    option_and_then (λ lock. option_map (λ holder. (lock, holder)) (opponent entries owner lock kind))
    (first_contested entries owner locks kind)

-- whether the owner lacks the lock, and so many hold it that no other may
abbrev pub is_full : LockList → Owner → LockId → Bool
is_full entries owner lock = is_none (kind_held entries owner lock) && nat_le most_holders (holder_count entries lock)

-- the first lock of the set that is full
abbrev pub first_full : LockList → Owner → Marks → Option LockId
first_full entries owner locks = find (λ lock. has locks lock && is_full entries owner lock) every_lock

-- whether the lock is in the set and the owner does not hold it
abbrev pub is_missing : LockList → Owner → Marks → LockId → Bool
is_missing entries owner locks lock = has locks lock && is_none (kind_held entries owner lock)

-- the locks of the set that the owner does not hold
abbrev pub missing : LockList → Owner → Marks → List LockId
missing entries owner locks = filter (is_missing entries owner locks) every_lock

-- an entry of the owner on each lock
abbrev pub entries_for : Owner → List LockId → LockKind → LockList
entries_for owner locks kind = map (λ lock. record { owner = owner; lock = lock; kind = kind }) locks

-- what the owner holds of the set stays in its place and takes the kind, and what it lacks comes at the end
abbrev pub granted : LockList → Owner → Marks → LockKind → LockList
granted entries owner locks kind =
    map (in_kind owner locks kind) entries ++ entries_for owner (missing entries owner locks) kind

-- nothing stands against a grant
pub record MayGrant (entries : LockList) (owner : Owner) (locks : Marks) (kind : LockKind) : Type 0 where
  pub no_conflict : conflict entries owner locks kind ≡ None
  pub not_full : first_full entries owner locks ≡ None

-- each refusal with its cause. Want of memory comes only where nothing else stands against the grant
abbrev pub HasCause : LockList → Owner → Marks → LockKind → SetFault → Type 0
HasCause entries owner locks kind (Conflict lock holder) = conflict entries owner locks kind ≡ Some (lock, holder)
HasCause entries owner locks kind (Full lock) =
    (conflict entries owner locks kind ≡ None) × (first_full entries owner locks ≡ Some lock)
HasCause entries owner locks kind NoMemory = MayGrant entries owner locks kind

-- without the entries that are picked by their holder and their lock
abbrev pub without : (Owner → LockId → Bool) → LockList → LockList
without picked entries = filter (λ e. not (picked e.owner e.lock)) entries

-- what is picked is held so afterwards, and all else as before
abbrev pub HeldAfter : LockList → LockList → (Owner → LockId → Bool) → Option LockKind → Type 0
HeldAfter old new picked outcome =
    (holder : Owner) (lock : LockId)
    → kind_held new holder lock ≡ (if picked holder lock then outcome else kind_held old holder lock)

-- what is always true of a lock list
pub record IsLockList (entries : LockList) : Type 0 where
  -- two entries of different owners on one lock are both for reading
  pub together : All (λ a. All (MayStandTogether a) entries) entries
  -- an owner has at most one entry a lock
  pub once : (owner : Owner) (lock : LockId) → count_by (is_of owner lock) entries ≤ 1
  -- a lock has so many holders at most
  pub bounded : (lock : LockId) → holder_count entries lock ≤ most_holders
