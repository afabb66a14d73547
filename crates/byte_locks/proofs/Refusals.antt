-- What it means, lock by lock, that nothing stands against a grant.
use Rattle.std.proofs.Common.{◌≡◌, ◌≢◌, ◌<◌, Bool, true, false, ◌&&◌, ◌||◌, not, nat_le, Option, Some, None, refl, sym, subst}
use Rattle.std.specs.List.{find, All}
use Rattle.std.specs.Option.{option_map, is_some, is_none, option_and_then}
use Rattle.std.proofs.lemmas.Bool.{and_parts, and_from, or_parts, leb-false, false_from_ne_true, not_from_false}
use Rattle.std.proofs.lemmas.List.Elements.{All-contains}
use Rattle.byte_locks.specs.declared.owner.Owner.{Owner}
use Rattle.byte_locks.specs.declared.lock_id.LockId.{LockId}
use Rattle.byte_locks.specs.declared.lock_kind.LockKind.{LockKind}
use Rattle.byte_locks.specs.declared.lock_kind.LockKind.TheVariants.{Read, Write}
use Rattle.byte_locks.specs.declared.lock_entry.LockEntry.{LockEntry}
use Rattle.byte_locks.specs.LockId.{every_lock, same_lock}
use Rattle.byte_locks.specs.LockSet.{Marks, has}
use Rattle.byte_locks.specs.LockEntry.{same_owner, is_write, is_of, opposes}
use Rattle.byte_locks.specs.LockList.{LockList, opponent, first_contested, conflict, kind_held, holder_count, is_full, first_full, is_missing, most_holders}
use Rattle.byte_locks.proofs.Counts.{All-from_find_none, passes_from_find}
use Rattle.byte_locks.proofs.Locks.{Contains-every_lock, same_lock-itself, same_owner-true}

second_false : (a b : Bool) → (a && b) ≡ false → a ≡ true → b ≡ false
second_false true b h t = h
second_false false b h t = cc

none_from_is_some : {A : Type 0} (o : Option A) → is_some o ≡ false → o ≡ None
none_from_is_some None h = refl
none_from_is_some (Some x) h = cc

none_from_is_none : {A : Type 0} (o : Option A) → is_none o ≡ true → o ≡ None
none_from_is_none None h = refl
none_from_is_none (Some x) h = cc

none_from_map : {A B : Type 0} (f : A → B) (o : Option A) → option_map f o ≡ None → o ≡ None
none_from_map f None h = refl
none_from_map f (Some x) h = cc

not_both : {A : Type 0} (o : Option A) → is_some o ≡ true → o ≡ None → ⊥
not_both None h e = cc
not_both (Some x) h e = cc

none_from_and_then : {A B : Type 0} (f : A → Option B) (o : Option A)
    → ((x : A) → o ≡ Some x → f x ≡ None → ⊥) → option_and_then f o ≡ None → o ≡ None
none_from_and_then f None gives h = refl
none_from_and_then f (Some x) gives h = absurd (gives x refl h)

read_from_is_write : (kind : LockKind) → is_write kind ≡ false → kind ≡ Read
read_from_is_write Read h = refl
read_from_is_write Write h = cc

-- without a conflict no lock is contested
contested_from_conflict : (entries : LockList) (owner : Owner) (locks : Marks) (kind : LockKind)
    → conflict entries owner locks kind ≡ None → first_contested entries owner locks kind ≡ None
contested_from_conflict entries owner locks kind h =
    let test : LockId → Bool = λ l. has locks l && is_some (opponent entries owner l kind) in
    let name : LockId → Owner → LockId × Owner = λ l holder. (l, holder) in
    none_from_and_then (λ l. option_map (name l) (opponent entries owner l kind)) (first_contested entries owner locks kind)
    (λ l found none.
    let passed : test l ≡ true = passes_from_find test every_lock l found in
    let parts = and_parts (has locks l) (is_some (opponent entries owner l kind)) passed in
    not_both (opponent entries owner l kind) parts.1 (none_from_map (name l) (opponent entries owner l kind) none))
    h

-- and then no entry opposes the owner at a lock of the set
pub none_opposes : (entries : LockList) (owner : Owner) (locks : Marks) (kind : LockKind) (lock : LockId)
    → conflict entries owner locks kind ≡ None → has locks lock ≡ true
    → All (λ e. opposes owner lock kind e ≡ false) entries
none_opposes entries owner locks kind lock h in_set =
    let test : LockId → Bool = λ l. has locks l && is_some (opponent entries owner l kind) in
    let here : test lock ≡ false =
    All-contains (λ l. test l ≡ false) every_lock lock
    (All-from_find_none test every_lock (contested_from_conflict entries owner locks kind h)) (Contains-every_lock lock) in
    let nobody = second_false (has locks lock) (is_some (opponent entries owner lock kind)) here in_set in
    All-from_find_none (opposes owner lock kind) entries
    (none_from_map (λ e. e.owner) (find (opposes owner lock kind) entries) (none_from_is_some (opponent entries owner lock kind) nobody))

-- where no lock of the set is full, what the owner lacks of it has room
pub room_for_missing : (entries : LockList) (owner : Owner) (locks : Marks) (lock : LockId)
    → first_full entries owner locks ≡ None → is_missing entries owner locks lock ≡ true
    → holder_count entries lock < most_holders
room_for_missing entries owner locks lock h lacks =
    let test : LockId → Bool = λ l. has locks l && is_full entries owner l in
    let here : test lock ≡ false =
    All-contains (λ l. test l ≡ false) every_lock lock (All-from_find_none test every_lock h) (Contains-every_lock lock) in
    let parts = and_parts (has locks lock) (is_none (kind_held entries owner lock)) lacks in
    let not_full = second_false (has locks lock) (is_full entries owner lock) here parts.0 in
    let few = second_false (is_none (kind_held entries owner lock)) (nat_le most_holders (holder_count entries lock)) not_full parts.1 in
    leb-false most_holders (holder_count entries lock) few

-- what is missing is not in the list
pub none_held : (entries : LockList) (owner : Owner) (locks : Marks) (lock : LockId)
    → is_missing entries owner locks lock ≡ true → find (is_of owner lock) entries ≡ None
none_held entries owner locks lock lacks =
    let parts = and_parts (has locks lock) (is_none (kind_held entries owner lock)) lacks in
    none_from_map (λ e. e.kind) (find (is_of owner lock) entries) (none_from_is_none (kind_held entries owner lock) parts.1)

-- where an entry does not oppose the owner at its lock, and is another's, both kinds are for reading
pub both_read : (owner : Owner) (lock : LockId) (kind : LockKind) (entry : LockEntry)
    → opposes owner lock kind entry ≡ false → lock ≡ entry.lock → owner ≢ entry.owner
    → (kind ≡ Read) × (entry.kind ≡ Read)
both_read owner lock kind entry h same other =
    let on_lock : same_lock entry.lock lock ≡ true =
    subst (λ (l : LockId). same_lock entry.lock l ≡ true) (sym same) (same_lock-itself entry.lock) in
    let others : same_owner entry.owner owner ≡ false =
    false_from_ne_true (same_owner entry.owner owner) (λ t. other (sym (same_owner-true entry.owner owner t))) in
    let stands = and_from (same_lock entry.lock lock) (not (same_owner entry.owner owner)) on_lock (not_from_false (same_owner entry.owner owner) others) in
    let no_writer = second_false (same_lock entry.lock lock && not (same_owner entry.owner owner)) (is_write kind || is_write entry.kind) h stands in
    let parts = or_parts (is_write kind) (is_write entry.kind) no_writer in
    (read_from_is_write kind parts.0, read_from_is_write entry.kind parts.1)
