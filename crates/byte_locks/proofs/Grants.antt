-- What a grant leaves is a lock list.
use Rattle.std.proofs.Common.{◌≡◌, ℕ, ◌+◌, ◌<◌, ◌≤◌, Bool, true, false, cond, ◌&&◌, List, [], ◌∷◌, ◌++◌, ◌⊎◌, inl, inr, ⊎_elim, map, refl, ap, sym, ◌∙◌, arith, subst, lit≤}
use Rattle.std.specs.Option.{is_none}
use Rattle.std.specs.List.{count_by, All, Contains}
use Rattle.std.proofs.lemmas.List.{map-append}
use Rattle.std.proofs.lemmas.List.Elements.{All-append, All-map, All-weaker, All-contains, All-contains_itself, filter_passes}
use Rattle.std.proofs.lemmas.List.Sums.{sum_by-append}
use Rattle.std.proofs.lemmas.Bool.{cond_both, and_parts, cases_Bool, cond-false, and_left, and_right}
use Rattle.byte_locks.specs.declared.owner.Owner.{Owner}
use Rattle.byte_locks.specs.declared.lock_id.LockId.{LockId}
use Rattle.byte_locks.specs.declared.lock_kind.LockKind.{LockKind}
use Rattle.byte_locks.specs.declared.lock_entry.LockEntry.{LockEntry}
use Rattle.byte_locks.specs.LockId.{every_lock, same_lock}
use Rattle.byte_locks.specs.LockSet.{Marks, has}
use Rattle.byte_locks.specs.LockEntry.{same_owner, is_of, opposes, in_kind, MayStandTogether, in_set}
use Rattle.byte_locks.specs.LockList.{LockList, IsLockList, kind_held, most_holders, entries_for, is_missing, missing, granted, holder_count, MayGrant}
use Rattle.byte_locks.proofs.Counts.{sum_by-map, sum_by-filter, sum_by-agree, count_by-from_find_none}
use Rattle.byte_locks.proofs.Locks.{sum_by-every_lock, same_owner-true}
use Rattle.byte_locks.proofs.Refusals.{none_opposes, room_for_missing, none_held, both_read}

-- entries in the kind stay as they are
in_kind-entries_for : (owner : Owner) (locks : Marks) (kind : LockKind) (ids : List LockId)
    → map (in_kind owner locks kind) (entries_for owner ids kind) ≡ entries_for owner ids kind
in_kind-entries_for owner locks kind [] = refl
in_kind-entries_for owner locks kind (lock ∷ ids) =
    let entry : LockEntry = record { owner = owner; lock = lock; kind = kind } in
    let same : in_kind owner locks kind entry ≡ entry =
    cond_both (same_owner owner owner && has locks lock) entry entry (λ e. e ≡ entry) (λ _. refl) (λ _. refl) in
    let rest = in_kind-entries_for owner locks kind ids in
    cc

-- to append what is missing and then to put all in the kind is to grant
pub granted_from_steps : (entries middle after : LockList) (owner : Owner) (locks : Marks) (kind : LockKind)
    → middle ≡ entries ++ entries_for owner (missing entries owner locks) kind
    → after ≡ map (in_kind owner locks kind) middle
    → after ≡ granted entries owner locks kind
granted_from_steps entries middle after owner locks kind appended changed =
    let new = entries_for owner (missing entries owner locks) kind in
    let split = map-append (in_kind owner locks kind) entries (entries_for owner (missing entries owner locks) kind) in
    let same = in_kind-entries_for owner locks kind (missing entries owner locks) in
    cc

-- an entry that was asked for
record IsAskedFor (owner : Owner) (locks : Marks) (kind : LockKind) (entry : LockEntry) : Type 0 where
  whose : entry.owner ≡ owner
  which : has locks entry.lock ≡ true
  how : entry.kind ≡ kind

-- each entry after a grant was there before or was asked for
abbrev IsOldOrAskedFor : LockList → Owner → Marks → LockKind → LockEntry → Type 0
IsOldOrAskedFor entries owner locks kind e = Contains entries e ⊎ IsAskedFor owner locks kind e

kept_or_asked : (entries : LockList) (owner : Owner) (locks : Marks) (kind : LockKind) (e : LockEntry)
    → Contains entries e → IsOldOrAskedFor entries owner locks kind (in_kind owner locks kind e)
kept_or_asked entries owner locks kind e here =
    let changed : LockEntry = record e { kind = kind } in
    cond_both (in_set owner locks e.owner e.lock) changed e (IsOldOrAskedFor entries owner locks kind)
    (λ yes.
    let parts = and_parts (same_owner e.owner owner) (has locks e.lock) yes in
    inr (record { whose = same_owner-true e.owner owner parts.0; which = parts.1; how = refl }))
    (λ _. inl here)

asked_from_missing : (entries : LockList) (owner : Owner) (locks : Marks) (kind : LockKind) (lock : LockId)
    → is_missing entries owner locks lock ≡ true
    → IsOldOrAskedFor entries owner locks kind (record { owner = owner; lock = lock; kind = kind })
asked_from_missing entries owner locks kind lock lacks =
    let parts = and_parts (has locks lock) (is_none (kind_held entries owner lock)) lacks in
    inr (record { whose = refl; which = parts.0; how = refl })

old_or_asked : (entries : LockList) (owner : Owner) (locks : Marks) (kind : LockKind)
    → All (IsOldOrAskedFor entries owner locks kind) (granted entries owner locks kind)
old_or_asked entries owner locks kind =
    let P : LockEntry → Type 0 = IsOldOrAskedFor entries owner locks kind in
    let make : LockId → LockEntry = λ lock. record { owner = owner; lock = lock; kind = kind } in
    All-append P (map (in_kind owner locks kind) entries) (entries_for owner (missing entries owner locks) kind)
    (All-map P (in_kind owner locks kind) entries
    (All-weaker (Contains entries) (λ e. P (in_kind owner locks kind e)) (kept_or_asked entries owner locks kind) entries (All-contains_itself entries)))
    (All-map P make (missing entries owner locks)
    (All-weaker (λ lock. is_missing entries owner locks lock ≡ true) (λ lock. P (make lock)) (asked_from_missing entries owner locks kind)
    (missing entries owner locks) (filter_passes (is_missing entries owner locks) every_lock)))

-- any two of them stand together
stand_together : (entries : LockList) (owner : Owner) (locks : Marks) (kind : LockKind) (a b : LockEntry)
    → IsLockList entries → MayGrant entries owner locks kind
    → IsOldOrAskedFor entries owner locks kind a → IsOldOrAskedFor entries owner locks kind b
    → MayStandTogether a b
stand_together entries owner locks kind a b h free (inl a_in) (inl b_in) =
    All-contains (MayStandTogether a) entries b (All-contains (λ x. All (MayStandTogether x) entries) entries a h.together a_in) b_in
stand_together entries owner locks kind a b h free (inr asked) (inl b_in) = λ same other.
    let safe = none_opposes entries owner locks kind a.lock free.no_conflict asked.which in
    let both = both_read owner a.lock kind b (All-contains (λ e. opposes owner a.lock kind e ≡ false) entries b safe b_in) same
    (λ e. other (asked.whose ∙ e)) in
    (asked.how ∙ both.0, both.1)
stand_together entries owner locks kind a b h free (inl a_in) (inr asked) = λ same other.
    let safe = none_opposes entries owner locks kind b.lock free.no_conflict asked.which in
    let both = both_read owner b.lock kind a (All-contains (λ e. opposes owner b.lock kind e ≡ false) entries a safe a_in) (sym same)
    (λ e. other (sym (asked.whose ∙ e))) in
    (both.1, asked.how ∙ both.0)
stand_together entries owner locks kind a b h free (inr x) (inr y) = λ same other. absurd (other (x.whose ∙ sym y.whose))

-- a count that reads no kind is the same after the kinds have changed
count_by-in_kind : (test : LockEntry → Bool) (owner : Owner) (locks : Marks) (kind : LockKind) (entries : LockList)
    → ((e : LockEntry) → test (record e { kind = kind }) ≡ test e)
    → count_by test (map (in_kind owner locks kind) entries) ≡ count_by test entries
count_by-in_kind test owner locks kind entries blind =
    let one : LockEntry → ℕ = λ e. cond (test e) 1 0 in
    let f : LockEntry → LockEntry = in_kind owner locks kind in
    let same : (e : LockEntry) → one (f e) ≡ one e = λ e.
    let changed : LockEntry = record e { kind = kind } in
    cond_both (in_set owner locks e.owner e.lock) changed e (λ x. one x ≡ one e)
    (λ _. ap (λ b. cond {A = ℕ} b 1 0) (blind e)) (λ _. refl) in
    sum_by-map one f entries ∙ sum_by-agree (λ e. one (f e)) one same entries

-- how many new entries pass a test that only those on one lock can pass
count_by-entries_for : (test : LockEntry → Bool) (entries : LockList) (owner : Owner) (locks : Marks) (kind : LockKind) (lock : LockId)
    → ((other : LockId) → same_lock other lock ≡ false → test (record { owner = owner; lock = other; kind = kind }) ≡ false)
    → count_by test (entries_for owner (missing entries owner locks) kind)
    ≡ cond (is_missing entries owner locks lock) (cond (test (record { owner = owner; lock = lock; kind = kind })) 1 0) 0
count_by-entries_for test entries owner locks kind lock off =
    let one : LockEntry → ℕ = λ e. cond (test e) 1 0 in
    let make : LockId → LockEntry = λ l. record { owner = owner; lock = l; kind = kind } in
    let lacks : LockId → Bool = is_missing entries owner locks in
    let each : LockId → ℕ = λ l. cond (lacks l) (one (make l)) 0 in
    let none : (other : LockId) → same_lock other lock ≡ false → each other ≡ 0 = λ other differs.
    cond_both (lacks other) (one (make other)) 0 (λ n. n ≡ 0) (λ _. ap (λ b. cond {A = ℕ} b 1 0) (off other differs)) (λ _. refl) in
    sum_by-map one make (missing entries owner locks) ∙ sum_by-filter (λ l. one (make l)) lacks every_lock ∙ sum_by-every_lock each lock none

-- the count after a grant
count_by-granted : (test : LockEntry → Bool) (entries : LockList) (owner : Owner) (locks : Marks) (kind : LockKind) (lock : LockId)
    → ((e : LockEntry) → test (record e { kind = kind }) ≡ test e)
    → ((other : LockId) → same_lock other lock ≡ false → test (record { owner = owner; lock = other; kind = kind }) ≡ false)
    → count_by test (granted entries owner locks kind)
    ≡ count_by test entries + cond (is_missing entries owner locks lock) (cond (test (record { owner = owner; lock = lock; kind = kind })) 1 0) 0
count_by-granted test entries owner locks kind lock blind off =
    omega (
      arith,
      sum_by-append (λ e. cond (test e) 1 0) (map (in_kind owner locks kind) entries) (entries_for owner (missing entries owner locks) kind),
      count_by-in_kind test owner locks kind entries blind,
      count_by-entries_for test entries owner locks kind lock off,
    )

at_most_one : (m t : Bool) → cond {A = ℕ} m (cond {A = ℕ} t 1 0) 0 ≤ 1
at_most_one true true = lit≤ tt
at_most_one true false = lit≤ tt
at_most_one false t = lit≤ tt

none_added : (m t : Bool) → t ≡ false → cond {A = ℕ} m (cond {A = ℕ} t 1 0) 0 ≡ 0
none_added m true e = cc
none_added true false e = refl
none_added false false e = refl

-- an owner still has at most one entry a lock
once_after : (entries : LockList) (owner : Owner) (locks : Marks) (kind : LockKind) (holder : Owner) (lock : LockId)
    → IsLockList entries → count_by (is_of holder lock) (granted entries owner locks kind) ≤ 1
once_after entries owner locks kind holder lock h =
    let test : LockEntry → Bool = is_of holder lock in
    let lacks : Bool = is_missing entries owner locks lock in
    let added : Bool = same_owner owner holder && same_lock lock lock in
    let total : count_by test (granted entries owner locks kind) ≡ count_by test entries + cond lacks (cond added 1 0) 0 =
    count_by-granted test entries owner locks kind lock (λ _. refl)
    (λ other differs. and_right (same_owner owner holder) (same_lock other lock) differs) in
    let before : count_by test entries ≤ 1 = h.once holder lock in
    let held : lacks ≡ false → count_by test (granted entries owner locks kind) ≤ 1 =
    λ no. omega (arith, total, before, cond-false {A = ℕ} lacks (cond added 1 0) 0 no) in
    let another : same_owner owner holder ≡ false → count_by test (granted entries owner locks kind) ≤ 1 =
    λ no. omega (arith, total, before, none_added lacks added (and_left (same_owner owner holder) (same_lock lock lock) no)) in
    let new : lacks ≡ true → same_owner owner holder ≡ true → count_by test (granted entries owner locks kind) ≤ 1 =
    λ yes same.
    let none : count_by test entries ≡ 0 =
    subst (λ (o : Owner). count_by (is_of o lock) entries ≡ 0) (same_owner-true owner holder same)
    (count_by-from_find_none (is_of owner lock) entries (none_held entries owner locks lock yes)) in
    omega (arith, total, none, at_most_one lacks added) in
    ⊎_elim (λ yes. ⊎_elim (new yes) another (cases_Bool (same_owner owner holder))) held (cases_Bool lacks)

-- and a lock no more holders than it may have
bounded_after : (entries : LockList) (owner : Owner) (locks : Marks) (kind : LockKind) (lock : LockId)
    → IsLockList entries → MayGrant entries owner locks kind → holder_count (granted entries owner locks kind) lock ≤ most_holders
bounded_after entries owner locks kind lock h free =
    let test : LockEntry → Bool = λ e. same_lock e.lock lock in
    let lacks : Bool = is_missing entries owner locks lock in
    let added : Bool = same_lock lock lock in
    let total : count_by test (granted entries owner locks kind) ≡ count_by test entries + cond lacks (cond added 1 0) 0 =
    count_by-granted test entries owner locks kind lock (λ _. refl) (λ other differs. differs) in
    let before : count_by test entries ≤ 1024 = h.bounded lock in
    ⊎_elim
    (λ yes. let room : count_by test entries < 1024 = room_for_missing entries owner locks lock free.not_full yes in
    omega (arith, total, room, at_most_one lacks added))
    (λ no. omega (arith, total, before, cond-false {A = ℕ} lacks (cond added 1 0) 0 no))
    (cases_Bool lacks)

pub IsLockList-granted : (entries : LockList) (owner : Owner) (locks : Marks) (kind : LockKind)
    → IsLockList entries → MayGrant entries owner locks kind → IsLockList (granted entries owner locks kind)
IsLockList-granted entries owner locks kind h free =
    let after = granted entries owner locks kind in
    let known : LockEntry → Type 0 = IsOldOrAskedFor entries owner locks kind in
    let from = old_or_asked entries owner locks kind in
    record {
      together =
          All-weaker known (λ a. All (MayStandTogether a) after)
          (λ a from_a. All-weaker known (MayStandTogether a)
          (λ b from_b. stand_together entries owner locks kind a b h free from_a from_b) after from) after from;
      once = λ holder lock. once_after entries owner locks kind holder lock h;
      bounded = λ lock. bounded_after entries owner locks kind lock h free;
    }
