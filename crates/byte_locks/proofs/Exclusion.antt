-- Who holds a lock for writing holds it alone.
use Rattle.std.proofs.Common.{◌≡◌, suc, Bool, true, false, List, [], ◌∷◌, Option, Some, None, refl, ap, sym, ◌∙◌, arith, ⊎_elim}
use Rattle.std.specs.List.{find, All, Contains}
use Rattle.std.specs.Option.{option_map, IsSome}
use Rattle.std.proofs.lemmas.Bool.{cases_Bool, cond-true, cond-false}
use Rattle.std.proofs.lemmas.List.Elements.{All-contains}
use Rattle.byte_locks.specs.declared.owner.Owner.{Owner}
use Rattle.byte_locks.specs.declared.lock_id.LockId.{LockId}
use Rattle.byte_locks.specs.declared.lock_kind.LockKind.{LockKind}
use Rattle.byte_locks.specs.declared.lock_kind.LockKind.TheVariants.{Read, Write}
use Rattle.byte_locks.specs.declared.lock_entry.LockEntry.{LockEntry}
use Rattle.byte_locks.specs.LockEntry.{same_owner, is_of, MayStandTogether}
use Rattle.byte_locks.specs.LockList.{LockList, IsLockList, kind_held}
use Rattle.byte_locks.proofs.Counts.{passes_from_find}
use Rattle.byte_locks.proofs.Held.{is_of-true}
use Rattle.byte_locks.proofs.Locks.{same_owner-true, same_owner-itself}

-- what a search found is in the list
pub Contains-from_find : {X : Type 0} (p : X → Bool) (xs : List X) (y : X) → find p xs ≡ Some y → Contains xs y
Contains-from_find p [] y h = cc
Contains-from_find {X} p (x ∷ xs) y h =
    ⊎_elim
    (λ yes. let hit : Some x ≡ Some y = sym (cond-true {A = Option X} (p x) (Some x) (find p xs) yes) ∙ h in
    let same : x ≡ y = cc in
    (0, omega arith, same))
    (λ no. let found = Contains-from_find p xs y (sym (cond-false {A = Option X} (p x) (Some x) (find p xs) no) ∙ h) in
    (suc found.0, omega (arith, found.1), found.2))
    (cases_Bool (p x))

-- an owner's lock is an entry of the list
pub record IsEntryOf (entries : LockList) (owner : Owner) (lock : LockId) (kind : LockKind) : Type 0 where
  pub entry : LockEntry
  pub there : Contains entries entry
  pub whose : entry.owner ≡ owner
  pub which : entry.lock ≡ lock
  pub how : entry.kind ≡ kind

entry_from_find : (entries : LockList) (owner : Owner) (lock : LockId) (kind : LockKind) (found : Option LockEntry)
    → find (is_of owner lock) entries ≡ found → option_map (λ (e : LockEntry). e.kind) found ≡ Some kind
    → IsEntryOf entries owner lock kind
entry_from_find entries owner lock kind None e h = cc
entry_from_find entries owner lock kind (Some entry) e h =
    let is = is_of-true owner lock entry (passes_from_find (is_of owner lock) entries entry e) in
    record { entry = entry; there = Contains-from_find (is_of owner lock) entries entry e; whose = is.0; which = is.1; how = cc }

pub entry_from_kind_held : (entries : LockList) (owner : Owner) (lock : LockId) (kind : LockKind)
    → kind_held entries owner lock ≡ Some kind → IsEntryOf entries owner lock kind
entry_from_kind_held entries owner lock kind h = entry_from_find entries owner lock kind (find (is_of owner lock) entries) refl h

-- two holders of a lock are one where either writes
writer_alone_at : (entries : LockList) (writer other : Owner) (lock : LockId) (kind : LockKind) → IsLockList entries
    → kind_held entries writer lock ≡ Some Write → kind_held entries other lock ≡ Some kind → other ≡ writer
writer_alone_at entries writer other lock kind list writes holds =
    let a = entry_from_kind_held entries writer lock Write writes in
    let b = entry_from_kind_held entries other lock kind holds in
    let together : MayStandTogether a.entry b.entry =
    All-contains (MayStandTogether a.entry) entries b.entry
    (All-contains (λ x. All (MayStandTogether x) entries) entries a.entry list.together a.there) b.there in
    let differ : (writer ≡ other → ⊥) → ⊥ = λ apart.
    let read = (together (a.which ∙ sym b.which) (λ same. apart (sym a.whose ∙ same ∙ b.whose))).0 in
    let clash : Write ≡ Read = sym a.how ∙ read in
    cc in
    ⊎_elim
    (λ yes. same_owner-true other writer yes)
    (λ no. absurd (differ (λ same.
    let itself : same_owner other writer ≡ true = ap (λ o. same_owner other o) same ∙ same_owner-itself other in
    let clash : true ≡ false = sym itself ∙ no in
    cc)))
    (cases_Bool (same_owner other writer))

writer_alone_if : (entries : LockList) (writer other : Owner) (lock : LockId) (held : Option LockKind) → IsLockList entries
    → kind_held entries writer lock ≡ Some Write → kind_held entries other lock ≡ held → IsSome held → other ≡ writer
writer_alone_if entries writer other lock None list writes e h = cc
writer_alone_if entries writer other lock (Some kind) list writes e h = writer_alone_at entries writer other lock kind list writes e

pub writer_alone : (entries : LockList) (writer other : Owner) (lock : LockId) → IsLockList entries
    → kind_held entries writer lock ≡ Some Write → IsSome (kind_held entries other lock) → other ≡ writer
writer_alone entries writer other lock list writes h =
    writer_alone_if entries writer other lock (kind_held entries other lock) list writes refl h
