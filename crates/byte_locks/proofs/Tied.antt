-- Whether a lock is held, who writes it and who stands in the way, said by what each owner holds.
use Rattle.std.proofs.Common.{◌≡◌, ◌≢◌, ℕ, zero, suc, ◌≤◌, ◌<◌, length, slice_index_or, Bool, true, false, cond, ◌&&◌, ◌||◌, not, List, [], ◌∷◌, Option, Some, None, refl, ap, sym, ◌∙◌, arith, subst, ⊎_elim, ◌↔◌, IsFalse}
use Rattle.std.specs.List.{find, Contains, list_any, count_by}
use Rattle.std.specs.Option.{option_map, IsSome, is_some, option_and_then}
use Rattle.std.proofs.lemmas.Bool.{cases_Bool, cond-true, cond-false, and_parts, and_from, false_from_ne_true}
use Rattle.std.proofs.lemmas.List.Elements.{All-contains}
use Rattle.std.proofs.lemmas.List.Sums.{sum_by-cons}
use Rattle.std.proofs.lemmas.Grind.{common_steps}
use Rattle.byte_locks.specs.declared.owner.Owner.{Owner}
use Rattle.byte_locks.specs.declared.lock_id.LockId.{LockId}
use Rattle.byte_locks.specs.declared.lock_kind.LockKind.{LockKind}
use Rattle.byte_locks.specs.declared.lock_kind.LockKind.TheVariants.{Read, Write}
use Rattle.byte_locks.specs.declared.lock_entry.LockEntry.{LockEntry}
use Rattle.byte_locks.specs.LockId.{every_lock, same_lock, place_of}
use Rattle.byte_locks.specs.LockSet.{Marks, has}
use Rattle.byte_locks.specs.LockEntry.{same_owner, is_write, is_of, opposes, writes}
use Rattle.byte_locks.specs.LockList.{LockList, IsLockList, kind_held, is_held, writer_of, opponent, first_contested, conflict, IsFree, StandsAgainst, IsShared}
use Rattle.byte_locks.proofs.Counts.{passes_from_find, All-from_find_none}
use Rattle.byte_locks.proofs.Locks.{same_lock-itself, same_owner-itself, same_lock-true}
use Rattle.byte_locks.proofs.Exclusion.{entry_from_kind_held}
use Rattle.byte_locks.proofs.Refusals.{none_opposes, both_read}

-- an element that passes is found, or another is
found_too : {X : Type 0} (p q : X → Bool) (xs : List X) (y : X) → find p xs ≡ Some y → q y ≡ true → IsSome (find q xs)
found_too p q [] y h passes = cc
found_too {X} p q (x ∷ xs) y h passes =
    ⊎_elim
    (λ yes. rw (cond-true {A = Option X} (q x) (Some x) (find q xs) yes) refl)
    (λ no. ⊎_elim
    (λ hit. let here : Some x ≡ Some y = sym (cond-true {A = Option X} (p x) (Some x) (find p xs) hit) ∙ h in
    let same : x ≡ y = cc in
    let clash : true ≡ false = sym passes ∙ ap q (sym same) ∙ no in
    cc)
    (λ miss. rw (cond-false {A = Option X} (q x) (Some x) (find q xs) no)
    (found_too p q xs y (sym (cond-false {A = Option X} (p x) (Some x) (find p xs) miss) ∙ h) passes))
    (cases_Bool (p x)))
    (cases_Bool (q x))

-- what is found by either test is counted
counted : {X : Type 0} (p q : X → Bool) (xs : List X) (y : X) → find q xs ≡ Some y → p y ≡ true → 1 ≤ count_by p xs
counted p q [] y h passes = cc
counted {X} p q (x ∷ xs) y h passes =
    ⊎_elim
    (λ hit. let here : Some x ≡ Some y = sym (cond-true {A = Option X} (q x) (Some x) (find q xs) hit) ∙ h in
    let same : x ≡ y = cc in
    let px : p x ≡ true = ap p same ∙ passes in
    omega (arith, sum_by-cons (λ z. cond (p z) 1 0) x xs, cond-true {A = ℕ} (p x) 1 0 px))
    (λ miss. let rest = counted p q xs y (sym (cond-false {A = Option X} (q x) (Some x) (find q xs) miss) ∙ h) passes in
    omega (arith, rest, sum_by-cons (λ z. cond (p z) 1 0) x xs))
    (cases_Bool (q x))

-- where at most one passes, two searches that end at such find the same
one_found : {X : Type 0} (p q : X → Bool) (xs : List X) (a b : X) → count_by p xs ≤ 1 → find p xs ≡ Some a → find q xs ≡ Some b → p b ≡ true → a ≡ b
one_found p q [] a b few fa fb passes = cc
one_found {X} p q (x ∷ xs) a b few fa fb passes =
    let whole = sum_by-cons (λ z. cond (p z) 1 0) x xs in
    ⊎_elim
    (λ yes. let at_a : Some x ≡ Some a = sym (cond-true {A = Option X} (p x) (Some x) (find p xs) yes) ∙ fa in
    ⊎_elim
    (λ hit. let at_b : Some x ≡ Some b = sym (cond-true {A = Option X} (q x) (Some x) (find q xs) hit) ∙ fb in cc)
    (λ miss. let more = counted p q xs b (sym (cond-false {A = Option X} (q x) (Some x) (find q xs) miss) ∙ fb) passes in
    absurd (omega (arith, few, more, whole, cond-true {A = ℕ} (p x) 1 0 yes)))
    (cases_Bool (q x)))
    (λ no. ⊎_elim
    (λ hit. let at_b : Some x ≡ Some b = sym (cond-true {A = Option X} (q x) (Some x) (find q xs) hit) ∙ fb in
    let same : x ≡ b = cc in
    let clash : true ≡ false = sym passes ∙ ap p (sym same) ∙ no in
    cc)
    (λ miss. one_found p q xs a b (omega (arith, few, whole))
    (sym (cond-false {A = Option X} (p x) (Some x) (find p xs) no) ∙ fa)
    (sym (cond-false {A = Option X} (q x) (Some x) (find q xs) miss) ∙ fb) passes)
    (cases_Bool (q x)))
    (cases_Bool (p x))

is_of-own : (lock : LockId) (e : LockEntry) → e.lock ≡ lock → is_of e.owner lock e ≡ true
is_of-own lock e same =
    and_from (same_owner e.owner e.owner) (same_lock e.lock lock) (same_owner-itself e.owner)
    (ap (λ l. same_lock e.lock l) (sym same) ∙ same_lock-itself e.lock)

some_mapped : {A B : Type 0} (f : A → B) (o : Option A) → IsSome o → IsSome (option_map f o)
some_mapped f None h = h
some_mapped f (Some x) h = refl

-- the owner of an entry that a search found holds its lock
pub holder_holds : (p : LockEntry → Bool) (entries : LockList) (lock : LockId) (e : LockEntry) → find p entries ≡ Some e → e.lock ≡ lock
    → IsSome (kind_held entries e.owner lock)
holder_holds p entries lock e found same =
    some_mapped (λ (x : LockEntry). x.kind) (find (is_of e.owner lock) entries) (found_too p (is_of e.owner lock) entries e found (is_of-own lock e same))

-- an opposing entry is another's on that lock
opposes-parts : (owner : Owner) (lock : LockId) (kind : LockKind) (e : LockEntry) → opposes owner lock kind e ≡ true → (e.lock ≡ lock) × (e.owner ≢ owner)
opposes-parts owner lock kind e h =
    let whole = and_parts (same_lock e.lock lock && not (same_owner e.owner owner)) (is_write kind || is_write e.kind) h in
    let parts = and_parts (same_lock e.lock lock) (not (same_owner e.owner owner)) whole.0 in (
      same_lock-true e.lock lock parts.0,
      λ same.
          let itself : same_owner e.owner owner ≡ true = ap (λ o. same_owner e.owner o) (sym same) ∙ same_owner-itself e.owner in
          let clash : true ≡ false = sym parts.1 ∙ ap not itself in
          cc,
    )

holder_if : (entries : LockList) (owner : Owner) (locks : Marks) (kind : LockKind) (lock named : LockId) (holder : Owner) (found : Option LockEntry)
    → find (opposes owner lock kind) entries ≡ found → has locks lock ≡ true
    → option_map {U = LockId × Owner} (λ (o : Owner). (lock, o)) (option_map (λ (e : LockEntry). e.owner) found) ≡ Some (named, holder)
    → StandsAgainst entries owner locks named holder
holder_if entries owner locks kind lock named holder None is asked h = cc
holder_if entries owner locks kind lock named holder (Some e) is asked h =
    let parts = opposes-parts owner lock kind e (passes_from_find (opposes owner lock kind) entries e is) in
    let pair : ◌≡◌ {A = LockId × Owner} (lock, e.owner) (named, holder) = cc in
    let which : lock ≡ named = ap (λ (p : LockId × Owner). p.0) pair in
    let who : e.owner ≡ holder = ap (λ (p : LockId × Owner). p.1) pair in
    record {
      asked = ap (has locks) (sym which) ∙ asked;
      another = λ same. parts.1 (who ∙ same);
      holds = subst (λ (o : Owner). IsSome (kind_held entries o named)) who
          (subst (λ (l : LockId). IsSome (kind_held entries e.owner l)) which (holder_holds (opposes owner lock kind) entries lock e is parts.0));
    }

contested_if : (entries : LockList) (owner : Owner) (locks : Marks) (kind : LockKind) (named : LockId) (holder : Owner) (first : Option LockId)
    → first_contested entries owner locks kind ≡ first
    → option_and_then {U = LockId × Owner} (λ (l : LockId). option_map {U = LockId × Owner} (λ (o : Owner). (l, o)) (opponent entries owner l kind)) first ≡ Some (named, holder)
    → StandsAgainst entries owner locks named holder
contested_if entries owner locks kind named holder None is h = cc
contested_if entries owner locks kind named holder (Some lock) is h =
    let test : LockId → Bool = λ l. has locks l && is_some (opponent entries owner l kind) in
    let parts = and_parts (has locks lock) (is_some (opponent entries owner lock kind)) (passes_from_find test every_lock lock is) in
    holder_if entries owner locks kind lock named holder (find (opposes owner lock kind) entries) refl parts.0 h

-- who is named stands against the owner
pub stands_against : (entries : LockList) (owner : Owner) (locks : Marks) (kind : LockKind) (lock : LockId) (holder : Owner)
    → conflict entries owner locks kind ≡ Some (lock, holder) → StandsAgainst entries owner locks lock holder
stands_against entries owner locks kind lock holder h =
    contested_if entries owner locks kind lock holder (first_contested entries owner locks kind) refl h

-- without a conflict the locks are shared
pub is_shared : (entries : LockList) (owner : Owner) (locks : Marks) (kind : LockKind)
    → conflict entries owner locks kind ≡ None → IsShared entries owner locks kind
is_shared entries owner locks kind h lock other held asked another holds =
    let entry = entry_from_kind_held entries other lock held holds in
    let free = All-contains (λ e. opposes owner lock kind e ≡ false) entries entry.entry (none_opposes entries owner locks kind lock h asked) entry.there in
    let both = both_read owner lock kind entry.entry free (sym entry.which) (λ same. another (sym entry.whose ∙ sym same)) in
    (both.0, sym entry.how ∙ both.1)

writes-parts : (lock : LockId) (e : LockEntry) → writes lock e ≡ true → (e.lock ≡ lock) × (is_write e.kind ≡ true)
writes-parts lock e h =
    let parts = and_parts (same_lock e.lock lock) (is_write e.kind) h in
    (same_lock-true e.lock lock parts.0, parts.1)

write_from : (kind : LockKind) → is_write kind ≡ true → kind ≡ Write
write_from Read h = cc
write_from Write h = refl

held_as : (entries : LockList) (lock : LockId) (e : LockEntry) (own : Option LockEntry) → IsLockList entries → find (writes lock) entries ≡ Some e
    → find (is_of e.owner lock) entries ≡ own → IsSome own → option_map (λ (x : LockEntry). x.kind) own ≡ Some Write
held_as entries lock e None list found is some = cc
held_as entries lock e (Some own) list found is some =
    let parts = writes-parts lock e (passes_from_find (writes lock) entries e found) in
    let same : own ≡ e = one_found (is_of e.owner lock) (writes lock) entries own e (list.once e.owner lock) is found (is_of-own lock e parts.0) in
    ap (λ (x : LockEntry). Some x.kind) same ∙ ap (λ (k : LockKind). Some k) (write_from e.kind parts.1)

writer_if : (entries : LockList) (lock : LockId) (owner : Owner) (found : Option LockEntry) → IsLockList entries → find (writes lock) entries ≡ found
    → option_map (λ (e : LockEntry). e.owner) found ≡ Some owner → kind_held entries owner lock ≡ Some Write
writer_if entries lock owner None list is h = cc
writer_if entries lock owner (Some e) list is h =
    let parts = writes-parts lock e (passes_from_find (writes lock) entries e is) in
    let who : e.owner ≡ owner = cc in
    subst (λ (o : Owner). kind_held entries o lock ≡ Some Write) who
    (held_as entries lock e (find (is_of e.owner lock) entries) list is refl (found_too (writes lock) (is_of e.owner lock) entries e is (is_of-own lock e parts.0)))

-- the writer holds the lock for writing
pub writer_holds : (entries : LockList) (lock : LockId) (owner : Owner) → IsLockList entries → writer_of entries lock ≡ Some owner
    → kind_held entries owner lock ≡ Some Write
writer_holds entries lock owner list h = writer_if entries lock owner (find (writes lock) entries) list refl h

none_unmapped : {A B : Type 0} (f : A → B) (o : Option A) → option_map f o ≡ None → o ≡ None
none_unmapped f None h = refl
none_unmapped f (Some x) h = cc

-- without a writer nobody does
pub no_writer : (entries : LockList) (lock : LockId) (owner : Owner) → writer_of entries lock ≡ None → kind_held entries owner lock ≢ Some Write
no_writer entries lock owner h writes-it =
    let entry = entry_from_kind_held entries owner lock Write writes-it in
    let none = All-contains (λ e. writes lock e ≡ false) entries entry.entry
    (All-from_find_none (writes lock) entries (none_unmapped (λ (e : LockEntry). e.owner) (find (writes lock) entries) h)) entry.there in
    let on_it : same_lock entry.entry.lock lock ≡ true = ap (λ l. same_lock entry.entry.lock l) (sym entry.which) ∙ same_lock-itself entry.entry.lock in
    let for_it : is_write entry.entry.kind ≡ true = ap is_write entry.how in
    let passes : writes lock entry.entry ≡ true = and_from (same_lock entry.entry.lock lock) (is_write entry.entry.kind) on_it for_it in
    let clash : true ≡ false = sym passes ∙ none in
    cc

any_from : {X : Type 0} (p : X → Bool) (xs : List X) (y : X) → Contains xs y → p y ≡ true → list_any p xs ≡ true
any_from p xs y there passes = grind (arith, common_steps)

none_held_if : (entries : LockList) (owner : Owner) (lock : LockId) (held : Option LockKind) → kind_held entries owner lock ≡ held
    → is_held entries lock ≡ false → held ≡ None
none_held_if entries owner lock None is nobody = refl
none_held_if entries owner lock (Some kind) is nobody =
    let entry = entry_from_kind_held entries owner lock kind is in
    let on_it : same_lock entry.entry.lock lock ≡ true = ap (λ l. same_lock entry.entry.lock l) (sym entry.which) ∙ same_lock-itself entry.entry.lock in
    let clash : true ≡ false = sym (any_from (λ e. same_lock e.lock lock) entries entry.entry entry.there on_it) ∙ nobody in
    cc

-- a list in which something passes has a first that does
first_from_any : {X : Type 0} (p : X → Bool) (xs : List X) → list_any p xs ≡ true → IsSome (find p xs)
first_from_any p [] h = cc
first_from_any {X} p (x ∷ xs) h =
    ⊎_elim
    (λ yes. rw (cond-true {A = Option X} (p x) (Some x) (find p xs) yes) refl)
    (λ no. rw (cond-false {A = Option X} (p x) (Some x) (find p xs) no) (first_from_any p xs (rw no at h)))
    (cases_Bool (p x))

free_if : (entries : LockList) (lock : LockId) (found : Option LockEntry) → find (λ (e : LockEntry). same_lock e.lock lock) entries ≡ found → IsSome found
    → IsFree entries lock → ⊥
free_if entries lock None is some free = cc
free_if entries lock (Some e) is some free =
    let test : LockEntry → Bool = λ x. same_lock x.lock lock in
    let which : e.lock ≡ lock = same_lock-true e.lock lock (passes_from_find test entries e is) in
    let holds : IsSome (kind_held entries e.owner lock) = holder_holds test entries lock e is which in
    let clash : IsSome {T = LockKind} None = subst (λ (k : Option LockKind). IsSome k) (free e.owner) holds in
    cc

-- nobody holds a lock exactly where it is not held
pub nobody_holds : (entries : LockList) (lock : LockId) → IsFalse (is_held entries lock) ↔ IsFree entries lock
nobody_holds entries lock = (
  λ nobody owner. none_held_if entries owner lock (kind_held entries owner lock) refl nobody,
  λ free. false_from_ne_true (is_held entries lock) (λ yes.
      free_if entries lock (find (λ (e : LockEntry). same_lock e.lock lock) entries) refl (first_from_any (λ e. same_lock e.lock lock) entries yes) free),
)

-- a mark that is found in a set is one of it
marked : (marks : List Bool) (k : ℕ) → slice_index_or marks k false ≡ true → (k < length marks) × (slice_index_or marks k true ≡ true)
marked [] k h = cc
marked (m ∷ ms) zero h = (omega arith, h)
marked (m ∷ ms) (suc k) h = let rest = marked ms k h in (omega (arith, rest.0), rest.1)

-- in a set without a mark is no lock
pub in_no_set : (marks : Marks) → (Contains marks true → ⊥) → (lock : LockId) → has marks lock ≡ false
in_no_set marks none lock = false_from_ne_true (has marks lock) (λ yes.
    let there = marked marks (place_of lock) yes in none (place_of lock, there.0, there.1))
