-- Who holds what after a grant and after a release.
use Rattle.std.proofs.Common.{◌≡◌, Bool, true, false, cond, ◌&&◌, not, [], ◌∷◌, ◌++◌, Option, Some, None, map, refl, ap, sym, ◌∙◌, subst, ⊎_elim}
use Rattle.std.specs.List.{filter, find}
use Rattle.std.specs.Option.{option_map, is_none}
use Rattle.std.proofs.lemmas.Bool.{cases_Bool, cond-true, cond-false, cond_both, and_parts, and_left, and_right, false_from_ne_true, both_ways}
use Rattle.byte_locks.specs.declared.owner.Owner.{Owner}
use Rattle.byte_locks.specs.declared.lock_id.LockId.{LockId}
use Rattle.byte_locks.specs.declared.lock_kind.LockKind.{LockKind}
use Rattle.byte_locks.specs.declared.lock_entry.LockEntry.{LockEntry}
use Rattle.byte_locks.specs.LockId.{every_lock, same_lock}
use Rattle.byte_locks.specs.LockSet.{Marks, has}
use Rattle.byte_locks.specs.LockEntry.{same_owner, is_of, in_set, in_kind}
use Rattle.byte_locks.specs.LockList.{LockList, kind_held, is_missing, missing, entries_for, granted, without, HeldAfter}
use Rattle.byte_locks.proofs.Counts.{find-map, find-filter}
use Rattle.byte_locks.proofs.Locks.{same_owner-true, same_owner-itself, same_lock-true, same_lock-itself, find-every_lock}

-- an entry that is the owner's on the lock has that owner and that lock
pub is_of-true : (owner : Owner) (lock : LockId) (e : LockEntry) → is_of owner lock e ≡ true → (e.owner ≡ owner) × (e.lock ≡ lock)
is_of-true owner lock e h =
    let parts = and_parts (same_owner e.owner owner) (same_lock e.lock lock) h in
    (same_owner-true e.owner owner parts.0, same_lock-true e.lock lock parts.1)

-- the first entry answers for its owner on its lock
kind_held-first : (owner : Owner) (lock : LockId) (e : LockEntry) (es : LockList) → is_of owner lock e ≡ true
    → kind_held (e ∷ es) owner lock ≡ Some e.kind
kind_held-first owner lock e es h =
    ap (option_map (λ (x : LockEntry). x.kind)) (cond-true (is_of owner lock e) (Some e) (find (is_of owner lock) es) h)

-- and says nothing of any other
kind_held-later : (owner : Owner) (lock : LockId) (e : LockEntry) (es : LockList) → is_of owner lock e ≡ false
    → kind_held (e ∷ es) owner lock ≡ kind_held es owner lock
kind_held-later owner lock e es h =
    ap (option_map (λ (x : LockEntry). x.kind)) (cond-false (is_of owner lock e) (Some e) (find (is_of owner lock) es) h)

and_true : (b : Bool) → (b && true) ≡ b
and_true true = refl
and_true false = refl

and_turned : (a b c d : Bool) → b ≡ true → c ≡ true → d ≡ true → (a && b && c) ≡ (d && a)
and_turned a true true true x y z = and_true (a && true) ∙ and_true a
and_turned a b c d x y z = cc

-- what is picked is gone, and all else is held as before
kind_held-without : (picked : Owner → LockId → Bool) (entries : LockList) (owner : Owner) (lock : LockId)
    → kind_held (without picked entries) owner lock ≡ cond (picked owner lock) None (kind_held entries owner lock)
kind_held-without picked [] owner lock =
    sym (cond_both (picked owner lock) None None (λ (o : Option LockKind). o ≡ None) (λ _. refl) (λ _. refl))
kind_held-without picked (e ∷ es) owner lock =
    let rest = kind_held-without picked es owner lock in
    let gone : Bool = picked e.owner e.lock in
    let dropped : gone ≡ true → without picked (e ∷ es) ≡ without picked es =
    λ yes. cond-false (not gone) (e ∷ without picked es) (without picked es) (ap not yes) in
    let kept : gone ≡ false → without picked (e ∷ es) ≡ e ∷ without picked es =
    λ no. cond-true (not gone) (e ∷ without picked es) (without picked es) (ap not no) in
    let Goal : Type 0 = kind_held (without picked (e ∷ es)) owner lock ≡ cond (picked owner lock) None (kind_held (e ∷ es) owner lock) in
    let another : is_of owner lock e ≡ false → Goal =
    λ no.
    let same : kind_held (without picked (e ∷ es)) owner lock ≡ kind_held (without picked es) owner lock =
    ⊎_elim
    (λ yes. ap (λ xs. kind_held xs owner lock) (dropped yes))
    (λ stays. ap (λ xs. kind_held xs owner lock) (kept stays) ∙ kind_held-later owner lock e (without picked es) no)
    (cases_Bool gone) in
    same ∙ rest ∙ ap (λ (o : Option LockKind). cond (picked owner lock) None o) (sym (kind_held-later owner lock e es no)) in
    let itself : is_of owner lock e ≡ true → Goal =
    λ yes.
    let who = is_of-true owner lock e yes in
    let one : gone ≡ picked owner lock = ap (λ o. picked o e.lock) who.0 ∙ ap (λ l. picked owner l) who.1 in
    ⊎_elim
    (λ out. ap (λ xs. kind_held xs owner lock) (dropped out) ∙ rest
    ∙ cond-true (picked owner lock) None (kind_held es owner lock) (sym one ∙ out)
    ∙ sym (cond-true (picked owner lock) None (kind_held (e ∷ es) owner lock) (sym one ∙ out)))
    (λ stays. ap (λ xs. kind_held xs owner lock) (kept stays) ∙ kind_held-first owner lock e (without picked es) yes
    ∙ sym (kind_held-first owner lock e es yes)
    ∙ sym (cond-false (picked owner lock) None (kind_held (e ∷ es) owner lock) (sym one ∙ stays)))
    (cases_Bool gone) in
    ⊎_elim itself another (cases_Bool (is_of owner lock e))

pub HeldAfter-without : (picked : Owner → LockId → Bool) (entries : LockList) → HeldAfter entries (without picked entries) picked None
HeldAfter-without picked entries = kind_held-without picked entries

-- how the entries that a grant adds are held
kind_held-entries_for : (entries : LockList) (owner : Owner) (locks : Marks) (kind : LockKind) (holder : Owner) (lock : LockId)
    → kind_held (entries_for owner (missing entries owner locks) kind) holder lock
    ≡ cond (is_missing entries owner locks lock && same_owner owner holder) (Some kind) None
kind_held-entries_for entries owner locks kind holder lock =
    let make : LockId → LockEntry = λ l. record { owner = owner; lock = l; kind = kind } in
    let lacks : LockId → Bool = is_missing entries owner locks in
    let test : LockId → Bool = λ l. lacks l && is_of holder lock (make l) in
    let found : find (is_of holder lock) (map make (filter lacks every_lock)) ≡ option_map make (find test every_lock) =
    find-map (is_of holder lock) make (filter lacks every_lock)
    ∙ ap (option_map make) (find-filter (λ l. is_of holder lock (make l)) lacks every_lock) in
    let off : (other : LockId) → same_lock other lock ≡ false → test other ≡ false =
    λ other differs. and_right (lacks other) (is_of holder lock (make other)) (and_right (same_owner owner holder) (same_lock other lock) differs) in
    let here : find test every_lock ≡ cond (test lock) (Some lock) None = find-every_lock test lock off in
    let kind_of : Option LockId → Option LockKind = λ o. option_map (λ (e : LockEntry). e.kind) (option_map make o) in
    let chosen : Bool = lacks lock && same_owner owner holder in
    let same : test lock ≡ chosen =
    ap (λ b. lacks lock && (same_owner owner holder && b)) (same_lock-itself lock)
    ∙ ap (λ b. lacks lock && b) (and_true (same_owner owner holder)) in
    ap (option_map (λ (e : LockEntry). e.kind)) found ∙ ap kind_of here ∙ ap (λ b. kind_of (cond b (Some lock) None)) same
    ∙ cond_both chosen (Some lock) None (λ o. kind_of o ≡ cond chosen (Some kind) None)
    (λ yes. sym (cond-true chosen (Some kind) None yes)) (λ no. sym (cond-false chosen (Some kind) None no))

-- how a lock is held after the kinds have changed and entries were added, by how it was held before
abbrev held_then : LockList → Bool → LockKind → Owner → LockId → Option LockKind → Option LockKind
held_then added picked kind holder lock None = kind_held added holder lock
held_then added picked kind holder lock (Some before) = Some (cond picked kind before)

kind_held-changed : (entries added : LockList) (owner : Owner) (locks : Marks) (kind : LockKind) (holder : Owner) (lock : LockId)
    → kind_held (map (in_kind owner locks kind) entries ++ added) holder lock
    ≡ held_then added (in_set owner locks holder lock) kind holder lock (kind_held entries holder lock)
kind_held-changed [] added owner locks kind holder lock = refl
kind_held-changed (e ∷ es) added owner locks kind holder lock =
    let rest = kind_held-changed es added owner locks kind holder lock in
    let f : LockEntry → LockEntry = in_kind owner locks kind in
    let changed : LockEntry = record e { kind = kind } in
    let picked : Bool = in_set owner locks e.owner e.lock in
    let after : Option LockKind → Option LockKind = held_then added (in_set owner locks holder lock) kind holder lock in
    let blind : is_of holder lock (f e) ≡ is_of holder lock e =
    cond_both picked changed e (λ x. is_of holder lock x ≡ is_of holder lock e) (λ _. refl) (λ _. refl) in
    let new_kind : (f e).kind ≡ cond picked kind e.kind =
    cond_both picked changed e (λ x. x.kind ≡ cond picked kind e.kind)
    (λ yes. sym (cond-true picked kind e.kind yes)) (λ no. sym (cond-false picked kind e.kind no)) in
    ⊎_elim
    (λ yes.
    let who = is_of-true holder lock e yes in
    let one : picked ≡ in_set owner locks holder lock =
    ap (λ o. in_set owner locks o e.lock) who.0 ∙ ap (λ l. in_set owner locks holder l) who.1 in
    kind_held-first holder lock (f e) (map f es ++ added) (blind ∙ yes)
    ∙ ap (λ k. Some k) (new_kind ∙ ap (λ b. cond b kind e.kind) one)
    ∙ sym (ap after (kind_held-first holder lock e es yes)))
    (λ no.
    kind_held-later holder lock (f e) (map f es ++ added) (blind ∙ no) ∙ rest ∙ sym (ap after (kind_held-later holder lock e es no)))
    (cases_Bool (is_of holder lock e))

-- an owner that does not hold the lock misses it exactly where it asks for it
missing_is_asked : (entries : LockList) (owner : Owner) (locks : Marks) (holder : Owner) (lock : LockId)
    → kind_held entries holder lock ≡ None
    → (is_missing entries owner locks lock && same_owner owner holder) ≡ in_set owner locks holder lock
missing_is_asked entries owner locks holder lock none =
    ⊎_elim
    (λ yes.
    let same = same_owner-true holder owner yes in
    let absent : is_none (kind_held entries owner lock) ≡ true =
    ap is_none (subst (λ (o : Owner). kind_held entries o lock ≡ None) same none) in
    let back : same_owner owner holder ≡ true =
    subst (λ (o : Owner). same_owner owner o ≡ true) (sym same) (same_owner-itself owner) in
    and_turned (has locks lock) (is_none (kind_held entries owner lock)) (same_owner owner holder) (same_owner holder owner) absent back yes)
    (λ no.
    let never : same_owner owner holder ≡ true → ⊥ = λ t.
    let turned : same_owner holder owner ≡ true =
    subst (λ (o : Owner). same_owner o owner ≡ true) (same_owner-true owner holder t) (same_owner-itself owner) in
    both_ways (same_owner holder owner) no turned in
    let differs = false_from_ne_true (same_owner owner holder) never in
    and_right (is_missing entries owner locks lock) (same_owner owner holder) differs
    ∙ sym (and_left (same_owner holder owner) (has locks lock) no))
    (cases_Bool (same_owner holder owner))

held_then-asked : (entries : LockList) (owner : Owner) (locks : Marks) (kind : LockKind) (holder : Owner) (lock : LockId) (before : Option LockKind)
    → kind_held entries holder lock ≡ before
    → held_then (entries_for owner (missing entries owner locks) kind) (in_set owner locks holder lock) kind holder lock before
    ≡ cond (in_set owner locks holder lock) (Some kind) before
held_then-asked entries owner locks kind holder lock None e =
    kind_held-entries_for entries owner locks kind holder lock
    ∙ ap (λ b. cond {A = Option LockKind} b (Some kind) None) (missing_is_asked entries owner locks holder lock e)
held_then-asked entries owner locks kind holder lock (Some before) e =
    let picked : Bool = in_set owner locks holder lock in
    cond_both picked kind before (λ k. Some k ≡ cond picked (Some kind) (Some before))
    (λ yes. sym (cond-true picked (Some kind) (Some before) yes)) (λ no. sym (cond-false picked (Some kind) (Some before) no))

-- what is asked for is held in the kind, and all else as before
pub HeldAfter-granted : (entries : LockList) (owner : Owner) (locks : Marks) (kind : LockKind)
    → HeldAfter entries (granted entries owner locks kind) (in_set owner locks) (Some kind)
HeldAfter-granted entries owner locks kind = λ holder lock.
    kind_held-changed entries (entries_for owner (missing entries owner locks) kind) owner locks kind holder lock
    ∙ held_then-asked entries owner locks kind holder lock (kind_held entries holder lock) refl
