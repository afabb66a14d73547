-- What stands once no rule refuses a change of the database file.
use Rattle.std.proofs.Common.{◌≡◌, ℕ, suc, ◌+◌, ◌-◌, ◌*◌, ◌/◌, ◌%◌, ◌<◌, ◌≤◌, ◌^◌, Bool, true, false, ◌&&◌, ◌||◌, not, length, List, inl, inr, Option, Some, None, refl, sym, ◌∙◌, subst, arith}
use Rattle.std.specs.Prelude.{◌==◌, nat_lt, nat_le, is_some, IsSome, unwrap_or, if◌then◌else◌}
use Rattle.std.specs.List.{list_all, range_with_len}
use Rattle.std.specs.Option.{option_map}
use Rattle.std.proofs.Math.Nat.{div-le_self, div-add-mod}
use Rattle.std.proofs.lemmas.Bool.{cases_Bool, cases_eq, and_parts, cond-true, cond-false}
use Rattle.std.proofs.lemmas.Bool.Decides.{nat_tests}
use Rattle.std.proofs.lemmas.Grind.{common_steps}
use Rattle.byte_locks.specs.declared.owner.Owner.{Owner}
use Rattle.byte_locks.specs.declared.lock_id.LockId.{LockId}
use Rattle.byte_locks.specs.declared.lock_id.LockId.TheVariants as lock
use Rattle.byte_locks.specs.LockList.{LockList, writer_of}
use Rattle.database_file.specs.DatabaseFile.{DatabaseFile, count_over}
use Rattle.database_file.specs.Writing.{AreDataPages}
use Rattle.database_file.specs.Writing.{page_in as page_of_bytes}
use Rattle.journal_watch.specs.Journal.{is_active}
use Rattle.lf_base.specs.declared.errno.Errno.{Errno}
use Rattle.lf_sqlite_pages.specs.LockPage.{lock_page_of}
use Rattle.lf_sqlite_pages.specs.PageSize.{IsPageSize, is_page_size}
use Rattle.wal_watch.specs.Frames.{committed_count}
use Rattle.wal_watch.specs.News.{last_size}
use Rattle.file_view.specs.declared.view.Scene.{Scene}
use Rattle.file_view.specs.Acting.{is_actor, writes}
use Rattle.file_view.specs.DatabaseRules.{first_page, page_count, are_pages, most_pages, holds_frame, hold_frames, uncommitted_rows, checkpoint_rows, sized_write_rows, kept_at_most, states_other, writer_after, checkpoint_resize_rows, resize_rows, sized_resize_rows, resizes, is_log_size, states_size}
use Rattle.file_view.specs.DatabaseParts.{IsOwned}
use Rattle.file_view.specs.Errno.{EINVAL, EFBIG}
use Rattle.file_view.specs.Refusal.{first_refusal}
use Rattle.file_view.specs.Served.{Served, log_contents, has_committed_frames}
use Rattle.file_view.specs.Sound.{IsSound}
use Rattle.file_view.proofs.RowLemmas.{none-holds, nothing-held}

-- a page size is above 0
pub size-some : (size : ℕ) → IsPageSize size → 0 < size
unfolding is_page_size
size-some size is = elim (cases_eq size 0) [
  | inl none ↦ absurd (let e : is_page_size 0 ≡ true = rw none at is in cc)
  | inr some ↦ omega (arith, some)
]

-- a test whose opposite is false is true
pub opposite : (b : Bool) → not b ≡ false → b ≡ true
opposite true h = refl
opposite false h = absurd cc

-- whole pages at a whole page
pages-are : (size place : ℕ) (bytes : List ℕ) → are_pages size place (length bytes) ≡ true → nat_lt (most_pages size) (place / size + page_count size bytes) ≡ false →
    AreDataPages size (first_page size place) bytes
pages-are size place bytes pages within =
    let away : Bool = nat_lt (lock_page_of size) (place / size + 1) || nat_lt (place / size + length bytes / size) (lock_page_of size) in
    let p = and_parts (nat_le 1 (length bytes / size)) ((place % size == 0) && ((length bytes % size == 0) && away)) pages in
    let q = and_parts (place % size == 0) ((length bytes % size == 0) && away) p.1 in
    let r = and_parts (length bytes % size == 0) away q.1 in
    let some : nat_le 1 (length bytes / size) ≡ true = p.0 in
    let even : (length bytes % size == 0) ≡ true = r.0 in
    let apart : (nat_lt (lock_page_of size) (place / size + 1) || nat_lt (place / size + length bytes / size) (lock_page_of size)) ≡ true = r.1 in
    let few : place / size + length bytes / size ≤ 2147483528 / (size + 4) = grind (arith, nat_tests, within) in
    let most : 2147483528 / (size + 4) ≤ 2147483528 = div-le_self 2147483528 (size + 4) in
    let split : size * (length bytes / size) + length bytes % size ≡ length bytes = div-add-mod (length bytes) size in
    let none : length bytes % size ≡ 0 = grind (arith, nat_tests, even) in
    record {
      some = grind (arith, nat_tests, some);
      whole = grind (arith, common_steps, split, none);
      first = omega arith;
      numbered = omega (arith, few, most);
      data_pages = λ n from to. λ is. grind (arith, nat_tests, apart, from, to, is);
    }

-- the owner of EXCLUSIVE is there
pub writer-there : (locks : LockList) (session : ℕ) (given : Option ℕ) (l : LockId) → writes locks session given l ≡ true → IsSome (writer_of locks l)
writer-there locks session given l h = looked (writer_of locks l) h where
  looked : (o : Option Owner) → unwrap_or (option_map (is_actor session given) o) false ≡ true → is_some o ≡ true
  looked None h = absurd cc
  looked (Some owner) h = refl

torn-none : (o : Option Owner) → is_some o ≡ false → o ≡ None
torn-none None h = refl
torn-none (Some owner) h = absurd cc

-- uncommitted pages
uncommitted-owned : (s : Served) (scene : Scene) (given : Option ℕ) (size count : ℕ) (other : Bool) → first_refusal (uncommitted_rows s scene given size count other) ≡ None →
    IsSome (writer_of s.locks lock.Shared) × (s.torn ≡ None) × (s.held_write ≡ None)
uncommitted-owned s scene given size count other none =
    let rows = none-holds (uncommitted_rows s scene given size count other) none in
    (writer-there s.locks scene.session given lock.Shared (opposite _ rows.1.0), torn-none s.torn rows.1.1.0, nothing-held s rows.1.1.1.1.1.0)

-- a checkpoint
framed-some : (contents : List ℕ) (page : ℕ) (bytes : List ℕ) → holds_frame contents page bytes ≡ true → nat_lt 0 (committed_count contents) ≡ true
framed-some contents page bytes h = elim (cases_eq (committed_count contents) 0) [
  | inl absent ↦ absurd (let e = rw absent at h in cc)
  | inr some ↦ grind (arith, nat_tests, some)
]

first-held : (contents : List ℕ) (size first : ℕ) (bytes : List ℕ) (n : ℕ) → page_count size bytes ≡ suc n → hold_frames contents size first bytes ≡ true → nat_lt 0 (committed_count contents) ≡ true
first-held contents size first bytes n count h =
    let e : list_all (λ k. holds_frame contents (first + k) (page_of_bytes bytes size k)) (range_with_len 0 (suc n)) ≡ true = rw count at h in
    framed-some contents (first + 0) (page_of_bytes bytes size 0)
    (and_parts (holds_frame contents (first + 0) (page_of_bytes bytes size 0)) (list_all (λ k. holds_frame contents (first + k) (page_of_bytes bytes size k)) (range_with_len 1 n)) e).0

pub checkpoint-framed : (s : Served) (scene : Scene) (given : Option ℕ) (size place : ℕ) (bytes : List ℕ) → 1 ≤ page_count size bytes →
    first_refusal (checkpoint_rows s scene given size place bytes) ≡ None → has_committed_frames s ≡ true
checkpoint-framed s scene given size place bytes some none =
    let held : hold_frames (log_contents s) size (first_page size place) bytes ≡ true = opposite _ (none-holds (checkpoint_rows s scene given size place bytes) none).1.0 in
    let n : ℕ = page_count size bytes - 1 in
    let count : page_count size bytes ≡ suc n = omega (arith, some) in
    first-held (log_contents s) size (first_page size place) bytes n count held

-- two rows that don't hold
pub two-fail : (a b : Bool) (m n : Errno) (rest : Option Errno) → (if a then Some m else (if b then Some n else rest)) ≡ None → (a ≡ false) × (b ≡ false) × (rest ≡ None)
two-fail true b m n rest h = absurd cc
two-fail false true m n rest h = absurd cc
two-fail false false m n rest h = (refl, refl, h)

-- the three parts of it
pub write-parts : (s : Served) (scene : Scene) (given : Option ℕ) (place : ℕ) (bytes : List ℕ) (size : ℕ) →
    first_refusal (sized_write_rows s scene given place bytes (Some size)) ≡ None →
    (not (are_pages size place (length bytes)) ≡ false) × (nat_lt (most_pages size) (place / size + page_count size bytes) ≡ false) × (first_refusal
    (if is_active s.journal.file
    then uncommitted_rows s scene given size (kept_at_most s.database scene.commit (place / size) (page_count size bytes)) (states_other size place bytes)
    else checkpoint_rows s scene given size place bytes) ≡ None)
write-parts s scene given place bytes size none =
    two-fail (not (are_pages size place (length bytes))) (nat_lt (most_pages size) (place / size + page_count size bytes)) EINVAL EFBIG
    (first_refusal
    (if is_active s.journal.file
    then uncommitted_rows s scene given size (kept_at_most s.database scene.commit (place / size) (page_count size bytes)) (states_other size place bytes)
    else checkpoint_rows s scene given size place bytes))
    none

pub write-pages : (s : Served) (scene : Scene) (given : Option ℕ) (place : ℕ) (bytes : List ℕ) (size : ℕ) →
    first_refusal (sized_write_rows s scene given place bytes (Some size)) ≡ None → AreDataPages size (first_page size place) bytes
write-pages s scene given place bytes size none =
    let parts = write-parts s scene given place bytes size none in
    pages-are size place bytes (opposite _ parts.0) parts.1

pub write-owned : (s : Served) (scene : Scene) (given : Option ℕ) (place : ℕ) (bytes : List ℕ) (size : ℕ) →
    first_refusal (sized_write_rows s scene given place bytes (Some size)) ≡ None → IsOwned s
write-owned s scene given place bytes size none =
    let parts = write-parts s scene given place bytes size none in
    let some : 1 ≤ page_count size bytes = (write-pages s scene given place bytes size none).some in
    elim (cases_Bool (is_active s.journal.file)) [
      | inl active ↦
          let rows = rw active at parts.2 in
          let both = uncommitted-owned s scene given size _ _ rows in
          record { owned = λ _. both.0; whole = λ _. both.1; framed = λ fails. absurd (let e : true ≡ false = sym active ∙ fails in cc); free = both.2 }
      | inr idle ↦
          let rows = rw idle at parts.2 in
          record {
            owned = λ holds. absurd (let e : false ≡ true = sym idle ∙ holds in cc);
            whole = λ holds. absurd (let e : false ≡ true = sym idle ∙ holds in cc);
            framed = λ _. checkpoint-framed s scene given size place bytes some rows;
            free = nothing-held s (none-holds (checkpoint_rows s scene given size place bytes) rows).1.1.0;
          }
    ]

-- the files stay sound while the database file is another
sound-active : (s : Served) (d : DatabaseFile) → is_active s.journal.file ≡ true → IsSome (writer_of s.locks lock.Shared) → s.torn ≡ None → s.held_write ≡ None →
    IsSound s → IsSound (record s { database = d; writer = writer_of s.locks lock.Shared })
sound-active s d active there whole free sound = record {
  exclusive = λ owner is. is;
  torn = λ owner is. absurd (let e : None ≡ Some owner = sym whole ∙ is in cc);
  apart = λ owner is. absurd (let e : None ≡ Some owner = sym whole ∙ is in cc);
  journaled = λ owner is. active;
  settled = λ none frames. absurd (let e = rw none at there in cc);
  alone = λ call is. free;
  unwritten = λ owner is. free;
  logged = sound.logged;
  left = sound.left;
}

sound-inactive : (s : Served) (d : DatabaseFile) → has_committed_frames s ≡ true → IsSound s → IsSound (record s { database = d; writer = s.writer })
sound-inactive s d framed sound = record {
  exclusive = sound.exclusive;
  torn = sound.torn;
  apart = sound.apart;
  journaled = sound.journaled;
  settled = λ none frames. absurd (let e : true ≡ false = sym framed ∙ frames in cc);
  alone = sound.alone;
  unwritten = sound.unwritten;
  logged = sound.logged;
  left = sound.left;
}

pub changed-sound : (s : Served) (d : DatabaseFile) (w : Option Owner) → w ≡ writer_after s → IsOwned s → IsSound s → IsSound (record s { database = d; writer = w })
changed-sound s d w is owned sound = elim (cases_Bool (is_active s.journal.file)) [
  | inl holds ↦
      let e : w ≡ writer_of s.locks lock.Shared = is ∙ cond-true _ _ _ holds in
      rw e (sound-active s d holds (owned.owned holds) (owned.whole holds) owned.free sound)
  | inr fails ↦
      let e : w ≡ s.writer = is ∙ cond-false _ _ _ fails in
      rw e (sound-inactive s d (owned.framed fails) sound)
]

-- a resize that no row refuses and that changes something
resize-small : (len size : ℕ) → nat_lt (most_pages size) (len / size) ≡ false → len / size < 2 ^ 31
resize-small len size within =
    let few : len / size ≤ 2147483528 / (size + 4) = grind (arith, nat_tests, within) in
    let most : 2147483528 / (size + 4) ≤ 2147483528 = div-le_self 2147483528 (size + 4) in
    omega (arith, few, most)

pub resize-fits : (s : Served) (scene : Scene) (given : Option ℕ) (len size : ℕ) → first_refusal (sized_resize_rows s scene given len (Some size)) ≡ None → len / size < 2 ^ 31
resize-fits s scene given len size none =
    resize-small len size
    (two-fail (not (len % size == 0)) (nat_lt (most_pages size) (len / size)) EINVAL EFBIG (first_refusal (resize_rows s scene given size (len / size))) none).1

pub three-fail : (a b : Bool) (m n : Errno) (rest : Option Errno) → (if a then Some m else (if b then Some n else rest)) ≡ None → rest ≡ None
three-fail a b m n rest h = (two-fail a b m n rest h).2

pub resize-idle : (s : Served) (scene : Scene) (given : Option ℕ) (count : ℕ) → first_refusal (checkpoint_resize_rows s scene given count) ≡ None → has_committed_frames s ≡ true
resize-idle s scene given count none =
    let contents : List ℕ = log_contents s in
    let stated : is_log_size contents count ≡ true = opposite (is_log_size contents count) (none-holds (checkpoint_resize_rows s scene given count) none).1.0 in
    (and_parts (nat_lt 0 (committed_count contents)) ((count == last_size contents) || (not (count == 0) && states_size contents count)) stated).0

resize-rows-owned : (s : Served) (scene : Scene) (given : Option ℕ) (size count : ℕ) → first_refusal (resize_rows s scene given size count) ≡ None →
    (count == count_over s.database scene.commit) ≡ false → IsOwned s
resize-rows-owned s scene given size count none other =
    let rest = rw other at none in
    elim (cases_Bool (is_active s.journal.file)) [
      | inl active ↦
          let rows = rw active at rest in
          let both = uncommitted-owned s scene given size (kept_at_most s.database scene.commit count 0) false rows in
          record { owned = λ _. both.0; whole = λ _. both.1; framed = λ fails. absurd (let e : true ≡ false = sym active ∙ fails in cc); free = both.2 }
      | inr idle ↦
          let rows = rw idle at rest in
          record {
            owned = λ holds. absurd (let e : false ≡ true = sym idle ∙ holds in cc);
            whole = λ holds. absurd (let e : false ≡ true = sym idle ∙ holds in cc);
            framed = λ _. resize-idle s scene given count rows;
            free = nothing-held s (none-holds (checkpoint_resize_rows s scene given count) rows).1.1.0;
          }
    ]

pub resize-owned : (s : Served) (scene : Scene) (given : Option ℕ) (len size : ℕ) → first_refusal (sized_resize_rows s scene given len (Some size)) ≡ None →
    resizes s scene (len / size) ≡ true → IsOwned s
resize-owned s scene given len size none changes =
    let rest = three-fail (not (len % size == 0)) (nat_lt (most_pages size) (len / size)) EINVAL EFBIG (first_refusal (resize_rows s scene given size (len / size))) none in
    let h = and_parts (not (len / size == count_over s.database scene.commit)) (is_active s.journal.file || (len / size == last_size (log_contents s))) changes in
    let other : (len / size == count_over s.database scene.commit) ≡ false = fails (len / size == count_over s.database scene.commit) h.0 in
    resize-rows-owned s scene given size (len / size) rest other where
      fails : (b : Bool) → not b ≡ true → b ≡ false
      fails true h = absurd cc
      fails false h = refl

-- what holds of the one value that an option has
pub for-size : (o : Option ℕ) (P : ℕ → Type 0) (n : ℕ) → o ≡ Some n → P n → (size : ℕ) → o ≡ Some size → P size
for-size o P n is holds size at =
    let both : Some n ≡ Some size = sym is ∙ at in
    let same : n ≡ size = cc in
    subst P same holds
