-- A request that changes a file of the database is done only where none waits.
use Rattle.std.proofs.Common.{◌≡◌, ℕ, ◌/◌, ◌%◌, Bool, false, not, List, [], ◌∷◌, Option, Some, None, inl, inr}
use Rattle.std.specs.Prelude.{◌==◌, nat_lt}
use Rattle.std.proofs.lemmas.Bool.{cases_Bool}
use Rattle.journal_watch.specs.Journal.{is_active}
use Rattle.file_view.specs.declared.journal.JournalCall.{JournalCall}
use Rattle.file_view.specs.declared.view.Scene.{Scene}
use Rattle.file_view.specs.DatabaseRules.{write_size, page_count, most_pages, kept_at_most, states_other, uncommitted_rows, checkpoint_rows, checkpoint_resize_rows, resize_rows, sized_write_rows, sized_resize_rows, database_write_rows, database_size_rows}
use Rattle.database_file.specs.DatabaseFile.{count_over}
use Rattle.file_view.specs.Errno.{EAGAIN, EIO, EINVAL, EFBIG, EROFS}
use Rattle.file_view.specs.JournalRules.{finishing_rows}
use Rattle.file_view.specs.LogRules.{log_write_rows, log_cut_rows, log_unlink_rows}
use Rattle.file_view.specs.Refusal.{first_refusal}
use Rattle.file_view.specs.Roles.{is_replica}
use Rattle.file_view.specs.Served.{Served, waits}
use Rattle.file_view.proofs.DatabaseLemmas.{two-fail, three-fail, write-parts}
use Rattle.file_view.proofs.RowLemmas.{none-holds}

uncommitted-free : (s : Served) (scene : Scene) (given : Option ℕ) (size count : ℕ) (other : Bool) → first_refusal (uncommitted_rows s scene given size count other) ≡ None → waits s ≡ false
uncommitted-free s scene given size count other none = (none-holds (uncommitted_rows s scene given size count other) none).1.1.1.1.1.0

-- WRITE to the database file
sized-write-free : (s : Served) (scene : Scene) (given : Option ℕ) (place : ℕ) (bytes : List ℕ) (size : Option ℕ) → first_refusal (sized_write_rows s scene given place bytes size) ≡ None → waits s ≡ false
sized-write-free s scene given place bytes None none = absurd cc
sized-write-free s scene given place bytes (Some size) none =
    let parts = write-parts s scene given place bytes size none in
    elim (cases_Bool (is_active s.journal.file)) [
      | inl active ↦
          uncommitted-free s scene given size (kept_at_most s.database scene.commit (place / size) (page_count size bytes)) (states_other size place bytes) (rw active at parts.2)
      | inr idle ↦ (none-holds (checkpoint_rows s scene given size place bytes) (rw idle at parts.2)).1.1.0
    ]

pub write-free : (s : Served) (scene : Scene) (given : Option ℕ) (place : ℕ) (bytes : List ℕ) → first_refusal (database_write_rows s scene given place bytes) ≡ None → waits s ≡ false
write-free s scene given place bytes none =
    sized-write-free s scene given place bytes (write_size s scene place bytes)
    (two-fail scene.is_broken (is_replica scene.role) EIO EROFS (first_refusal (sized_write_rows s scene given place bytes (write_size s scene place bytes))) none).2

-- SETATTR of its size
resize-rows-free : (s : Served) (scene : Scene) (given : Option ℕ) (size count : ℕ) → first_refusal (resize_rows s scene given size count) ≡ None → waits s ≡ false
resize-rows-free s scene given size count none = elim (cases_Bool (count == count_over s.database scene.commit)) [
  | inl same ↦ (none-holds ((waits s, EAGAIN) ∷ []) (rw same at none)).0
  | inr other ↦
      let rest = rw other at none in
      elim (cases_Bool (is_active s.journal.file)) [
        | inl active ↦ uncommitted-free s scene given size (kept_at_most s.database scene.commit count 0) false (rw active at rest)
        | inr idle ↦ (none-holds (checkpoint_resize_rows s scene given count) (rw idle at rest)).1.1.0
      ]
]

sized-resize-free : (s : Served) (scene : Scene) (given : Option ℕ) (len : ℕ) (size : Option ℕ) → first_refusal (sized_resize_rows s scene given len size) ≡ None → waits s ≡ false
sized-resize-free s scene given len None none = (none-holds (sized_resize_rows s scene given len None) none).1.0
sized-resize-free s scene given len (Some size) none =
    resize-rows-free s scene given size (len / size)
    (three-fail (not (len % size == 0)) (nat_lt (most_pages size) (len / size)) EINVAL EFBIG (first_refusal (resize_rows s scene given size (len / size))) none)

pub resize-free : (s : Served) (scene : Scene) (given : Option ℕ) (len : ℕ) → first_refusal (database_size_rows s scene given len) ≡ None → waits s ≡ false
resize-free s scene given len none =
    sized-resize-free s scene given len (write_size s scene 0 [])
    (two-fail scene.is_broken (is_replica scene.role) EIO EROFS (first_refusal (sized_resize_rows s scene given len (write_size s scene 0 []))) none).2

-- calls on the journal and the log
pub finish-free : (s : Served) (scene : Scene) (given : Option ℕ) (c : JournalCall) → first_refusal (finishing_rows s scene given c) ≡ None → waits s ≡ false
finish-free s scene given c none = (none-holds (finishing_rows s scene given c) none).1.1.1.1.0

pub log-write-free : (s : Served) (scene : Scene) (given : Option ℕ) (place : ℕ) (bytes : List ℕ) → first_refusal (log_write_rows s scene given place bytes) ≡ None → waits s ≡ false
log-write-free s scene given place bytes none = (none-holds (log_write_rows s scene given place bytes) none).1.1.1.1.1.1.1.1.1.0

pub log-cut-free : (s : Served) (scene : Scene) (len : ℕ) → first_refusal (log_cut_rows s scene len) ≡ None → waits s ≡ false
log-cut-free s scene len none = (none-holds (log_cut_rows s scene len) none).1.1.1.1.1.1.1.0

pub log-unlink-free : (s : Served) (scene : Scene) → first_refusal (log_unlink_rows s scene) ≡ None → waits s ≡ false
log-unlink-free s scene none = (none-holds (log_unlink_rows s scene) none).1.1.1.1.0
