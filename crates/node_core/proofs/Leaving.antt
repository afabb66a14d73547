-- What every request leaves as it was: the position that was told, whether anything waits but for what is to be committed, and that
-- the locks are a lock list.
use Rattle.std.proofs.Common.{◌≡◌, ◌∙◌, ℕ, ◌/◌, Bool, true, false, List, [], ◌∷◌, Option, Some, None, inl, inr, refl, sym, ap, subst, arith, ◌<◌, ◌&&◌}
use Rattle.std.specs.Prelude.{◌==◌, is_some, nat_lt, not, IsSomeAnd}
use Rattle.std.proofs.lemmas.Bool.{cases_Bool, cases_eq, cond-false, ne_eqb}
use Rattle.std.proofs.lemmas.Bool.Decides.{nat_tests}
use Rattle.byte_locks.specs.declared.lock_bytes.FileKind.{FileKind}
use Rattle.byte_locks.specs.declared.lock_bytes.FileKind.TheVariants as file
use Rattle.byte_locks.specs.declared.owner.Owner.{Owner}
use Rattle.byte_locks.specs.declared.lock_kind.LockKind.{LockKind}
use Rattle.byte_locks.specs.declared.lock_kind.LockKind.TheVariants as kind
use Rattle.byte_locks.specs.LockList.{IsLockList, conflict, first_full, granted}
use Rattle.byte_locks.specs.LockSet.{Marks}
use Rattle.byte_locks.proofs.Grants.{IsLockList-granted}
use Rattle.byte_locks.proofs.Releases.{IsLockList-filter}
use Rattle.file_handles.specs.Handles.{OpenHandles, opened}
use Rattle.file_handles.specs.Names.{file_named}
use Rattle.file_handles.specs.Nodes.{file_at}
use Rattle.fuse_msgs.specs.declared.reply.Reply.{Reply}
use Rattle.fuse_msgs.specs.declared.request.LockWish.{LockWish}
use Rattle.fuse_msgs.specs.declared.request.LockWish.TheVariants as wish
use Rattle.fuse_msgs.specs.declared.request.Op.{Op}
use Rattle.fuse_msgs.specs.declared.request.Op.TheVariants as op
use Rattle.lf_sqlite_pages.specs.Change.{FitsOver, PageChange}
use Rattle.lf_sqlite_pages.specs.Image.{DatabaseImage}
use Rattle.lf_sqlite_pages.specs.PageSize.{IsPageSize}
use Rattle.lf_sqlite_pages.proofs.LockPages.{page_size-positive}
use Rattle.database_file.specs.DatabaseFile.{size_over}
use Rattle.database_under_log.specs.Fault.{wanted_size}
use Rattle.wal_watch.specs.Frames.{committed_count, is_header, page_size_in}
use Rattle.wal_watch.specs.News.{first_new}
use Rattle.wal_watch.proofs.ScanLemmas.{none_committed}
use Rattle.file_view.specs.declared.journal.JournalCall.{JournalCall}
use Rattle.file_view.specs.declared.journal.JournalCall.TheVariants as call
use Rattle.file_view.specs.declared.requests.Plan.{Plan}
use Rattle.file_view.specs.declared.requests.Plan.TheVariants as plan
use Rattle.file_view.specs.declared.view.Scene.{Scene}
use Rattle.file_view.specs.DatabaseRules.{DatabaseSized, database_write_rows, resizes, sized_write_rows, write_size, writer_after}
use Rattle.file_view.specs.Done.{IsDoneAt, IsReplied, IsSized, IsUnlinked, IsWritten, MayCommit, SizesDatabase, WritesDatabase}
use Rattle.file_view.specs.Endings.{abandoned, committed}
use Rattle.file_view.specs.Errno.{EBADF, EIO, EINVAL, ENOENT, EROFS}
use Rattle.file_view.specs.HandleRules.{is_open_at, is_served}
use Rattle.file_view.specs.JournalRules.{JournalCommits, JournalDone, after_journal_call, ends_writing}
use Rattle.file_view.specs.LockRules.{after_wish, grant_rows, locks_at, setlk_rows, wish_rows}
use Rattle.file_view.specs.LogRules.{LogCommits, LogDone, breaks_header, commits_frames, log_after, log_write_rows}
use Rattle.file_view.specs.NameRules.{unlinking_rows, with_file}
use Rattle.file_view.specs.Refusal.{Row, first_refusal}
use Rattle.file_view.specs.Requests.{owner_of, rows_at, size_rows, write_rows}
use Rattle.file_view.specs.Roles.{is_replica}
use Rattle.file_view.specs.Served.{Served, log_contents, waits}
use Rattle.file_view.proofs.RowLemmas.{none-holds}
use Rattle.file_view.proofs.FreeLemmas.{finish-free, log-write-free}
use Rattle.file_view.proofs.RequestLemmas.{finish-allowed, removal-allowed, rest-allowed, size-allowed, unlink-allowed, write-allowed}
use Rattle.node_core.proofs.Endings.{either, none-in}

-- whether anything waits afterwards: what is to be committed fits the image and waits, may be given up without a trace, and once it is
-- done nothing waits
abbrev pub Rests : ℕ → ℕ → Served → Plan → Served → Type 0
Rests page_size commit old (plan.Reply r) new = waits new ≡ waits old
Rests page_size commit old plan.Silent new = waits new ≡ waits old
Rests page_size commit old (plan.Commit r change) new = (abandoned new ≡ old) × (waits (committed new) ≡ false) × FitsOver page_size commit change × (waits new ≡ true)

pub record Leaves (page_size commit : ℕ) (old : Served) (p : Plan) (new : Served) : Type 0 where
  pub position : new.position ≡ old.position
  pub rests : Rests page_size commit old p new
  pub locks : IsLockList old.locks → IsLockList new.locks

true_false : true ≡ false → ⊥
true_false same = cc

-- three tests that all hold
all-true : {a b c : Bool} → a ≡ false → b ≡ true → c ≡ false → (not a && (b && not c)) ≡ true
all-true a b c = rw (a, b, c) refl

-- nothing is below no frame
nothing-below : (first count : ℕ) → nat_lt first count ≡ true → count ≡ 0 → ⊥
nothing-below first count below none = let less : first < count = grind (arith, nat_tests, below) in omega (arith, less, none)

some_none : {X : Type 0} (x : X) → Some x ≡ None → ⊥
some_none x same = cc

module _ (told : Option DatabaseImage) (old : Served) (scene : Scene) (sized : 0 < scene.commit → IsPageSize scene.page_size) where
  held : waits old ≡ false → old.held_write ≡ None
  held idle = none-in old.held_write (either (is_some old.held_write) (is_some old.journal.waiting) idle).0

  free : waits old ≡ false → old.journal.waiting ≡ None
  free idle = none-in old.journal.waiting (either (is_some old.held_write) (is_some old.journal.waiting) idle).1

  -- without anything that waits the files are as they were
  given-up : waits old ≡ false → record old { journal = record { file = old.journal.file; waiting = None }; held_write = None } ≡ old
  given-up idle = λ i. record old { journal = record { file = old.journal.file; waiting = sym (free idle) i }; held_write = sym (held idle) i }

  replied : (p : Plan) (r : Reply) (files new : Served) → files.position ≡ old.position → waits files ≡ waits old → (IsLockList old.locks → IsLockList files.locks) → IsReplied p r files new → Leaves scene.page_size scene.commit old p new
  replied p r files new position waiting locks done = record {
    position = ap (λ (s : Served). s.position) done.files_are ∙ position;
    rests = subst (λ (q : Plan). Rests scene.page_size scene.commit old q new) (sym done.reply) (ap waits done.files_are ∙ waiting);
    locks = λ list. subst (λ (s : Served). IsLockList s.locks) (sym done.files_are) (locks list);
  }

  stays : (p : Plan) (r : Reply) (new : Served) → p ≡ plan.Reply r → (new.position ≡ old.position) → waits new ≡ waits old → new.locks ≡ old.locks → Leaves scene.page_size scene.commit old p new
  stays p r new is position waiting locks = record {
    position = position;
    rests = subst (λ (q : Plan). Rests scene.page_size scene.commit old q new) (sym is) waiting;
    locks = λ list. subst IsLockList (sym locks) list;
  }

  -- a call on the journal
  called-position : (c : JournalCall) → (after_journal_call old c).position ≡ old.position
  called-position c = elim (cases_Bool (ends_writing old c)) [ inl ends ↦ rw ends refl | inr not ↦ rw not refl ]

  called-locks : (c : JournalCall) → (after_journal_call old c).locks ≡ old.locks
  called-locks c = elim (cases_Bool (ends_writing old c)) [ inl ends ↦ rw ends refl | inr not ↦ rw not refl ]

  called-waits : waits old ≡ false → (c : JournalCall) → waits (after_journal_call old c) ≡ false
  called-waits idle c = elim (cases_Bool (ends_writing old c)) [ inl ends ↦ rw (ends, held idle) refl | inr not ↦ rw (not, held idle) refl ]

  -- the change of a journal's end is of the image's page size, where the image has pages
  called-fits : (c : JournalCall) (change : PageChange) → JournalCommits told old scene c (Some change) → FitsOver scene.page_size scene.commit change
  called-fits c change commits = elim (cases_Bool (ends_writing old c)) [
    | inl ends ↦ elim (cases_eq scene.commit 0) [
      | inl none ↦ inr (inl none)
      | inr some ↦
          let size : change.page_size ≡ size_over old.database scene.page_size scene.commit = ap (λ (x : PageChange). x.page_size) (commits.is ends).is in
          inl (sym (size ∙ cond-false (scene.commit == 0) old.database.page_size scene.page_size (ne_eqb scene.commit 0 some)))
    ]
    | inr not ↦ absurd (some_none change (commits.nothing not))
  ]

  -- so is that of a write to the log, whose header is of that page size
  logged-fits : (given : Option ℕ) (place : ℕ) (bytes : List ℕ) (change : PageChange) → first_refusal (log_write_rows old scene given place bytes) ≡ None → LogCommits told old.database (log_contents old) (log_after old place bytes) scene.commit (Some change) →
      FitsOver scene.page_size scene.commit change
  logged-fits given place bytes change none commits =
      let contents : List ℕ = log_after old place bytes in
      let size : change.page_size ≡ page_size_in contents = ap (λ (x : PageChange). x.page_size) commits.is in
      let kept : breaks_header (wanted_size scene.page_size scene.commit) place bytes contents ≡ false = (none-holds (log_write_rows old scene given place bytes) none).1.1.1.1.1.0 in
      elim (cases_Bool (commits_frames (log_contents old) contents)) [
        | inr not ↦ absurd (some_none change (commits.nothing not))
        | inl more ↦ elim (cases_eq scene.commit 0) [
          | inl zero ↦ inr (inl zero)
          | inr some ↦
              let wanted : wanted_size scene.page_size scene.commit ≡ scene.page_size = cond-false (scene.commit == 0) 0 scene.page_size (ne_eqb scene.commit 0 some) in
              let positive : 0 < scene.page_size = page_size-positive scene.page_size (sized (omega (arith, some))) in
              let header : is_header contents ≡ true = elim (cases_Bool (is_header contents)) [
                | inl valid ↦ valid
                | inr invalid ↦ absurd (nothing-below (first_new (log_contents old) contents) (committed_count contents) more (none_committed contents invalid))
              ] in
              let other : (not (scene.page_size == 0) && (is_header contents && not (page_size_in contents == scene.page_size))) ≡ false =
              (either _ _ (subst (λ (k : ℕ). breaks_header k place bytes contents ≡ false) wanted kept)).1 in
              elim (cases_eq (page_size_in contents) scene.page_size) [
                | inl same ↦ inl (sym (size ∙ same))
                | inr apart ↦ absurd (true_false (sym (all-true (ne_eqb scene.page_size 0 (λ zero. omega (arith, zero, positive))) header (ne_eqb (page_size_in contents) scene.page_size apart)) ∙ other))
              ]
        ]
      ]

  called : waits old ≡ false → (c : JournalCall) (p : Plan) (r : Reply) (new : Served) → MayCommit p r (λ change. JournalDone told old scene c change new) → Leaves scene.page_size scene.commit old p new
  called idle c (plan.Reply given) r new done = record {
    position = ap (λ (s : Served). s.position) done.1.1 ∙ called-position c;
    rests = ap waits done.1.1 ∙ called-waits idle c ∙ sym idle;
    locks = λ list. subst IsLockList (sym (ap (λ (s : Served). s.locks) done.1.1 ∙ called-locks c)) list;
  }
  called idle c plan.Silent r new done = absurd done
  called idle c (plan.Commit given change) r new done = record {
    position = ap (λ (s : Served). s.position) done.1.1;
    rests = (ap abandoned done.1.1 ∙ given-up idle, ap (λ (s : Served). waits (committed s)) done.1.1 ∙ rw (held idle) refl, called-fits c change done.1.0, ap waits done.1.1 ∙ rw (held idle) refl);
    locks = λ list. subst IsLockList (sym (ap (λ (s : Served). s.locks) done.1.1)) list;
  }

  -- a write to the log
  logged : (given : Option ℕ) (place : ℕ) (bytes : List ℕ) (p : Plan) (r : Reply) (new : Served) → first_refusal (log_write_rows old scene given place bytes) ≡ None → MayCommit p r (λ change. LogDone told old scene place bytes change new) → Leaves scene.page_size scene.commit old p new
  logged given place bytes (plan.Reply is) r new none done = record {
    position = ap (λ (s : Served). s.position) done.1.1.1;
    rests = ap waits done.1.1.1;
    locks = λ list. subst IsLockList (sym (ap (λ (s : Served). s.locks) done.1.1.1)) list;
  }
  logged given place bytes plan.Silent r new none done = absurd done
  logged given place bytes (plan.Commit is change) r new none done = let idle : waits old ≡ false = log-write-free old scene given place bytes none in record {
    position = ap (λ (s : Served). s.position) done.1.1.state;
    rests = (ap abandoned done.1.1.state ∙ given-up idle, ap (λ (s : Served). waits (committed s)) done.1.1.state ∙ rw (free idle) refl, logged-fits given place bytes change none done.1.0, ap waits done.1.1.state);
    locks = λ list. subst IsLockList (sym (ap (λ (s : Served). s.locks) done.1.1.state)) list;
  }

  -- WRITE and SETATTR of the database file
  sized-write : (given : Option ℕ) (place : ℕ) (bytes : List ℕ) (new : Served) (size : Option ℕ) → write_size old scene place bytes ≡ size → first_refusal (sized_write_rows old scene given place bytes size) ≡ None →
      WritesDatabase told old scene place bytes new → new ≡ record old { database = new.database; writer = writer_after old }
  sized-write given place bytes new None is none writes = absurd (some_none EINVAL none)
  sized-write given place bytes new (Some size) is none writes = (writes size is).all.rest

  database-written : (given : Option ℕ) (place : ℕ) (bytes : List ℕ) (new : Served) → first_refusal (database_write_rows old scene given place bytes) ≡ None → WritesDatabase told old scene place bytes new →
      new ≡ record old { database = new.database; writer = writer_after old }
  database-written given place bytes new none writes =
      let rows : List Row = sized_write_rows old scene given place bytes (write_size old scene place bytes) in
      sized-write given place bytes new (write_size old scene place bytes) refl
      (rest-allowed (is_replica scene.role, EROFS) rows (rest-allowed (scene.is_broken, EIO) ((is_replica scene.role, EROFS) ∷ rows) none)) writes

  sized-same : (size count : ℕ) (new : Served) → DatabaseSized told old scene size count new → (new.position ≡ old.position) × (waits new ≡ waits old) × (new.locks ≡ old.locks)
  sized-same size count new sized = elim (cases_Bool (resizes old scene count)) [
    | inl changes ↦ let is = (sized.resized changes).all.rest in (ap (λ (s : Served). s.position) is, ap waits is, ap (λ (s : Served). s.locks) is)
    | inr same ↦ let is = sized.same same in (ap (λ (s : Served). s.position) is, ap waits is, ap (λ (s : Served). s.locks) is)
  ]

  database-sized : (len : ℕ) (new : Served) (size : Option ℕ) → write_size old scene 0 [] ≡ size → SizesDatabase told old scene len new → (new.position ≡ old.position) × (waits new ≡ waits old) × (new.locks ≡ old.locks)
  database-sized len new None is sizes = let same = sizes.none is in (ap (λ (s : Served). s.position) same, ap waits same, ap (λ (s : Served). s.locks) same)
  database-sized len new (Some size) is sizes = sized-same size (len / size) new (sizes.sized size is)

  -- file by file
  written : (f : Option FileKind) (given : Option ℕ) (place : ℕ) (bytes : List ℕ) (p : Plan) (new : Served) → first_refusal (write_rows old scene f given place bytes) ≡ None →
      IsWritten told old scene f place bytes p new → Leaves scene.page_size scene.commit old p new
  written None given place bytes p new none done = absurd done
  written (Some file.Database) given place bytes p new none done =
      let is = database-written given place bytes new none done.1 in stays p _ new done.0 (ap (λ (s : Served). s.position) is) (ap waits is) (ap (λ (s : Served). s.locks) is)
  written (Some file.Journal) given place bytes p new none done =
      called (finish-free old scene given (call.Write place bytes) (finish-allowed old scene given (call.Write place bytes) none)) (call.Write place bytes) p _ new done
  written (Some file.Wal) given place bytes p new none done = logged given place bytes p _ new none done
  written (Some file.Shm) given place bytes p new none done = replied p _ _ new refl refl (λ l. l) done
  written (Some file.PosFile) given place bytes p new none done = absurd done
  written (Some file.LockFile) given place bytes p new none done = absurd done
  written (Some file.Primary) given place bytes p new none done = absurd done

  resized : (node : ℕ) (f : Option FileKind) (given : Option ℕ) (len : ℕ) (p : Plan) (new : Served) → first_refusal (size_rows old scene f given len) ≡ None → IsSized told old scene node f len p new → Leaves scene.page_size scene.commit old p new
  resized node None given len p new none done = absurd done
  resized node (Some file.Database) given len p new none done =
      let same = database-sized len new (write_size old scene 0 []) refl done.1 in stays p _ new done.0 same.0 same.1 same.2
  resized node (Some file.Journal) given len p new none done = called (finish-free old scene given (call.Cut len) (finish-allowed old scene given (call.Cut len) none)) (call.Cut len) p _ new done
  resized node (Some file.Wal) given len p new none done = replied p _ _ new refl refl (λ l. l) done
  resized node (Some file.Shm) given len p new none done = replied p _ _ new refl refl (λ l. l) done
  resized node (Some file.PosFile) given len p new none done = absurd done
  resized node (Some file.LockFile) given len p new none done = absurd done
  resized node (Some file.Primary) given len p new none done = absurd done

  unlinked : (f : Option FileKind) (p : Plan) (new : Served) → first_refusal (unlinking_rows old scene f) ≡ None → IsUnlinked told old scene f p new → Leaves scene.page_size scene.commit old p new
  unlinked None p new none done = absurd done
  unlinked (Some file.Database) p new none done = absurd done
  unlinked (Some file.Journal) p new none done = called (finish-free old scene None call.Unlink (removal-allowed old scene none)) call.Unlink p _ new done
  unlinked (Some file.Wal) p new none done = replied p _ _ new refl refl (λ l. l) done
  unlinked (Some file.Shm) p new none done = replied p _ _ new refl refl (λ l. l) done
  unlinked (Some file.PosFile) p new none done = absurd done
  unlinked (Some file.LockFile) p new none done = absurd done
  unlinked (Some file.Primary) p new none done = absurd done

  -- locks that nothing stands against are granted
  grants : (owner : Owner) (locks : Marks) (k : LockKind) → first_refusal (grant_rows old scene owner locks k) ≡ None → IsLockList old.locks → IsLockList (granted old.locks owner locks k)
  grants owner locks k none list =
      let fails = none-holds (grant_rows old scene owner locks k) none in
      IsLockList-granted old.locks owner locks k list
      (record { no_conflict = none-in (conflict old.locks owner locks k) fails.1.0; not_full = none-in (first_full old.locks owner locks) fails.1.1.0 })

  wished : (owner : Owner) (locks : Marks) (w : LockWish) → first_refusal (wish_rows old scene owner locks w) ≡ None →
      ((after_wish old owner locks w).position ≡ old.position) × (waits (after_wish old owner locks w) ≡ waits old) × (IsLockList old.locks → IsLockList (after_wish old owner locks w).locks)
  wished owner locks wish.Read none = (refl, refl, grants owner locks kind.Read none)
  wished owner locks wish.Write none = (refl, refl, grants owner locks kind.Write none)
  wished owner locks wish.Unlock none = (refl, refl, IsLockList-filter _ old.locks)

  wish-allowed : (node fh : ℕ) (owner : Owner) (locks : Marks) (w : LockWish) → first_refusal (setlk_rows old scene node fh owner locks w) ≡ None → first_refusal (wish_rows old scene owner locks w) ≡ None
  wish-allowed node fh owner locks w none =
      let rows : List Row = wish_rows old scene owner locks w in
      rest-allowed (not (is_open_at old scene node fh), EBADF) rows
      (rest-allowed (not (is_served old scene node), ENOENT) ((not (is_open_at old scene node fh), EBADF) ∷ rows) none)

  created : (f : FileKind) (handles : OpenHandles) → ((record (with_file old f) { handles = handles }).position ≡ old.position) × (waits (record (with_file old f) { handles = handles }) ≡ waits old) × ((record (with_file old f) { handles = handles }).locks ≡ old.locks)
  created file.Database handles = (refl, refl, refl)
  created file.Journal handles = (refl, refl, refl)
  created file.Wal handles = (refl, refl, refl)
  created file.Shm handles = (refl, refl, refl)
  created file.PosFile handles = (refl, refl, refl)
  created file.LockFile handles = (refl, refl, refl)
  created file.Primary handles = (refl, refl, refl)

  on-file : (o : Option FileKind) (Does : FileKind → Type 0) (p : Plan) (new : Served) → ((f : FileKind) → Does f → Leaves scene.page_size scene.commit old p new) → IsSomeAnd o Does → Leaves scene.page_size scene.commit old p new
  on-file None Does p new each done = absurd done
  on-file (Some f) Does p new each done = each f done

  -- EVERY REQUEST
  pub leaves : (node : ℕ) (o : Op) (p : Plan) (new : Served) → first_refusal (rows_at old scene node o) ≡ None → IsDoneAt told old scene node o p new → Leaves scene.page_size scene.commit old p new
  leaves node (op.Lookup name) p new none done = on-file (file_named old.name name) _ p new (λ f d. replied p _ old new refl refl (λ l. l) d) done
  leaves node op.Forget p new none done = record {
    position = ap (λ (s : Served). s.position) done.1;
    rests = subst (λ (q : Plan). Rests scene.page_size scene.commit old q new) (sym done.0) (ap waits done.1);
    locks = λ list. subst (λ (s : Served). IsLockList s.locks) (sym done.1) list;
  }
  leaves node op.Getattr p new none done = replied p _ old new refl refl (λ l. l) done
  leaves node (op.Setattr None given) p new none done = replied p _ old new refl refl (λ l. l) done
  leaves node (op.Setattr (Some len) given) p new none done = resized node (file_at node) given len p new (size-allowed old scene node given len none) done
  leaves node (op.Unlink name) p new none done = unlinked (file_named old.name name) p new (unlink-allowed old scene node name none) done
  leaves node op.Open p new none done =
      on-file (file_at node) _ p new (λ f d. replied p _ _ new refl refl (λ l. l) (record { reply = d.1.reply; files_are = d.1.opened.state })) done
  leaves node (op.Read fh place size given) p new none done = on-file (file_at node) _ p new (λ f d. replied p _ old new refl refl (λ l. l) d.1.reply) done
  leaves node (op.Write fh place given bytes) p new none done = written (file_at node) given place bytes p new (write-allowed old scene node fh place given bytes none) done
  leaves node (op.Release fh owner) p new none done = replied p _ _ new refl refl (λ l. l) done
  leaves node (op.Fsync fh) p new none done = replied p _ old new refl refl (λ l. l) done
  leaves node (op.Flush fh owner) p new none done = on-file (file_at node) _ p new (λ f d. replied p _ _ new refl refl (IsLockList-filter _ old.locks) d) done
  leaves node (op.Init major minor) p new none done = replied p _ old new refl refl (λ l. l) done
  leaves node (op.Getlk fh owner start end w) p new none done = replied p _ old new refl refl (λ l. l) done
  leaves node (op.Setlk fh owner start end w) p new none done =
      let allowed = wish-allowed node fh (owner_of scene owner) (locks_at node start end) w none in
      let same = wished (owner_of scene owner) (locks_at node start end) w allowed in replied p _ _ new same.0 same.1 same.2 done
  leaves node (op.Setlkw fh owner start end w) p new none done =
      let allowed = wish-allowed node fh (owner_of scene owner) (locks_at node start end) w none in
      let same = wished (owner_of scene owner) (locks_at node start end) w allowed in replied p _ _ new same.0 same.1 same.2 done
  leaves node (op.Create name) p new none done =
      on-file (file_named old.name name) _ p new
      (λ f d. let same = created f (opened old.handles scene.session d.0 f) in
      replied p _ _ new same.0 same.1 (λ list. subst IsLockList (sym same.2) list) (record { reply = d.1.reply; files_are = d.1.created.state })) done
  leaves node op.Destroy p new none done = replied p _ old new refl refl (λ l. l) done
