-- At a replica where nobody writes a request leaves the database as it reads.
use Rattle.std.proofs.Common.{◌≡◌, ℕ, ◌≤◌, Bool, true, false, ◌&&◌, List, Option, Some, None, refl, sym, ap, ◌∙◌, subst, inl, inr, arith}
use Rattle.std.specs.Prelude.{nat_lt, IsSomeAnd}
use Rattle.std.proofs.lemmas.Bool.{cases_lt, cond-false}
use Rattle.std.proofs.lemmas.Bool.Decides.{nat_tests}
use Rattle.byte_locks.specs.declared.lock_bytes.FileKind.{FileKind}
use Rattle.byte_locks.specs.declared.lock_bytes.FileKind.TheVariants as file
use Rattle.byte_locks.specs.declared.lock_kind.LockKind.TheVariants as kind
use Rattle.byte_locks.specs.declared.owner.Owner.{Owner}
use Rattle.byte_locks.specs.LockEntry.{in_set, on_file, of_session}
use Rattle.byte_locks.specs.LockList.{LockList, without, granted}
use Rattle.byte_locks.specs.LockSet.{Marks}
use Rattle.database_under_log.proofs.KeepLemmas.{empty_none}
use Rattle.file_handles.specs.Handles.{OpenHandles, without_session}
use Rattle.file_handles.specs.Names.{file_named}
use Rattle.file_handles.specs.Nodes.{file_at}
use Rattle.fuse_msgs.specs.declared.reply.Reply.{Reply}
use Rattle.fuse_msgs.specs.declared.request.LockWish.{LockWish}
use Rattle.fuse_msgs.specs.declared.request.LockWish.TheVariants as wish
use Rattle.fuse_msgs.specs.declared.request.Op.{Op}
use Rattle.fuse_msgs.specs.declared.request.Op.TheVariants as op
use Rattle.lf_base.specs.FileBytes.{resized}
use Rattle.lf_sqlite_pages.specs.Image.{DatabaseImage}
use Rattle.wal_watch.specs.Frames.{committed_count}
use Rattle.file_view.specs.declared.journal.JournalCall.{JournalCall}
use Rattle.file_view.specs.declared.journal.JournalCall.TheVariants as call
use Rattle.file_view.specs.declared.requests.Plan.{Plan}
use Rattle.file_view.specs.declared.requests.Plan.TheVariants as plan
use Rattle.file_view.specs.declared.view.Role.TheVariants as role
use Rattle.file_view.specs.declared.view.Scene.{Scene}
use Rattle.file_view.specs.Acting.{with_locks}
use Rattle.file_view.specs.Done.{IsReplied, MayCommit, IsWritten, IsSized, IsUnlinked, IsDoneAt}
use Rattle.file_view.specs.Endings.{ended}
use Rattle.file_view.specs.JournalRules.{finishes, ends_writing, journal_rows, JournalDone}
use Rattle.file_view.specs.LockRules.{locks_at, after_wish}
use Rattle.file_view.specs.LogRules.{log_write_rows, log_cut_rows, log_unlink_rows, log_cut, log_removed}
use Rattle.file_view.specs.DatabaseRules.{database_write_rows, database_size_rows}
use Rattle.file_view.specs.NameRules.{with_file, unlinking_rows}
use Rattle.file_view.specs.Refusal.{first_refusal}
use Rattle.file_view.specs.Requests.{owner_of, write_rows, size_rows, rows_at}
use Rattle.file_view.specs.Roles.{is_replica}
use Rattle.file_view.specs.Served.{Served, log_contents, has_committed_frames, waits}
use Rattle.file_view.specs.Steady.{IsQuiet, SameDatabase, CommitsNothing}
use Rattle.file_view.proofs.LogLemmas.{cut-sound}
use Rattle.file_view.proofs.RequestLemmas.{size-allowed, write-allowed, unlink-allowed}
use Rattle.file_view.proofs.RowLemmas.{none-holds, nothing-held}

-- files of which nothing counts here
quiet-same : (old new : Served) → IsQuiet old → new.database ≡ old.database → new.writer ≡ old.writer → waits new ≡ waits old → log_contents new ≡ log_contents old →
    SameDatabase old new × IsQuiet new
quiet-same old new quiet database writer waiting contents = (
  record { file = database; frames = λ some. contents; no_frames = λ none. rw contents none },
  record { alone = writer ∙ quiet.alone; free = waiting ∙ quiet.free },
)

-- a change of the locks
quiet-locked : (s : Served) (locks : LockList) → IsQuiet s → SameDatabase s (with_locks s locks) × IsQuiet (with_locks s locks)
quiet-locked s locks quiet = quiet-same s (with_locks s locks) quiet (let e : s.writer ≡ None = quiet.alone in rw e refl) (let e : s.writer ≡ None = quiet.alone in rw e refl) refl refl

pub quiet-ended : (s : Served) (session : ℕ) → IsQuiet s → SameDatabase s (ended s session) × IsQuiet (ended s session)
quiet-ended s session quiet =
    let closed : Served = record s { handles = without_session s.handles session } in
    let both = quiet-locked closed (without (of_session session) s.locks) (record { alone = quiet.alone; free = quiet.free }) in
    (record { file = both.0.file; frames = both.0.frames; no_frames = both.0.no_frames }, both.1)

-- a file is there, with a new handle
quiet-created : (s : Served) (f : FileKind) (handles : OpenHandles) → IsQuiet s → SameDatabase s (record (with_file s f) { handles = handles }) × IsQuiet (record (with_file s f) { handles = handles })
quiet-created s file.Database handles quiet = quiet-same s (record (with_file s file.Database) { handles = handles }) quiet refl refl refl refl
quiet-created s file.Journal handles quiet = quiet-same s (record (with_file s file.Journal) { handles = handles }) quiet refl refl refl refl
quiet-created s file.Wal handles quiet = quiet-same s (record (with_file s file.Wal) { handles = handles }) quiet refl refl refl refl
quiet-created s file.Shm handles quiet = quiet-same s (record (with_file s file.Shm) { handles = handles }) quiet refl refl refl refl
quiet-created s file.PosFile handles quiet = quiet-same s (record (with_file s file.PosFile) { handles = handles }) quiet refl refl refl refl
quiet-created s file.LockFile handles quiet = quiet-same s (record (with_file s file.LockFile) { handles = handles }) quiet refl refl refl refl
quiet-created s file.Primary handles quiet = quiet-same s (record (with_file s file.Primary) { handles = handles }) quiet refl refl refl refl

-- the log without frames is cut or removed
no-frames-cut : (s : Served) (scene : Scene) (len : ℕ) → first_refusal (log_cut_rows s scene len) ≡ None → has_committed_frames s ≡ false → nat_lt 0 (committed_count (resized len (log_contents s))) ≡ false
no-frames-cut s scene len none bare =
    let sound = cut-sound s scene len empty_none none in
    let before : committed_count (log_contents s) ≤ 0 = grind (arith, nat_tests, bare) in
    elim (cases_lt (committed_count (log_contents s)) (committed_count (resized len (log_contents s)))) [
      | inl more ↦ absurd (sound.part (inr more))
      | inr fewer ↦ grind (arith, nat_tests, fewer, before)
    ]

-- of two tests one fails
other-fails : (a b : Bool) → (a && b) ≡ false → b ≡ true → a ≡ false
other-fails true b h holds = absurd (let e : true ≡ false = sym holds ∙ h in cc)
other-fails false b h holds = refl

never : (a : Bool) → (a && false) ≡ false
never true = refl
never false = refl

replied-nothing : (p : Plan) (r : Reply) → p ≡ plan.Reply r → CommitsNothing p
replied-nothing p r is = subst CommitsNothing (sym is) tt

module _ (told : Option DatabaseImage) (old : Served) (scene : Scene) (replica : scene.role ≡ role.Replica) (quiet : IsQuiet old) where
  follows : is_replica scene.role ≡ true
  follows = rw replica refl

  -- a replica writes nothing
  refused : {A : Type 0} → is_replica scene.role ≡ false → A
  refused h = absurd (let e : true ≡ false = sym follows ∙ h in cc)

  -- nor does a call on its journal commit anything
  no-ending : (c : JournalCall) → ends_writing old c ≡ false
  no-ending c = let e : old.writer ≡ None = quiet.alone in rw e (never (finishes old c))

  replied-quiet : (p : Plan) (r : Reply) (files new : Served) → SameDatabase old files × IsQuiet files → IsReplied p r files new → SameDatabase old new × IsQuiet new × CommitsNothing p
  replied-quiet p r files new same done = (
    subst (λ (s : Served). SameDatabase old s) (sym done.files_are) same.0,
    subst (λ (s : Served). IsQuiet s) (sym done.files_are) same.1,
    replied-nothing p r done.reply,
  )

  called-quiet : (c : JournalCall) (p : Plan) (r : Reply) (new : Served) → MayCommit p r (λ change. JournalDone told old scene c change new) → SameDatabase old new × IsQuiet new × CommitsNothing p
  called-quiet c (plan.Reply given) r new done =
      let is = done.1.1 ∙ cond-false _ _ _ (no-ending c) in
      let held : old.held_write ≡ None = nothing-held old quiet.free in
      let both = quiet-same old new quiet (ap (λ (s : Served). s.database) is) (ap (λ (s : Served). s.writer) is) (ap (λ (s : Served). waits s) is ∙ rw held refl ∙ sym quiet.free)
      (ap (λ (s : Served). log_contents s) is) in
      (both.0, both.1, tt)
  called-quiet c plan.Silent r new done = absurd done
  called-quiet c (plan.Commit given change) r new done = absurd (let e : Some change ≡ None = done.1.0.nothing (no-ending c) in cc)

  written-quiet : (f : Option FileKind) (given : Option ℕ) (place : ℕ) (bytes : List ℕ) (p : Plan) (new : Served) → first_refusal (write_rows old scene f given place bytes) ≡ None →
      IsWritten told old scene f place bytes p new → SameDatabase old new × IsQuiet new × CommitsNothing p
  written-quiet None given place bytes p new none done = absurd done
  written-quiet (Some file.Database) given place bytes p new none done = refused (none-holds (database_write_rows old scene given place bytes) none).1.0
  written-quiet (Some file.Journal) given place bytes p new none done = refused (none-holds (journal_rows old scene given (call.Write place bytes)) none).1.0
  written-quiet (Some file.Wal) given place bytes p new none done = refused (none-holds (log_write_rows old scene given place bytes) none).1.0
  written-quiet (Some file.Shm) given place bytes p new none done = replied-quiet p _ _ new (quiet-same old _ quiet refl refl refl refl) done
  written-quiet (Some file.PosFile) given place bytes p new none done = absurd done
  written-quiet (Some file.LockFile) given place bytes p new none done = absurd done
  written-quiet (Some file.Primary) given place bytes p new none done = absurd done

  cut-quiet : (len : ℕ) → first_refusal (log_cut_rows old scene len) ≡ None → SameDatabase old (log_cut old len) × IsQuiet (log_cut old len)
  cut-quiet len none =
      let bare : has_committed_frames old ≡ false = other-fails (has_committed_frames old) (is_replica scene.role) (none-holds (log_cut_rows old scene len) none).1.1.1.0 follows in (
        record {
          file = refl;
          frames = λ some. absurd (let e : true ≡ false = sym some ∙ bare in cc);
          no_frames = λ _. no-frames-cut old scene len none bare;
        },
        record { alone = quiet.alone; free = quiet.free },
      )

  sized-quiet : (node : ℕ) (f : Option FileKind) (given : Option ℕ) (len : ℕ) (p : Plan) (new : Served) → first_refusal (size_rows old scene f given len) ≡ None →
      IsSized told old scene node f len p new → SameDatabase old new × IsQuiet new × CommitsNothing p
  sized-quiet node None given len p new none done = absurd done
  sized-quiet node (Some file.Database) given len p new none done = refused (none-holds (database_size_rows old scene given len) none).1.0
  sized-quiet node (Some file.Journal) given len p new none done = refused (none-holds (journal_rows old scene given (call.Cut len)) none).1.0
  sized-quiet node (Some file.Wal) given len p new none done = replied-quiet p _ (log_cut old len) new (cut-quiet len none) done
  sized-quiet node (Some file.Shm) given len p new none done = replied-quiet p _ _ new (quiet-same old _ quiet refl refl refl refl) done
  sized-quiet node (Some file.PosFile) given len p new none done = absurd done
  sized-quiet node (Some file.LockFile) given len p new none done = absurd done
  sized-quiet node (Some file.Primary) given len p new none done = absurd done

  removed-quiet : first_refusal (log_unlink_rows old scene) ≡ None → SameDatabase old (log_removed old) × IsQuiet (log_removed old)
  removed-quiet none =
      let bare : has_committed_frames old ≡ false = other-fails (has_committed_frames old) (is_replica scene.role) (none-holds (log_unlink_rows old scene) none).1.0 follows in (
        record {
          file = refl;
          frames = λ some. absurd (let e : true ≡ false = sym some ∙ bare in cc);
          no_frames = λ _. (let e = empty_none in rw e refl);
        },
        record { alone = quiet.alone; free = quiet.free },
      )

  unlinked-quiet : (f : Option FileKind) (p : Plan) (new : Served) → first_refusal (unlinking_rows old scene f) ≡ None → IsUnlinked told old scene f p new →
      SameDatabase old new × IsQuiet new × CommitsNothing p
  unlinked-quiet None p new none done = absurd done
  unlinked-quiet (Some file.Database) p new none done = absurd done
  unlinked-quiet (Some file.Journal) p new none done = called-quiet call.Unlink p _ new done
  unlinked-quiet (Some file.Wal) p new none done = replied-quiet p _ (log_removed old) new (removed-quiet none) done
  unlinked-quiet (Some file.Shm) p new none done = replied-quiet p _ _ new (quiet-same old _ quiet refl refl refl refl) done
  unlinked-quiet (Some file.PosFile) p new none done = absurd done
  unlinked-quiet (Some file.LockFile) p new none done = absurd done
  unlinked-quiet (Some file.Primary) p new none done = absurd done

  wished-quiet : (owner : Owner) (locks : Marks) (w : LockWish) → SameDatabase old (after_wish old owner locks w) × IsQuiet (after_wish old owner locks w)
  wished-quiet owner locks wish.Read = quiet-locked old (granted old.locks owner locks kind.Read) quiet
  wished-quiet owner locks wish.Write = quiet-locked old (granted old.locks owner locks kind.Write) quiet
  wished-quiet owner locks wish.Unlock = quiet-locked old (without (in_set owner locks) old.locks) quiet

  still : SameDatabase old old × IsQuiet old
  still = quiet-same old old quiet refl refl refl refl

  on-file : (o : Option FileKind) (Does : FileKind → Type 0) (p : Plan) (new : Served) → ((f : FileKind) → Does f → SameDatabase old new × IsQuiet new × CommitsNothing p) → IsSomeAnd o Does →
      SameDatabase old new × IsQuiet new × CommitsNothing p
  on-file None Does p new each done = absurd done
  on-file (Some f) Does p new each done = each f done

  pub quiet-at : (node : ℕ) (o : Op) (p : Plan) (new : Served) → first_refusal (rows_at old scene node o) ≡ None → IsDoneAt told old scene node o p new →
      SameDatabase old new × IsQuiet new × CommitsNothing p
  quiet-at node (op.Lookup name) p new none done = on-file (file_named old.name name) _ p new (λ f d. replied-quiet p _ old new still d) done
  quiet-at node op.Forget p new none done =
      (subst (λ (s : Served). SameDatabase old s) (sym done.1) still.0, subst (λ (s : Served). IsQuiet s) (sym done.1) still.1, subst CommitsNothing (sym done.0) tt)
  quiet-at node op.Getattr p new none done = replied-quiet p _ old new still done
  quiet-at node (op.Setattr None given) p new none done = replied-quiet p _ old new still done
  quiet-at node (op.Setattr (Some len) given) p new none done = sized-quiet node (file_at node) given len p new (size-allowed old scene node given len none) done
  quiet-at node (op.Unlink name) p new none done = unlinked-quiet (file_named old.name name) p new (unlink-allowed old scene node name none) done
  quiet-at node op.Open p new none done =
      on-file (file_at node) _ p new
      (λ f d. replied-quiet p _ _ new (quiet-same old _ quiet refl refl refl refl) (record { reply = d.1.reply; files_are = d.1.opened.state })) done
  quiet-at node (op.Read fh place size given) p new none done = on-file (file_at node) _ p new (λ f d. replied-quiet p _ old new still d.1.reply) done
  quiet-at node (op.Write fh place given bytes) p new none done = written-quiet (file_at node) given place bytes p new (write-allowed old scene node fh place given bytes none) done
  quiet-at node (op.Release fh owner) p new none done = replied-quiet p _ _ new (quiet-same old _ quiet refl refl refl refl) done
  quiet-at node (op.Fsync fh) p new none done = replied-quiet p _ old new still done
  quiet-at node (op.Flush fh owner) p new none done =
      on-file (file_at node) _ p new (λ f d. replied-quiet p _ _ new (quiet-locked old (without (on_file (owner_of scene owner) f) old.locks) quiet) d) done
  quiet-at node (op.Init major minor) p new none done = replied-quiet p _ old new still done
  quiet-at node (op.Getlk fh owner start end w) p new none done = replied-quiet p _ old new still done
  quiet-at node (op.Setlk fh owner start end w) p new none done = replied-quiet p _ _ new (wished-quiet (owner_of scene owner) (locks_at node start end) w) done
  quiet-at node (op.Setlkw fh owner start end w) p new none done = replied-quiet p _ _ new (wished-quiet (owner_of scene owner) (locks_at node start end) w) done
  quiet-at node (op.Create name) p new none done =
      on-file (file_named old.name name) _ p new
      (λ f d. replied-quiet p _ _ new (quiet-created old f _ quiet) (record { reply = d.1.reply; files_are = d.1.created.state })) done
  quiet-at node op.Destroy p new none done = replied-quiet p _ old new still done
