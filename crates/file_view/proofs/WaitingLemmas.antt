-- A request that waits goes on to wait.
use Rattle.std.proofs.Common.{◌≡◌, ℕ, Bool, true, false, List, Option, Some, None, refl, sym, ap, ◌∙◌, subst}
use Rattle.std.specs.Prelude.{IsSomeAnd}
use Rattle.byte_locks.specs.declared.lock_bytes.FileKind.{FileKind}
use Rattle.byte_locks.specs.declared.lock_bytes.FileKind.TheVariants as file
use Rattle.byte_locks.specs.declared.lock_id.LockId.TheVariants as lock
use Rattle.byte_locks.specs.declared.lock_kind.LockKind.TheVariants as kind
use Rattle.byte_locks.specs.declared.owner.Owner.{Owner}
use Rattle.byte_locks.specs.LockEntry.{in_set, on_file, of_session}
use Rattle.byte_locks.specs.LockList.{LockList, without, granted}
use Rattle.byte_locks.specs.LockSet.{Marks}
use Rattle.file_handles.specs.Handles.{OpenHandles, without_session}
use Rattle.file_handles.specs.Names.{file_named}
use Rattle.file_handles.specs.Nodes.{file_at}
use Rattle.fuse_msgs.specs.declared.reply.Reply.{Reply}
use Rattle.fuse_msgs.specs.declared.request.LockWish.{LockWish}
use Rattle.fuse_msgs.specs.declared.request.LockWish.TheVariants as wish
use Rattle.fuse_msgs.specs.declared.request.Op.{Op}
use Rattle.fuse_msgs.specs.declared.request.Op.TheVariants as op
use Rattle.lf_base.specs.FileBytes.{written}
use Rattle.lf_sqlite_pages.specs.Image.{DatabaseImage}
use Rattle.file_view.specs.declared.journal.JournalCall.TheVariants as call
use Rattle.file_view.specs.declared.requests.Plan.{Plan}
use Rattle.file_view.specs.declared.requests.Plan.TheVariants as plan
use Rattle.file_view.specs.declared.view.Scene.{Scene}
use Rattle.file_view.specs.Acting.{is_writer, with_locks}
use Rattle.file_view.specs.DatabaseState.{HeldWrite}
use Rattle.file_view.specs.Done.{IsReplied, IsWritten, IsSized, IsUnlinked, IsDoneAt}
use Rattle.file_view.specs.Endings.{dropped, ended, committed}
use Rattle.file_view.specs.LockRules.{locks_at, after_wish}
use Rattle.file_view.specs.NameRules.{with_file, unlinking_rows}
use Rattle.file_view.specs.Overlay.{StandsOver}
use Rattle.file_view.specs.Refusal.{first_refusal}
use Rattle.file_view.specs.Requests.{owner_of, write_rows, size_rows, rows_at}
use Rattle.file_view.specs.Served.{Served, waits}
use Rattle.file_view.specs.Sound.{IsSound}
use Rattle.file_view.specs.Steady.{GoesOn, CommitsNothing}
use Rattle.file_view.proofs.EndingLemmas.{nothing-dropped}
use Rattle.file_view.proofs.FreeLemmas.{write-free, resize-free, finish-free, log-write-free, log-cut-free, log-unlink-free}
use Rattle.file_view.proofs.RequestLemmas.{size-allowed, write-allowed, unlink-allowed, finish-allowed, removal-allowed}
use Rattle.file_view.proofs.StandLemmas.{stands-still}

-- it goes on over files of which nothing counts here
goes-still : (s : Served) → GoesOn s s
goes-still s = record { call = refl; write = refl; log = refl; file = refl; alone = λ none. none }

-- a change of the locks
pub goes-locked : (s : Served) (locks : LockList) → GoesOn s (with_locks s locks)
goes-locked s locks = by-writer s.writer refl where
  by-exclusive : (owner : Owner) (b : Bool) → s.writer ≡ Some owner → is_writer locks lock.Shared owner ≡ b → GoesOn s (with_locks s locks)
  by-exclusive owner true some holds =
      record { call = refl; write = refl; log = refl; file = rw (some, holds) refl; alone = λ none. absurd (let e : Some owner ≡ None = sym some ∙ none in cc) }
  by-exclusive owner false some fails =
      record { call = refl; write = refl; log = refl; file = rw (some, fails) refl; alone = λ none. absurd (let e : Some owner ≡ None = sym some ∙ none in cc) }

  by-writer : (w : Option Owner) → s.writer ≡ w → GoesOn s (with_locks s locks)
  by-writer None none = record { call = refl; write = refl; log = refl; file = rw none refl; alone = λ e. rw e refl }
  by-writer (Some owner) some = by-exclusive owner (is_writer locks lock.Shared owner) some refl

-- what happens beside requests
pub goes-dropped : (s : Served) → GoesOn s (dropped s)
goes-dropped s = by-writer s.writer refl where
  by-writer : (w : Option Owner) → s.writer ≡ w → GoesOn s (dropped s)
  by-writer None none = subst (λ (f : Served). GoesOn s f) (sym (nothing-dropped s none)) (goes-still s)
  by-writer (Some owner) some = rw some (record { call = refl; write = refl; log = refl; file = refl; alone = λ e. refl })

pub goes-ended : (s : Served) (session : ℕ) → GoesOn s (ended s session)
goes-ended s session =
    let closed : Served = record s { handles = without_session s.handles session } in
    let goes = goes-locked closed (without (of_session session) s.locks) in
    record { call = goes.call; write = goes.write; log = goes.log; file = goes.file; alone = goes.alone }

-- a file is there, with a new handle
goes-created : (s : Served) (f : FileKind) (handles : OpenHandles) → GoesOn s (record (with_file s f) { handles = handles })
goes-created s file.Database handles = record { call = refl; write = refl; log = refl; file = refl; alone = λ none. none }
goes-created s file.Journal handles = record { call = refl; write = refl; log = refl; file = refl; alone = λ none. none }
goes-created s file.Wal handles = record { call = refl; write = refl; log = refl; file = refl; alone = λ none. none }
goes-created s file.Shm handles = record { call = refl; write = refl; log = refl; file = refl; alone = λ none. none }
goes-created s file.PosFile handles = record { call = refl; write = refl; log = refl; file = refl; alone = λ none. none }
goes-created s file.LockFile handles = record { call = refl; write = refl; log = refl; file = refl; alone = λ none. none }
goes-created s file.Primary handles = record { call = refl; write = refl; log = refl; file = refl; alone = λ none. none }

-- what it leaves once it is done stands where it stood
pub goes-committed : (old new : Served) (told : Option DatabaseImage) (page_size commit : ℕ) → IsSound old → GoesOn old new → StandsOver told page_size commit (committed old) →
    StandsOver told page_size commit (committed new)
goes-committed old new told page_size commit sound goes stands = by-write old.held_write refl where
  no-writer : (w : HeldWrite) (o : Option Owner) → old.writer ≡ o → old.held_write ≡ Some w → old.writer ≡ None
  no-writer w None writer held = writer
  no-writer w (Some owner) writer held = absurd (let e : Some w ≡ None = sym held ∙ sound.unwritten owner writer in cc)

  by-write : (o : Option HeldWrite) → old.held_write ≡ o → StandsOver told page_size commit (committed new)
  by-write None held =
      let again : new.held_write ≡ None = goes.write ∙ held in
      stands-still told page_size commit (committed old) (committed new) (rw (held, again) goes.file) (rw (held, again) refl) (rw (held, again) goes.log) stands
  by-write (Some w) held =
      let again : new.held_write ≡ Some w = goes.write ∙ held in
      let alone : old.writer ≡ None = no-writer w old.writer refl held in
      stands-still told page_size commit (committed old) (committed new) (rw (held, again) refl) (rw (held, again) (goes.alone alone ∙ sym alone))
      (rw (held, again) (ap (λ (t : List ℕ). written w.at w.bytes t) goes.log)) stands

-- a request that is done commits nothing
replied-nothing : (p : Plan) (r : Reply) → p ≡ plan.Reply r → CommitsNothing p
replied-nothing p r is = subst CommitsNothing (sym is) tt

module _ (told : Option DatabaseImage) (old : Served) (scene : Scene) (waiting : waits old ≡ true) where
  -- none that has to be alone is
  not-free : {A : Type 0} → waits old ≡ false → A
  not-free free = absurd (let e : true ≡ false = sym waiting ∙ free in cc)

  replied-goes : (p : Plan) (r : Reply) (files new : Served) → GoesOn old files → IsReplied p r files new → GoesOn old new × CommitsNothing p
  replied-goes p r files new goes done = (subst (λ (s : Served). GoesOn old s) (sym done.files_are) goes, replied-nothing p r done.reply)

  written-goes : (f : Option FileKind) (given : Option ℕ) (place : ℕ) (bytes : List ℕ) (p : Plan) (new : Served) → first_refusal (write_rows old scene f given place bytes) ≡ None →
      IsWritten told old scene f place bytes p new → GoesOn old new × CommitsNothing p
  written-goes None given place bytes p new none done = absurd done
  written-goes (Some file.Database) given place bytes p new none done = not-free (write-free old scene given place bytes none)
  written-goes (Some file.Journal) given place bytes p new none done =
      not-free (finish-free old scene given (call.Write place bytes) (finish-allowed old scene given (call.Write place bytes) none))
  written-goes (Some file.Wal) given place bytes p new none done = not-free (log-write-free old scene given place bytes none)
  written-goes (Some file.Shm) given place bytes p new none done =
      replied-goes p _ _ new (record { call = refl; write = refl; log = refl; file = refl; alone = λ e. e }) done
  written-goes (Some file.PosFile) given place bytes p new none done = absurd done
  written-goes (Some file.LockFile) given place bytes p new none done = absurd done
  written-goes (Some file.Primary) given place bytes p new none done = absurd done

  sized-goes : (node : ℕ) (f : Option FileKind) (given : Option ℕ) (len : ℕ) (p : Plan) (new : Served) → first_refusal (size_rows old scene f given len) ≡ None →
      IsSized told old scene node f len p new → GoesOn old new × CommitsNothing p
  sized-goes node None given len p new none done = absurd done
  sized-goes node (Some file.Database) given len p new none done = not-free (resize-free old scene given len none)
  sized-goes node (Some file.Journal) given len p new none done = not-free (finish-free old scene given (call.Cut len) (finish-allowed old scene given (call.Cut len) none))
  sized-goes node (Some file.Wal) given len p new none done = not-free (log-cut-free old scene len none)
  sized-goes node (Some file.Shm) given len p new none done =
      replied-goes p _ _ new (record { call = refl; write = refl; log = refl; file = refl; alone = λ e. e }) done
  sized-goes node (Some file.PosFile) given len p new none done = absurd done
  sized-goes node (Some file.LockFile) given len p new none done = absurd done
  sized-goes node (Some file.Primary) given len p new none done = absurd done

  unlinked-goes : (f : Option FileKind) (p : Plan) (new : Served) → first_refusal (unlinking_rows old scene f) ≡ None → IsUnlinked told old scene f p new → GoesOn old new × CommitsNothing p
  unlinked-goes None p new none done = absurd done
  unlinked-goes (Some file.Database) p new none done = absurd done
  unlinked-goes (Some file.Journal) p new none done = not-free (finish-free old scene None call.Unlink (removal-allowed old scene none))
  unlinked-goes (Some file.Wal) p new none done = not-free (log-unlink-free old scene none)
  unlinked-goes (Some file.Shm) p new none done = replied-goes p _ _ new (record { call = refl; write = refl; log = refl; file = refl; alone = λ e. e }) done
  unlinked-goes (Some file.PosFile) p new none done = absurd done
  unlinked-goes (Some file.LockFile) p new none done = absurd done
  unlinked-goes (Some file.Primary) p new none done = absurd done

  wished-goes : (owner : Owner) (locks : Marks) (w : LockWish) → GoesOn old (after_wish old owner locks w)
  wished-goes owner locks wish.Read = goes-locked old (granted old.locks owner locks kind.Read)
  wished-goes owner locks wish.Write = goes-locked old (granted old.locks owner locks kind.Write)
  wished-goes owner locks wish.Unlock = goes-locked old (without (in_set owner locks) old.locks)

  on-file : (o : Option FileKind) (Does : FileKind → Type 0) (p : Plan) (new : Served) → ((f : FileKind) → Does f → GoesOn old new × CommitsNothing p) → IsSomeAnd o Does →
      GoesOn old new × CommitsNothing p
  on-file None Does p new each done = absurd done
  on-file (Some f) Does p new each done = each f done

  pub goes-at : (node : ℕ) (o : Op) (p : Plan) (new : Served) → first_refusal (rows_at old scene node o) ≡ None → IsDoneAt told old scene node o p new → GoesOn old new × CommitsNothing p
  goes-at node (op.Lookup name) p new none done = on-file (file_named old.name name) _ p new (λ f d. replied-goes p _ old new (goes-still old) d) done
  goes-at node op.Forget p new none done = (subst (λ (s : Served). GoesOn old s) (sym done.1) (goes-still old), subst CommitsNothing (sym done.0) tt)
  goes-at node op.Getattr p new none done = replied-goes p _ old new (goes-still old) done
  goes-at node (op.Setattr None given) p new none done = replied-goes p _ old new (goes-still old) done
  goes-at node (op.Setattr (Some len) given) p new none done = sized-goes node (file_at node) given len p new (size-allowed old scene node given len none) done
  goes-at node (op.Unlink name) p new none done = unlinked-goes (file_named old.name name) p new (unlink-allowed old scene node name none) done
  goes-at node op.Open p new none done =
      on-file (file_at node) _ p new
      (λ f d. (subst (λ (s : Served). GoesOn old s) (sym d.1.opened.state) (record { call = refl; write = refl; log = refl; file = refl; alone = λ e. e }), replied-nothing p _ d.1.reply)) done
  goes-at node (op.Read fh place size given) p new none done = on-file (file_at node) _ p new (λ f d. replied-goes p _ old new (goes-still old) d.1.reply) done
  goes-at node (op.Write fh place given bytes) p new none done = written-goes (file_at node) given place bytes p new (write-allowed old scene node fh place given bytes none) done
  goes-at node (op.Release fh owner) p new none done = replied-goes p _ _ new (record { call = refl; write = refl; log = refl; file = refl; alone = λ e. e }) done
  goes-at node (op.Fsync fh) p new none done = replied-goes p _ old new (goes-still old) done
  goes-at node (op.Flush fh owner) p new none done =
      on-file (file_at node) _ p new (λ f d. replied-goes p _ _ new (goes-locked old (without (on_file (owner_of scene owner) f) old.locks)) d) done
  goes-at node (op.Init major minor) p new none done = replied-goes p _ old new (goes-still old) done
  goes-at node (op.Getlk fh owner start end w) p new none done = replied-goes p _ old new (goes-still old) done
  goes-at node (op.Setlk fh owner start end w) p new none done = replied-goes p _ _ new (wished-goes (owner_of scene owner) (locks_at node start end) w) done
  goes-at node (op.Setlkw fh owner start end w) p new none done = replied-goes p _ _ new (wished-goes (owner_of scene owner) (locks_at node start end) w) done
  goes-at node (op.Create name) p new none done =
      on-file (file_named old.name name) _ p new
      (λ f d. (subst (λ (s : Served). GoesOn old s) (sym d.1.created.state) (goes-created old f _), replied-nothing p _ d.1.reply)) done
  goes-at node op.Destroy p new none done = replied-goes p _ old new (goes-still old) done
