-- The database keeps its name, whatever is asked.
use Rattle.std.proofs.Common.{◌≡◌, ◌/◌, ℕ, Bool, true, false, List, [], Option, Some, None, Result, Ok, Err, IfOk, OnOk, OnErr, refl, ap, ◌∙◌, inl, inr}
use Rattle.std.specs.Prelude.{IsSomeAnd}
use Rattle.std.proofs.lemmas.Bool.{cases_Bool, cond-true, cond-false}
use Rattle.byte_locks.specs.declared.lock_bytes.FileKind.{FileKind}
use Rattle.byte_locks.specs.declared.lock_bytes.FileKind.TheVariants as file
use Rattle.byte_locks.specs.declared.owner.Owner.{Owner}
use Rattle.byte_locks.specs.LockSet.{Marks}
use Rattle.file_handles.specs.Handles.{OpenHandles, opened}
use Rattle.file_handles.specs.Names.{file_named}
use Rattle.file_handles.specs.Nodes.{file_at}
use Rattle.fuse_msgs.specs.declared.request.LockWish.{LockWish}
use Rattle.fuse_msgs.specs.declared.request.LockWish.TheVariants as wish
use Rattle.fuse_msgs.specs.declared.request.Op.{Op}
use Rattle.fuse_msgs.specs.declared.request.Op.TheVariants as op
use Rattle.fuse_msgs.specs.declared.request.Request.{Request}
use Rattle.lf_sqlite_pages.specs.Change.{PageChange}
use Rattle.lf_sqlite_pages.specs.Image.{DatabaseImage}
use Rattle.file_view.specs.declared.fault.ViewFault.{ViewFault}
use Rattle.file_view.specs.declared.journal.JournalCall.{JournalCall}
use Rattle.file_view.specs.declared.journal.JournalCall.TheVariants as call
use Rattle.file_view.specs.declared.requests.Plan.{Plan}
use Rattle.file_view.specs.declared.view.Scene.{Scene}
use Rattle.file_view.specs.DatabaseRules.{write_size, sized_write_rows, database_write_rows, resizes}
use Rattle.file_view.specs.Done.{WritesDatabase, SizesDatabase, IsWritten, IsSized, IsUnlinked, IsDoneAt, IsDone}
use Rattle.file_view.specs.Errno.{EIO, EROFS}
use Rattle.file_view.specs.JournalRules.{ends_writing, JournalDone}
use Rattle.file_view.specs.LockRules.{locks_at, after_wish}
use Rattle.file_view.specs.LogRules.{LogDone}
use Rattle.file_view.specs.NameRules.{with_file}
use Rattle.file_view.specs.Refusal.{first_refusal, IsAllowed}
use Rattle.file_view.specs.Requests.{owner_of, write_rows, rows_at, rows_of}
use Rattle.file_view.specs.Roles.{is_replica}
use Rattle.file_view.specs.Served.{Served}
use Rattle.file_view.proofs.DatabaseLemmas.{two-fail}
use Rattle.file_view.proofs.RequestLemmas.{write-allowed}
use Rattle.file_view.proofs.RequestStands.{does-of}

-- of files that are these, with this name
same-name : (old files new : Served) → new ≡ files → files.name ≡ old.name → new.name ≡ old.name
same-name old files new is same = ap (λ (s : Served). s.name) is ∙ same

created-name : (s : Served) (f : FileKind) (handles : OpenHandles) → (record (with_file s f) { handles = handles }).name ≡ s.name
created-name s file.Database handles = refl
created-name s file.Journal handles = refl
created-name s file.Wal handles = refl
created-name s file.Shm handles = refl
created-name s file.PosFile handles = refl
created-name s file.LockFile handles = refl
created-name s file.Primary handles = refl

module _ (told : Option DatabaseImage) (old : Served) (scene : Scene) (new : Served) where
  journal-name : (c : JournalCall) (change : Option PageChange) → JournalDone told old scene c change new → new.name ≡ old.name
  journal-name c None done = elim (cases_Bool (ends_writing old c)) [
    | inl ends ↦ ap (λ (s : Served). s.name) (done.1 ∙ cond-true _ _ _ ends)
    | inr goes ↦ ap (λ (s : Served). s.name) (done.1 ∙ cond-false _ _ _ goes)
  ]
  journal-name c (Some change) done = ap (λ (s : Served). s.name) done.1

  log-name : (place : ℕ) (bytes : List ℕ) (change : Option PageChange) → LogDone told old scene place bytes change new → new.name ≡ old.name
  log-name place bytes None done = ap (λ (s : Served). s.name) done.1.1
  log-name place bytes (Some change) done = ap (λ (s : Served). s.name) done.1.state

  -- WRITE to the database file, which has a page size then
  pages-name : (given : Option ℕ) (place : ℕ) (bytes : List ℕ) → first_refusal (database_write_rows old scene given place bytes) ≡ None → WritesDatabase told old scene place bytes new → new.name ≡ old.name
  pages-name given place bytes none does =
      by-size (write_size old scene place bytes) refl (two-fail scene.is_broken (is_replica scene.role) EIO EROFS (first_refusal (sized_write_rows old scene given place bytes (write_size old scene place bytes))) none).2 where
        by-size : (size : Option ℕ) → write_size old scene place bytes ≡ size → first_refusal (sized_write_rows old scene given place bytes size) ≡ None → new.name ≡ old.name
        by-size None is rows = absurd cc
        by-size (Some size) is rows = ap (λ (s : Served). s.name) (does size is).all.rest

  -- SETATTR of its size
  resized-name : (len : ℕ) → SizesDatabase told old scene len new → new.name ≡ old.name
  resized-name len does = by-size (write_size old scene 0 []) refl where
    by-change : (size : ℕ) → write_size old scene 0 [] ≡ Some size → (changes : Bool) → resizes old scene (len / size) ≡ changes → new.name ≡ old.name
    by-change size is true changes = ap (λ (s : Served). s.name) ((does.sized size is).resized changes).all.rest
    by-change size is false stays = ap (λ (s : Served). s.name) ((does.sized size is).same stays)

    by-size : (size : Option ℕ) → write_size old scene 0 [] ≡ size → new.name ≡ old.name
    by-size None is = ap (λ (s : Served). s.name) (does.none is)
    by-size (Some size) is = by-change size is (resizes old scene (len / size)) refl

  written-name : (f : Option FileKind) (given : Option ℕ) (place : ℕ) (bytes : List ℕ) (p : Plan) → first_refusal (write_rows old scene f given place bytes) ≡ None → IsWritten told old scene f place bytes p new → new.name ≡ old.name
  written-name None given place bytes p none done = absurd done
  written-name (Some file.Database) given place bytes p none done = pages-name given place bytes none done.1
  written-name (Some file.Journal) given place bytes p none done = let does = does-of p _ _ done in journal-name (call.Write place bytes) does.0 does.1
  written-name (Some file.Wal) given place bytes p none done = let does = does-of p _ _ done in log-name place bytes does.0 does.1
  written-name (Some file.Shm) given place bytes p none done = same-name old _ new done.files_are refl
  written-name (Some file.PosFile) given place bytes p none done = absurd done
  written-name (Some file.LockFile) given place bytes p none done = absurd done
  written-name (Some file.Primary) given place bytes p none done = absurd done

  sized-name : (node : ℕ) (f : Option FileKind) (len : ℕ) (p : Plan) → IsSized told old scene node f len p new → new.name ≡ old.name
  sized-name node None len p done = absurd done
  sized-name node (Some file.Database) len p done = resized-name len done.1
  sized-name node (Some file.Journal) len p done = let does = does-of p _ _ done in journal-name (call.Cut len) does.0 does.1
  sized-name node (Some file.Wal) len p done = same-name old _ new done.files_are refl
  sized-name node (Some file.Shm) len p done = same-name old _ new done.files_are refl
  sized-name node (Some file.PosFile) len p done = absurd done
  sized-name node (Some file.LockFile) len p done = absurd done
  sized-name node (Some file.Primary) len p done = absurd done

  unlinked-name : (f : Option FileKind) (p : Plan) → IsUnlinked told old scene f p new → new.name ≡ old.name
  unlinked-name None p done = absurd done
  unlinked-name (Some file.Database) p done = absurd done
  unlinked-name (Some file.Journal) p done = let does = does-of p _ _ done in journal-name call.Unlink does.0 does.1
  unlinked-name (Some file.Wal) p done = same-name old _ new done.files_are refl
  unlinked-name (Some file.Shm) p done = same-name old _ new done.files_are refl
  unlinked-name (Some file.PosFile) p done = absurd done
  unlinked-name (Some file.LockFile) p done = absurd done
  unlinked-name (Some file.Primary) p done = absurd done

  wished-name : (owner : Owner) (locks : Marks) (w : LockWish) → new ≡ after_wish old owner locks w → new.name ≡ old.name
  wished-name owner locks wish.Read is = ap (λ (s : Served). s.name) is
  wished-name owner locks wish.Write is = ap (λ (s : Served). s.name) is
  wished-name owner locks wish.Unlock is = ap (λ (s : Served). s.name) is

  -- what is done on a file
  on-file : (o : Option FileKind) (Does : FileKind → Type 0) → ((f : FileKind) → Does f → new.name ≡ old.name) → IsSomeAnd o Does → new.name ≡ old.name
  on-file None Does each done = absurd done
  on-file (Some f) Does each done = each f done

  name-at : (node : ℕ) (o : Op) (p : Plan) → first_refusal (rows_at old scene node o) ≡ None → IsDoneAt told old scene node o p new → new.name ≡ old.name
  name-at node (op.Lookup name) p none done = on-file (file_named old.name name) _ (λ f d. same-name old old new d.files_are refl) done
  name-at node op.Forget p none done = same-name old old new done.1 refl
  name-at node op.Getattr p none done = same-name old old new done.files_are refl
  name-at node (op.Setattr None given) p none done = same-name old old new done.files_are refl
  name-at node (op.Setattr (Some len) given) p none done = sized-name node (file_at node) len p done
  name-at node (op.Unlink name) p none done = unlinked-name (file_named old.name name) p done
  name-at node op.Open p none done = on-file (file_at node) _ (λ f d. same-name old _ new d.1.opened.state refl) done
  name-at node (op.Read fh place size given) p none done = on-file (file_at node) _ (λ f d. same-name old old new d.1.reply.files_are refl) done
  name-at node (op.Write fh place given bytes) p none done = written-name (file_at node) given place bytes p (write-allowed old scene node fh place given bytes none) done
  name-at node (op.Release fh owner) p none done = same-name old _ new done.files_are refl
  name-at node (op.Fsync fh) p none done = same-name old old new done.files_are refl
  name-at node (op.Flush fh owner) p none done = on-file (file_at node) _ (λ f d. same-name old _ new d.files_are refl) done
  name-at node (op.Init major minor) p none done = same-name old old new done.files_are refl
  name-at node (op.Getlk fh owner start end w) p none done = same-name old old new done.files_are refl
  name-at node (op.Setlk fh owner start end w) p none done = wished-name (owner_of scene owner) (locks_at node start end) w done.files_are
  name-at node (op.Setlkw fh owner start end w) p none done = wished-name (owner_of scene owner) (locks_at node start end) w done.files_are
  name-at node (op.Create name) p none done = on-file (file_named old.name name) _ (λ f d. same-name old _ new d.1.created.state (created-name old f (opened old.handles scene.session d.0 f))) done
  name-at node op.Destroy p none done = same-name old old new done.files_are refl

-- whatever is answered
pub name-after : (told : Option DatabaseImage) (old new : Served) (scene : Scene) (request : Request) (r : Result Plan ViewFault) → IfOk r (λ p. IsDone told old scene request p new)
    → OnOk r (IsAllowed (rows_of old scene request)) → OnErr r (new ≡ old) → new.name ≡ old.name
name-after told old new scene request (Ok p) done allowed err = name-at told old scene new request.node request.op p allowed done
name-after told old new scene request (Err f) done allowed err = ap (λ (s : Served). s.name) err
