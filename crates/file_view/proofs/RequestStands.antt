-- How the files go on to stand over the committed image at every request.
use Rattle.std.proofs.Common.{◌≡◌, ℕ, ◌<◌, Bool, true, false, ◌||◌, List, Option, Some, None, IfSome, Result, Ok, Err, IfOk, OnOk, OnErr, refl, sym, ap, ◌∙◌, inl, inr, subst}
use Rattle.std.specs.Prelude.{is_some, IsSomeAnd}
use Rattle.std.proofs.lemmas.Bool.{cases_Bool, and_parts, cond-true, cond-false}
use Rattle.byte_locks.specs.declared.lock_bytes.FileKind.{FileKind}
use Rattle.byte_locks.specs.declared.lock_bytes.FileKind.TheVariants as file
use Rattle.byte_locks.specs.declared.lock_kind.LockKind.TheVariants as kind
use Rattle.byte_locks.specs.declared.owner.Owner.{Owner}
use Rattle.byte_locks.specs.LockEntry.{in_set, on_file}
use Rattle.byte_locks.specs.LockList.{without, granted}
use Rattle.byte_locks.specs.LockSet.{Marks}
use Rattle.database_file.specs.DatabaseFile.{KeepsDifferences}
use Rattle.database_under_log.specs.Over.{Agrees}
use Rattle.file_handles.specs.Handles.{OpenHandles}
use Rattle.file_handles.specs.Names.{file_named}
use Rattle.file_handles.specs.Nodes.{file_at}
use Rattle.fuse_msgs.specs.declared.reply.Reply.{Reply}
use Rattle.fuse_msgs.specs.declared.request.LockWish.{LockWish}
use Rattle.fuse_msgs.specs.declared.request.LockWish.TheVariants as wish
use Rattle.fuse_msgs.specs.declared.request.Op.{Op}
use Rattle.fuse_msgs.specs.declared.request.Op.TheVariants as op
use Rattle.fuse_msgs.specs.declared.request.Request.{Request}
use Rattle.lf_sqlite_pages.specs.Change.{PageChange}
use Rattle.lf_sqlite_pages.specs.Image.{DatabaseImage}
use Rattle.lf_sqlite_pages.specs.PageSize.{IsPageSize}
use Rattle.file_view.specs.declared.fault.ViewFault.{ViewFault}
use Rattle.file_view.specs.declared.journal.JournalCall.{JournalCall}
use Rattle.file_view.specs.declared.journal.JournalCall.TheVariants as call
use Rattle.file_view.specs.declared.requests.Plan.{Plan}
use Rattle.file_view.specs.declared.requests.Plan.TheVariants as plan
use Rattle.file_view.specs.declared.view.Scene.{Scene}
use Rattle.file_view.specs.Done.{MayCommit, IsWritten, IsSized, IsUnlinked, IsDoneAt, IsDone}
use Rattle.file_view.specs.JournalRules.{ends_writing, finishes, JournalDone}
use Rattle.file_view.specs.LockRules.{locks_at, after_wish}
use Rattle.file_view.specs.LogRules.{log_after, log_written, log_write_rows, LogKeeps, LogDone}
use Rattle.file_view.specs.NameRules.{with_file, unlinking_rows}
use Rattle.file_view.specs.Overlay.{IsOverImage, StandsOver}
use Rattle.file_view.specs.Refusal.{first_refusal, IsAllowed}
use Rattle.file_view.specs.Requests.{owner_of, write_rows, size_rows, rows_at, rows_of}
use Rattle.file_view.specs.Served.{Served, log_contents}
use Rattle.file_view.specs.Sound.{IsSound}
use Rattle.file_view.proofs.LogStands.{cut-stands, removed-stands}
use Rattle.file_view.proofs.RequestLemmas.{size-allowed, write-allowed, unlink-allowed}
use Rattle.file_view.proofs.RowLemmas.{none-holds}
use Rattle.file_view.proofs.StandLemmas.{stands-still, stands-dropped, stands-locked}
use Rattle.file_view.proofs.WriteStands.{write-stands, resize-stands}

-- a file is there, with a new handle
created-stands : (told : Option DatabaseImage) (page_size commit : ℕ) (s : Served) (f : FileKind) (handles : OpenHandles) → StandsOver told page_size commit s →
    StandsOver told page_size commit (record (with_file s f) { handles = handles })
created-stands told page_size commit s file.Database handles = stands-still told page_size commit s (record (with_file s file.Database) { handles = handles }) refl refl refl
created-stands told page_size commit s file.Journal handles = stands-still told page_size commit s (record (with_file s file.Journal) { handles = handles }) refl refl refl
created-stands told page_size commit s file.Wal handles = stands-still told page_size commit s (record (with_file s file.Wal) { handles = handles }) refl refl refl
created-stands told page_size commit s file.Shm handles = stands-still told page_size commit s (record (with_file s file.Shm) { handles = handles }) refl refl refl
created-stands told page_size commit s file.PosFile handles = stands-still told page_size commit s (record (with_file s file.PosFile) { handles = handles }) refl refl refl
created-stands told page_size commit s file.LockFile handles = stands-still told page_size commit s (record (with_file s file.LockFile) { handles = handles }) refl refl refl
created-stands told page_size commit s file.Primary handles = stands-still told page_size commit s (record (with_file s file.Primary) { handles = handles }) refl refl refl

-- an owner, where there is one
pub some-owner : (w : Option Owner) → is_some w ≡ true → (owner : Owner) × (w ≡ Some owner)
some-owner None h = absurd cc
some-owner (Some owner) h = (owner, refl)

no-owner : (w : Option Owner) → is_some w ≡ false → w ≡ None
no-owner None h = refl
no-owner (Some owner) h = absurd cc

-- a call on the journal
pub journal-stands : (told : Option DatabaseImage) (page_size commit : ℕ) (old : Served) (scene : Scene) (c : JournalCall) (change : Option PageChange) (new : Served) →
    (0 < commit → IsPageSize page_size) → JournalDone told old scene c change new → StandsOver told page_size commit old → StandsOver told page_size commit new
journal-stands told page_size commit old scene c None new sized done stands = elim (cases_Bool (ends_writing old c)) [
  | inl ends ↦
      let is = done.1 ∙ cond-true _ _ _ ends in
      let owner = some-owner old.writer (and_parts (finishes old c) (is_some old.writer) ends).1 in
      stands-dropped told page_size commit old new owner.0 sized owner.1 (ap (λ (s : Served). s.database) is) (ap (λ (s : Served). log_contents s) is) stands
  | inr goes ↦
      let is = done.1 ∙ cond-false _ _ _ goes in
      stands-still told page_size commit old new (ap (λ (s : Served). s.database) is) (ap (λ (s : Served). s.writer) is) (ap (λ (s : Served). log_contents s) is) stands
]
journal-stands told page_size commit old scene c (Some change) new sized done stands =
    let is = done.1 in
    stands-still told page_size commit old new (ap (λ (s : Served). s.database) is) (ap (λ (s : Served). s.writer) is) (ap (λ (s : Served). log_contents s) is) stands

-- a write to the log comes where there is no writer
pub log-alone : (s : Served) (scene : Scene) (given : Option ℕ) (place : ℕ) (bytes : List ℕ) → first_refusal (log_write_rows s scene given place bytes) ≡ None → s.writer ≡ None
log-alone s scene given place bytes none =
    let rows = none-holds (log_write_rows s scene given place bytes) none in no-owner s.writer (second _ (is_some s.writer) rows.1.1.0) where
      second : (a b : Bool) → (a || b) ≡ false → b ≡ false
      second true b h = absurd cc
      second false b h = h

stored-stands : (told : Option DatabaseImage) (old : Served) (scene : Scene) (place : ℕ) (bytes : List ℕ) (new : Served) → old.writer ≡ None →
    LogKeeps told old.database (log_contents old) (log_after old place bytes) scene.page_size scene.commit → new ≡ log_written old place bytes → StandsOver told scene.page_size scene.commit old → StandsOver told scene.page_size scene.commit new
stored-stands told old scene place bytes new alone keeps is stands =
    subst (λ (s : Served). StandsOver told scene.page_size scene.commit s) (sym is)
    (record { shape = record { fits = stands.shape.fits; follows = keeps.follows }; image = over-told told keeps.agrees stands.image }) where
      over-told : (told : Option DatabaseImage) → IfSome told (λ i. KeepsDifferences old.database i → Agrees old.database i (log_contents old) → Agrees old.database i (log_after old place bytes)) →
          IfSome told (IsOverImage old) → IfSome told (IsOverImage (log_written old place bytes))
      over-told None agrees h = tt
      over-told (Some i) agrees h = record { differs = h.differs; agrees = rw alone (agrees h.differs (rw alone at h.agrees)) }

pub log-stands : (told : Option DatabaseImage) (old : Served) (scene : Scene) (given : Option ℕ) (place : ℕ) (bytes : List ℕ) (change : Option PageChange) (new : Served) →
    first_refusal (log_write_rows old scene given place bytes) ≡ None → LogDone told old scene place bytes change new →
    StandsOver told scene.page_size scene.commit old → StandsOver told scene.page_size scene.commit new
log-stands told old scene given place bytes None new none done stands = stored-stands told old scene place bytes new (log-alone old scene given place bytes none) done.1.0 done.1.1 stands
log-stands told old scene given place bytes (Some change) new none done stands =
    let is = done.1.state in
    stands-still told scene.page_size scene.commit old new (ap (λ (s : Served). s.database) is) (ap (λ (s : Served). s.writer) is) (ap (λ (s : Served). log_contents s) is) stands

-- a request that may commit does what is said of its change
pub does-of : (p : Plan) (r : Reply) (Does : Option PageChange → Type 0) → MayCommit p r Does → (change : Option PageChange) × Does change
does-of (plan.Reply given) r Does may = (None, may.1)
does-of plan.Silent r Does may = absurd may
does-of (plan.Commit given change) r Does may = (Some change, may.1)

-- the files are others of which nothing counts here
replied-stands : (told : Option DatabaseImage) (page_size commit : ℕ) (old files new : Served) → new ≡ files → files.database ≡ old.database → files.writer ≡ old.writer →
    log_contents files ≡ log_contents old → StandsOver told page_size commit old → StandsOver told page_size commit new
replied-stands told page_size commit old files new is database writer contents stands =
    subst (λ (s : Served). StandsOver told page_size commit s) (sym is) (stands-still told page_size commit old files database writer contents stands)

module _ (told : Option DatabaseImage) (old : Served) (scene : Scene) (sized : 0 < scene.commit → IsPageSize scene.page_size) (sound : IsSound old)
    (stands : StandsOver told scene.page_size scene.commit old) where
  -- WRITE
  written-stands : (f : Option FileKind) (given : Option ℕ) (place : ℕ) (bytes : List ℕ) (p : Plan) (new : Served) → first_refusal (write_rows old scene f given place bytes) ≡ None →
      IsWritten told old scene f place bytes p new → StandsOver told scene.page_size scene.commit new
  written-stands None given place bytes p new none done = absurd done
  written-stands (Some file.Database) given place bytes p new none done = write-stands told old scene given place bytes new sound none done.1 stands
  written-stands (Some file.Journal) given place bytes p new none done =
      let does = does-of p _ _ done in journal-stands told scene.page_size scene.commit old scene (call.Write place bytes) does.0 new sized does.1 stands
  written-stands (Some file.Wal) given place bytes p new none done =
      let does = does-of p _ _ done in log-stands told old scene given place bytes does.0 new none does.1 stands
  written-stands (Some file.Shm) given place bytes p new none done = replied-stands told scene.page_size scene.commit old _ new done.files_are refl refl refl stands
  written-stands (Some file.PosFile) given place bytes p new none done = absurd done
  written-stands (Some file.LockFile) given place bytes p new none done = absurd done
  written-stands (Some file.Primary) given place bytes p new none done = absurd done

  -- SETATTR of a size
  sized-stands : (node : ℕ) (f : Option FileKind) (given : Option ℕ) (len : ℕ) (p : Plan) (new : Served) → first_refusal (size_rows old scene f given len) ≡ None →
      IsSized told old scene node f len p new → StandsOver told scene.page_size scene.commit new
  sized-stands node None given len p new none done = absurd done
  sized-stands node (Some file.Database) given len p new none done = resize-stands told old scene given len new sound none done.1 stands
  sized-stands node (Some file.Journal) given len p new none done =
      let does = does-of p _ _ done in journal-stands told scene.page_size scene.commit old scene (call.Cut len) does.0 new sized does.1 stands
  sized-stands node (Some file.Wal) given len p new none done = cut-stands told scene.page_size scene.commit old scene len new none done.files_are stands
  sized-stands node (Some file.Shm) given len p new none done = replied-stands told scene.page_size scene.commit old _ new done.files_are refl refl refl stands
  sized-stands node (Some file.PosFile) given len p new none done = absurd done
  sized-stands node (Some file.LockFile) given len p new none done = absurd done
  sized-stands node (Some file.Primary) given len p new none done = absurd done

  -- UNLINK
  unlinked-stands : (f : Option FileKind) (p : Plan) (new : Served) → first_refusal (unlinking_rows old scene f) ≡ None → IsUnlinked told old scene f p new →
      StandsOver told scene.page_size scene.commit new
  unlinked-stands None p new none done = absurd done
  unlinked-stands (Some file.Database) p new none done = absurd done
  unlinked-stands (Some file.Journal) p new none done =
      let does = does-of p _ _ done in journal-stands told scene.page_size scene.commit old scene call.Unlink does.0 new sized does.1 stands
  unlinked-stands (Some file.Wal) p new none done = removed-stands told scene.page_size scene.commit old scene new none done.files_are stands
  unlinked-stands (Some file.Shm) p new none done = replied-stands told scene.page_size scene.commit old _ new done.files_are refl refl refl stands
  unlinked-stands (Some file.PosFile) p new none done = absurd done
  unlinked-stands (Some file.LockFile) p new none done = absurd done
  unlinked-stands (Some file.Primary) p new none done = absurd done

  -- SETLK and SETLKW
  wished-stands : (owner : Owner) (locks : Marks) (w : LockWish) (new : Served) → new ≡ after_wish old owner locks w → StandsOver told scene.page_size scene.commit new
  wished-stands owner locks wish.Read new is =
      subst (λ (s : Served). StandsOver told scene.page_size scene.commit s) (sym is) (stands-locked told scene.page_size scene.commit old (granted old.locks owner locks kind.Read) sized stands)
  wished-stands owner locks wish.Write new is =
      subst (λ (s : Served). StandsOver told scene.page_size scene.commit s) (sym is) (stands-locked told scene.page_size scene.commit old (granted old.locks owner locks kind.Write) sized stands)
  wished-stands owner locks wish.Unlock new is =
      subst (λ (s : Served). StandsOver told scene.page_size scene.commit s) (sym is) (stands-locked told scene.page_size scene.commit old (without (in_set owner locks) old.locks) sized stands)

  -- what is done on a file
  on-file : (o : Option FileKind) (Does : FileKind → Type 0) (new : Served) → ((f : FileKind) → Does f → StandsOver told scene.page_size scene.commit new) → IsSomeAnd o Does →
      StandsOver told scene.page_size scene.commit new
  on-file None Does new each done = absurd done
  on-file (Some f) Does new each done = each f done

  -- every request
  pub stands-at : (node : ℕ) (o : Op) (p : Plan) (new : Served) → first_refusal (rows_at old scene node o) ≡ None → IsDoneAt told old scene node o p new →
      StandsOver told scene.page_size scene.commit new
  stands-at node (op.Lookup name) p new none done = on-file (file_named old.name name) _ new (λ f d. replied-stands told scene.page_size scene.commit old old new d.files_are refl refl refl stands) done
  stands-at node op.Forget p new none done = replied-stands told scene.page_size scene.commit old old new done.1 refl refl refl stands
  stands-at node op.Getattr p new none done = replied-stands told scene.page_size scene.commit old old new done.files_are refl refl refl stands
  stands-at node (op.Setattr None given) p new none done = replied-stands told scene.page_size scene.commit old old new done.files_are refl refl refl stands
  stands-at node (op.Setattr (Some len) given) p new none done = sized-stands node (file_at node) given len p new (size-allowed old scene node given len none) done
  stands-at node (op.Unlink name) p new none done = unlinked-stands (file_named old.name name) p new (unlink-allowed old scene node name none) done
  stands-at node op.Open p new none done =
      on-file (file_at node) _ new (λ f d. replied-stands told scene.page_size scene.commit old _ new d.1.opened.state refl refl refl stands) done
  stands-at node (op.Read fh place size given) p new none done =
      on-file (file_at node) _ new (λ f d. replied-stands told scene.page_size scene.commit old old new d.1.reply.files_are refl refl refl stands) done
  stands-at node (op.Write fh place given bytes) p new none done = written-stands (file_at node) given place bytes p new (write-allowed old scene node fh place given bytes none) done
  stands-at node (op.Release fh owner) p new none done = replied-stands told scene.page_size scene.commit old _ new done.files_are refl refl refl stands
  stands-at node (op.Fsync fh) p new none done = replied-stands told scene.page_size scene.commit old old new done.files_are refl refl refl stands
  stands-at node (op.Flush fh owner) p new none done =
      on-file (file_at node) _ new
      (λ f d. subst (λ (s : Served). StandsOver told scene.page_size scene.commit s) (sym d.files_are)
      (stands-locked told scene.page_size scene.commit old (without (on_file (owner_of scene owner) f) old.locks) sized stands)) done
  stands-at node (op.Init major minor) p new none done = replied-stands told scene.page_size scene.commit old old new done.files_are refl refl refl stands
  stands-at node (op.Getlk fh owner start end w) p new none done = replied-stands told scene.page_size scene.commit old old new done.files_are refl refl refl stands
  stands-at node (op.Setlk fh owner start end w) p new none done = wished-stands (owner_of scene owner) (locks_at node start end) w new done.files_are
  stands-at node (op.Setlkw fh owner start end w) p new none done = wished-stands (owner_of scene owner) (locks_at node start end) w new done.files_are
  stands-at node (op.Create name) p new none done =
      on-file (file_named old.name name) _ new
      (λ f d. subst (λ (s : Served). StandsOver told scene.page_size scene.commit s) (sym d.1.created.state) (created-stands told scene.page_size scene.commit old f _ stands)) done
  stands-at node op.Destroy p new none done = replied-stands told scene.page_size scene.commit old old new done.files_are refl refl refl stands

-- whatever is answered
pub stands-after : (told : Option DatabaseImage) (old new : Served) (scene : Scene) (request : Request) (r : Result Plan ViewFault) → (0 < scene.commit → IsPageSize scene.page_size) →
    IsSound old → IfOk r (λ p. IsDone told old scene request p new) → OnOk r (IsAllowed (rows_of old scene request)) → OnErr r (new ≡ old) →
    StandsOver told scene.page_size scene.commit old → StandsOver told scene.page_size scene.commit new
stands-after told old new scene request (Ok p) sized sound done allowed err stands = stands-at told old scene sized sound stands request.node request.op p new allowed done
stands-after told old new scene request (Err f) sized sound done allowed err stands = subst (λ (s : Served). StandsOver told scene.page_size scene.commit s) (sym err) stands
