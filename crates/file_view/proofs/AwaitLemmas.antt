-- The files stand over the image that a change leads to, once it is committed and the request that waited is done.
use Rattle.std.proofs.Common.{◌≡◌, ℕ, ◌<◌, Bool, true, false, ◌&&◌, not, List, Option, Some, None, IfSome, Result, Ok, Err, IfOk, OnOk, refl, sym, ap, ◌∙◌, inl, inr, subst, arith}
use Rattle.std.specs.Prelude.{IsSomeAnd}
use Rattle.std.specs.Option.{option_map}
use Rattle.std.proofs.lemmas.Bool.{cases_Bool}
use Rattle.std.proofs.lemmas.Bool.Decides.{nat_tests}
use Rattle.byte_locks.specs.declared.lock_bytes.FileKind.{FileKind}
use Rattle.byte_locks.specs.declared.lock_bytes.FileKind.TheVariants as file
use Rattle.database_file.specs.Commit.{IsChangeOf}
use Rattle.database_file.specs.DatabaseFile.{DatabaseFile, FitsShape, KeepsDifferences, size_over, clean, is_clean}
use Rattle.database_under_log.specs.Over.{Agrees}
use Rattle.database_under_log.specs.Waiting.{LeadsUnderLog}
use Rattle.database_under_log.proofs.KeepLemmas.{clean-agrees}
use Rattle.file_handles.specs.Names.{file_named}
use Rattle.file_handles.specs.Nodes.{file_at}
use Rattle.fuse_msgs.specs.declared.reply.Reply.{Reply}
use Rattle.fuse_msgs.specs.declared.request.Op.{Op}
use Rattle.fuse_msgs.specs.declared.request.Op.TheVariants as op
use Rattle.fuse_msgs.specs.declared.request.Request.{Request}
use Rattle.lf_base.specs.FileBytes.{written}
use Rattle.lf_sqlite_pages.specs.Apply.{apply}
use Rattle.lf_sqlite_pages.specs.Change.{PageChange}
use Rattle.lf_sqlite_pages.specs.Image.{DatabaseImage}
use Rattle.lf_sqlite_pages.specs.PageSize.{IsPageSize}
use Rattle.wal_watch.specs.Frames.{committed_count}
use Rattle.file_view.specs.declared.fault.ViewFault.{ViewFault}
use Rattle.file_view.specs.declared.journal.JournalCall.{JournalCall}
use Rattle.file_view.specs.declared.journal.JournalCall.TheVariants as call
use Rattle.file_view.specs.declared.requests.Plan.{Plan}
use Rattle.file_view.specs.declared.requests.Plan.TheVariants as plan
use Rattle.file_view.specs.declared.view.Scene.{Scene}
use Rattle.file_view.specs.Done.{MayCommit, IsWritten, IsSized, IsUnlinked, IsDoneAt, IsDone}
use Rattle.file_view.specs.Endings.{committed}
use Rattle.file_view.specs.JournalRules.{ends_writing, finishing_rows, JournalCommits, JournalDone}
use Rattle.file_view.specs.JournalState.{holding}
use Rattle.file_view.specs.LogRules.{log_after, log_write_rows, LogWaits, LogDone}
use Rattle.file_view.specs.NameRules.{unlinking_rows}
use Rattle.file_view.specs.Overlay.{IsOverImage, StandsOver, AwaitsOver}
use Rattle.file_view.specs.Refusal.{first_refusal, IsAllowed}
use Rattle.file_view.specs.Requests.{write_rows, size_rows, rows_at, rows_of}
use Rattle.file_view.specs.Served.{Served, log_contents, has_committed_frames}
use Rattle.file_view.proofs.RequestLemmas.{size-allowed, write-allowed, unlink-allowed, finish-allowed, removal-allowed}
use Rattle.file_view.proofs.RequestStands.{log-alone}
use Rattle.file_view.proofs.RowLemmas.{none-holds, nothing-held}
use Rattle.file_view.proofs.StandLemmas.{clean-nothing, clean-clean}

-- files whose database file keeps nothing, under a log without frames, stand over every image
pub clean-stands : (told : Option DatabaseImage) (page_size commit : ℕ) (s : Served) (d : DatabaseFile) → (0 < commit → IsPageSize page_size) → s.database ≡ clean d → s.writer ≡ None →
    committed_count (log_contents s) ≡ 0 → StandsOver told page_size commit s
clean-stands told page_size commit s d sized database alone none = record {
  shape = record {
    fits = rw database ((clean-nothing d).fits page_size commit sized);
    follows = record { page_size_is = λ some. absurd (omega (arith, some, none)); commit_is = λ some. absurd (omega (arith, some, none)) };
  };
  image = over-told told;
} where
  over-told : (told : Option DatabaseImage) → IfSome told (IsOverImage s)
  over-told None = tt
  over-told (Some i) = record {
    differs = rw database ((clean-nothing d).differs i);
    agrees = rw alone (rw database (clean-agrees (clean d) i (log_contents s) none (clean-clean d)));
  }

-- a call on the journal that waits: the file isn't the image then, so the log has no frames
waiting-unframed : (told : Option DatabaseImage) (s : Served) (scene : Scene) (given : Option ℕ) (c : JournalCall) (change : PageChange) →
    first_refusal (finishing_rows s scene given c) ≡ None → JournalCommits told s scene c (Some change) → (ends_writing s c ≡ true) × (has_committed_frames s ≡ false)
waiting-unframed told s scene given c change none commits = elim (cases_Bool (ends_writing s c)) [
  | inl ends ↦ (
    ends,
    elim (cases_Bool (is_clean s.database)) [
      | inl tidy ↦ absurd (let e : Some change ≡ None = commits.of_the_image tidy in cc)
      | inr kept ↦
          let row : (ends_writing s c && has_committed_frames s && not (is_clean s.database)) ≡ false = (none-holds (finishing_rows s scene given c) none).1.1.1.0 in
          unframed (has_committed_frames s) (rw (ends, kept) at row)
    ],
  )
  | inr goes ↦ absurd (let e : Some change ≡ None = commits.nothing goes in cc)
] where
  unframed : (b : Bool) → (b && true) ≡ false → b ≡ false
  unframed true h = absurd cc
  unframed false h = refl

journal-awaits : (told other : Option DatabaseImage) (old : Served) (scene : Scene) (given : Option ℕ) (c : JournalCall) (change : PageChange) (new : Served) →
    FitsShape old.database scene.page_size scene.commit → first_refusal (finishing_rows old scene given c) ≡ None → JournalDone told old scene c (Some change) new →
    StandsOver other change.page_size change.commit (committed new)
journal-awaits told other old scene given c change new fits none done =
    let facts = waiting-unframed told old scene given c change none done.0 in
    let is : IsChangeOf old.database scene.page_size scene.commit change = done.0.is facts.0 in
    let size : change.page_size ≡ size_over old.database scene.page_size scene.commit = ap (λ (p : PageChange). p.page_size) is.is in
    let free : old.held_write ≡ None = nothing-held old (none-holds (finishing_rows old scene given c) none).1.1.1.1.0 in
    let bare : committed_count (log_contents old) ≡ 0 = grind (arith, nat_tests, facts.1) in
    let waiting : Served = record old { journal = holding old.journal c } in
    let held : waiting.held_write ≡ None = free in
    subst (λ (s : Served). StandsOver other change.page_size change.commit (committed s)) (sym done.1)
    (clean-stands other change.page_size change.commit (committed waiting) old.database (λ some. rw size (fits.sized (omega (arith, some, is.within)))) (rw held refl) (rw held refl) (rw held bare))

-- a write to the log that waits
log-awaits : (told : Option DatabaseImage) (old : Served) (scene : Scene) (given : Option ℕ) (place : ℕ) (bytes : List ℕ) (change : PageChange) (new : Served) →
    first_refusal (log_write_rows old scene given place bytes) ≡ None → LogDone told old scene place bytes (Some change) new → StandsOver told scene.page_size scene.commit old →
    StandsOver (option_map (λ i. apply i change) told) change.page_size change.commit (committed new)
log-awaits told old scene given place bytes change new none done stands =
    let waits = done.1 in
    let alone : old.writer ≡ None = log-alone old scene given place bytes none in
    let contents : written waits.write.at waits.write.bytes (log_contents old) ≡ log_after old place bytes =
    ap (λ (n : ℕ). written n waits.write.bytes (log_contents old)) waits.is.at_is ∙ ap (λ (b : List ℕ). written place b (log_contents old)) waits.is.bytes_are in
    let is : change ≡ _ = done.0.is in
    subst (λ (s : Served). StandsOver (option_map (λ i. apply i change) told) change.page_size change.commit (committed s)) (sym waits.state)
    (record {
      shape = record {
        fits = waits.is.fits;
        follows = rw contents (record { page_size_is = λ some. sym (ap (λ (p : PageChange). p.page_size) is); commit_is = λ some. sym (ap (λ (p : PageChange). p.commit) is) });
      };
      image = over-told told waits contents alone waits.is.leads stands.image;
    }) where
      over-told : (told : Option DatabaseImage) (waits : LogWaits told old place bytes change new) → written waits.write.at waits.write.bytes (log_contents old) ≡ log_after old place bytes →
          old.writer ≡ None → IfSome told (λ i. KeepsDifferences old.database i → Agrees old.database i (log_contents old) → LeadsUnderLog old.database i (log_after old place bytes) change waits.write.file) →
          IfSome told (IsOverImage old) → IfSome (option_map (λ i. apply i change) told) (IsOverImage (committed (record old { held_write = Some waits.write })))
      over-told None waits contents alone leads h = tt
      over-told (Some i) waits contents alone leads h =
          let led = leads h.differs (rw alone at h.agrees) in
          record { differs = led.stays.differs; agrees = rw (alone, contents) led.agrees }

-- what a request may commit
committed-by : (told : Option DatabaseImage) (p : Plan) (r : Reply) (Does : Option PageChange → Type 0) (new : Served) → MayCommit p r Does →
    ((change : PageChange) → Does (Some change) → StandsOver (option_map (λ i. apply i change) told) change.page_size change.commit (committed new)) → AwaitsOver told new p
committed-by told (plan.Reply given) r Does new may each = tt
committed-by told plan.Silent r Does new may each = absurd may
committed-by told (plan.Commit given change) r Does new may each = each change may.1

-- a request that is done waits for nothing
replied-awaits : (told : Option DatabaseImage) (p : Plan) (r : Reply) (new : Served) → p ≡ plan.Reply r → AwaitsOver told new p
replied-awaits told p r new is = subst (λ (q : Plan). AwaitsOver told new q) (sym is) tt

module _ (told : Option DatabaseImage) (old : Served) (scene : Scene) (stands : StandsOver told scene.page_size scene.commit old) where
  journal-plan : (given : Option ℕ) (c : JournalCall) (p : Plan) (r : Reply) (new : Served) → first_refusal (finishing_rows old scene given c) ≡ None →
      MayCommit p r (λ change. JournalDone told old scene c change new) → AwaitsOver told new p
  journal-plan given c p r new none done =
      committed-by told p r (λ change. JournalDone told old scene c change new) new done
      (λ change does. journal-awaits told (option_map (λ i. apply i change) told) old scene given c change new stands.shape.fits none does)

  written-awaits : (f : Option FileKind) (given : Option ℕ) (place : ℕ) (bytes : List ℕ) (p : Plan) (new : Served) → first_refusal (write_rows old scene f given place bytes) ≡ None →
      IsWritten told old scene f place bytes p new → AwaitsOver told new p
  written-awaits None given place bytes p new none done = absurd done
  written-awaits (Some file.Database) given place bytes p new none done = replied-awaits told p _ new done.0
  written-awaits (Some file.Journal) given place bytes p new none done =
      journal-plan given (call.Write place bytes) p _ new (finish-allowed old scene given (call.Write place bytes) none) done
  written-awaits (Some file.Wal) given place bytes p new none done =
      committed-by told p _ (λ change. LogDone told old scene place bytes change new) new done (λ change does. log-awaits told old scene given place bytes change new none does stands)
  written-awaits (Some file.Shm) given place bytes p new none done = replied-awaits told p _ new done.reply
  written-awaits (Some file.PosFile) given place bytes p new none done = absurd done
  written-awaits (Some file.LockFile) given place bytes p new none done = absurd done
  written-awaits (Some file.Primary) given place bytes p new none done = absurd done

  sized-awaits : (node : ℕ) (f : Option FileKind) (given : Option ℕ) (len : ℕ) (p : Plan) (new : Served) → first_refusal (size_rows old scene f given len) ≡ None →
      IsSized told old scene node f len p new → AwaitsOver told new p
  sized-awaits node None given len p new none done = absurd done
  sized-awaits node (Some file.Database) given len p new none done = replied-awaits told p _ new done.0
  sized-awaits node (Some file.Journal) given len p new none done =
      journal-plan given (call.Cut len) p _ new (finish-allowed old scene given (call.Cut len) none) done
  sized-awaits node (Some file.Wal) given len p new none done = replied-awaits told p _ new done.reply
  sized-awaits node (Some file.Shm) given len p new none done = replied-awaits told p _ new done.reply
  sized-awaits node (Some file.PosFile) given len p new none done = absurd done
  sized-awaits node (Some file.LockFile) given len p new none done = absurd done
  sized-awaits node (Some file.Primary) given len p new none done = absurd done

  unlinked-awaits : (f : Option FileKind) (p : Plan) (new : Served) → first_refusal (unlinking_rows old scene f) ≡ None → IsUnlinked told old scene f p new → AwaitsOver told new p
  unlinked-awaits None p new none done = absurd done
  unlinked-awaits (Some file.Database) p new none done = absurd done
  unlinked-awaits (Some file.Journal) p new none done =
      journal-plan None call.Unlink p _ new (removal-allowed old scene none) done
  unlinked-awaits (Some file.Wal) p new none done = replied-awaits told p _ new done.reply
  unlinked-awaits (Some file.Shm) p new none done = replied-awaits told p _ new done.reply
  unlinked-awaits (Some file.PosFile) p new none done = absurd done
  unlinked-awaits (Some file.LockFile) p new none done = absurd done
  unlinked-awaits (Some file.Primary) p new none done = absurd done

  -- what is done on a file
  on-file : (o : Option FileKind) (Does : FileKind → Type 0) (p : Plan) (new : Served) → ((f : FileKind) → Does f → AwaitsOver told new p) → IsSomeAnd o Does → AwaitsOver told new p
  on-file None Does p new each done = absurd done
  on-file (Some f) Does p new each done = each f done

  -- every request
  pub awaits-at : (node : ℕ) (o : Op) (p : Plan) (new : Served) → first_refusal (rows_at old scene node o) ≡ None → IsDoneAt told old scene node o p new → AwaitsOver told new p
  awaits-at node (op.Lookup name) p new none done = on-file (file_named old.name name) _ p new (λ f d. replied-awaits told p _ new d.reply) done
  awaits-at node op.Forget p new none done = subst (λ (q : Plan). AwaitsOver told new q) (sym done.0) tt
  awaits-at node op.Getattr p new none done = replied-awaits told p _ new done.reply
  awaits-at node (op.Setattr None given) p new none done = replied-awaits told p _ new done.reply
  awaits-at node (op.Setattr (Some len) given) p new none done = sized-awaits node (file_at node) given len p new (size-allowed old scene node given len none) done
  awaits-at node (op.Unlink name) p new none done = unlinked-awaits (file_named old.name name) p new (unlink-allowed old scene node name none) done
  awaits-at node op.Open p new none done = on-file (file_at node) _ p new (λ f d. replied-awaits told p _ new d.1.reply) done
  awaits-at node (op.Read fh place size given) p new none done = on-file (file_at node) _ p new (λ f d. replied-awaits told p _ new d.1.reply.reply) done
  awaits-at node (op.Write fh place given bytes) p new none done = written-awaits (file_at node) given place bytes p new (write-allowed old scene node fh place given bytes none) done
  awaits-at node (op.Release fh owner) p new none done = replied-awaits told p _ new done.reply
  awaits-at node (op.Fsync fh) p new none done = replied-awaits told p _ new done.reply
  awaits-at node (op.Flush fh owner) p new none done = on-file (file_at node) _ p new (λ f d. replied-awaits told p _ new d.reply) done
  awaits-at node (op.Init major minor) p new none done = replied-awaits told p _ new done.reply
  awaits-at node (op.Getlk fh owner start end w) p new none done = replied-awaits told p _ new done.reply
  awaits-at node (op.Setlk fh owner start end w) p new none done = replied-awaits told p _ new done.reply
  awaits-at node (op.Setlkw fh owner start end w) p new none done = replied-awaits told p _ new done.reply
  awaits-at node (op.Create name) p new none done = on-file (file_named old.name name) _ p new (λ f d. replied-awaits told p _ new d.1.reply) done
  awaits-at node op.Destroy p new none done = replied-awaits told p _ new done.reply

-- whatever is answered
pub awaits-after : (told : Option DatabaseImage) (old new : Served) (scene : Scene) (request : Request) (r : Result Plan ViewFault) →
    IfOk r (λ p. IsDone told old scene request p new) → OnOk r (IsAllowed (rows_of old scene request)) → StandsOver told scene.page_size scene.commit old →
    IfOk r (AwaitsOver told new)
awaits-after told old new scene request (Ok p) done allowed stands = awaits-at told old scene stands request.node request.op p new allowed done
awaits-after told old new scene request (Err f) done allowed stands = tt
