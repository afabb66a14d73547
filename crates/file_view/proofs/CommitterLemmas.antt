-- In a session that speaks for many owners a request commits the uncommitted pages of the owner that it names.
use Rattle.std.proofs.Common.{◌≡◌, ℕ, Bool, true, false, ◌&&◌, ◌||◌, List, Option, Some, None, refl, sym, ap, ◌∙◌, subst}
use Rattle.std.specs.Prelude.{not, is_some, nat_eq, unwrap_or, IsSomeAnd}
use Rattle.std.specs.Option.{option_map}
use Rattle.std.proofs.lemmas.Bool.{eqb-true, and_parts}
use Rattle.byte_locks.specs.declared.lock_bytes.FileKind.{FileKind}
use Rattle.byte_locks.specs.declared.lock_bytes.FileKind.TheVariants as file
use Rattle.byte_locks.specs.declared.lock_id.LockId.TheVariants as lock
use Rattle.byte_locks.specs.declared.owner.Owner.{Owner}
use Rattle.byte_locks.specs.LockList.{writer_of}
use Rattle.file_handles.specs.Names.{file_named}
use Rattle.file_handles.specs.Nodes.{file_at}
use Rattle.fuse_msgs.specs.declared.reply.Reply.{Reply}
use Rattle.fuse_msgs.specs.declared.request.Op.{Op}
use Rattle.fuse_msgs.specs.declared.request.Op.TheVariants as op
use Rattle.lf_sqlite_pages.specs.Image.{DatabaseImage}
use Rattle.journal_watch.specs.Journal.{is_active}
use Rattle.file_view.specs.declared.journal.JournalCall.{JournalCall}
use Rattle.file_view.specs.declared.journal.JournalCall.TheVariants as call
use Rattle.file_view.specs.declared.requests.Plan.{Plan}
use Rattle.file_view.specs.declared.requests.Plan.TheVariants as plan
use Rattle.file_view.specs.declared.view.Scene.{Scene}
use Rattle.file_view.specs.Acting.{is_actor, is_many, is_unnamed, writes}
use Rattle.file_view.specs.Committers.{CommitsFor, named_owner}
use Rattle.file_view.specs.Done.{MayCommit, IsWritten, IsSized, IsUnlinked, IsDoneAt}
use Rattle.file_view.specs.JournalRules.{ends_writing, finishing_rows, JournalDone}
use Rattle.file_view.specs.LogRules.{log_write_rows}
use Rattle.file_view.specs.NameRules.{unlinking_rows}
use Rattle.file_view.specs.Refusal.{first_refusal}
use Rattle.file_view.specs.Requests.{owner_of, write_rows, size_rows, rows_at}
use Rattle.file_view.specs.Served.{Served}
use Rattle.file_view.specs.Sound.{IsSound}
use Rattle.file_view.proofs.RequestLemmas.{size-allowed, write-allowed, unlink-allowed, finish-allowed, removal-allowed}
use Rattle.file_view.proofs.RowLemmas.{none-holds}

-- of two tests the other fails
second-fails : (a b : Bool) → (a && b) ≡ false → a ≡ true → b ≡ false
second-fails true b h holds = h
second-fails false b h holds = absurd cc

not-fails : (a : Bool) → not a ≡ false → a ≡ true
not-fails true h = refl
not-fails false h = absurd cc

-- an owner of this session and number
is-owner : (scene : Scene) (id : ℕ) (owner : Owner) → is_actor scene.session (Some id) owner ≡ true → owner_of scene id ≡ owner
is-owner scene id owner h =
    let parts = and_parts (nat_eq owner.session scene.session) (nat_eq owner.id id) h in
    let with_session : ℕ → Owner = λ session. record { session = session; id = id } in
    let with_id : ℕ → Owner = λ number. record { session = owner.session; id = number } in
    ap with_session (sym (eqb-true owner.session scene.session parts.0)) ∙ ap with_id (sym (eqb-true owner.id id parts.1))

module _ (told : Option DatabaseImage) (old : Served) (scene : Scene) (owner : Owner) (sound : IsSound old) (many : is_many old.locks scene.session ≡ true) (writing : old.writer ≡ Some owner) where
  replied : (asked : Op) (p : Plan) (r : Reply) → p ≡ plan.Reply r → CommitsFor owner scene asked p
  replied asked p r is = subst (λ (q : Plan). CommitsFor owner scene asked q) (sym is) tt

  -- a call that ends the transaction names its writer
  names-writer : (given : Option ℕ) → is_unnamed old.locks scene.session given ≡ false → writes old.locks scene.session given lock.Shared ≡ true → option_map (owner_of scene) given ≡ Some owner
  names-writer None named writes-it = absurd (let e : true ≡ false = sym many ∙ named in cc)
  names-writer (Some id) named writes-it =
      let actor : is_actor scene.session (Some id) owner ≡ true =
      sym (ap (λ (o : Option Owner). unwrap_or (option_map (is_actor scene.session (Some id)) o) false) (sound.exclusive owner writing)) ∙ writes-it in
      ap (λ (o : Owner). Some o) (is-owner scene id owner actor)

  ending : (given : Option ℕ) (c : JournalCall) → first_refusal (finishing_rows old scene given c) ≡ None → ends_writing old c ≡ true → option_map (owner_of scene) given ≡ Some owner
  ending given c none ends =
      let rows = none-holds (finishing_rows old scene given c) none in
      names-writer given (second-fails (ends_writing old c) (is_unnamed old.locks scene.session given) rows.1.0 ends)
      (not-fails (writes old.locks scene.session given lock.Shared) (second-fails (ends_writing old c) (not (writes old.locks scene.session given lock.Shared)) rows.1.1.0 ends))

  called : (c : JournalCall) (asked : Op) (p : Plan) (r : Reply) (new : Served) → first_refusal (finishing_rows old scene (named_owner asked) c) ≡ None
      → MayCommit p r (λ change. JournalDone told old scene c change new) → CommitsFor owner scene asked p
  called c asked (plan.Reply given) r new none done = tt
  called c asked plan.Silent r new none done = tt
  called c asked (plan.Commit given change) r new none done = by-ending (ends_writing old c) refl where
    by-ending : (b : Bool) → ends_writing old c ≡ b → option_map (owner_of scene) (named_owner asked) ≡ Some owner
    by-ending true ends = ending (named_owner asked) c none ends
    by-ending false ends = absurd (let e : Some change ≡ None = done.1.0.nothing ends in cc)

  -- no write to the log is done beside uncommitted pages
  log-refused : {A : Type 0} (given : Option ℕ) (place : ℕ) (bytes : List ℕ) → first_refusal (log_write_rows old scene given place bytes) ≡ None → A
  log-refused given place bytes none = absurd (nobody (is_active old.journal.file) old.writer writing (none-holds (log_write_rows old scene given place bytes) none).1.1.0) where
    nobody : (a : Bool) (o : Option Owner) → o ≡ Some owner → (a || is_some o) ≡ false → ⊥
    nobody true o some h = cc
    nobody false None some h = cc
    nobody false (Some other) some h = cc

  written : (f : Option FileKind) (fh : ℕ) (given : Option ℕ) (place : ℕ) (bytes : List ℕ) (p : Plan) (new : Served) → first_refusal (write_rows old scene f given place bytes) ≡ None
      → IsWritten told old scene f place bytes p new → CommitsFor owner scene (op.Write fh place given bytes) p
  written None fh given place bytes p new none done = absurd done
  written (Some file.Database) fh given place bytes p new none done = replied (op.Write fh place given bytes) p _ done.0
  written (Some file.Journal) fh given place bytes p new none done =
      called (call.Write place bytes) (op.Write fh place given bytes) p _ new (finish-allowed old scene given (call.Write place bytes) none) done
  written (Some file.Wal) fh given place bytes p new none done = log-refused given place bytes none
  written (Some file.Shm) fh given place bytes p new none done = replied (op.Write fh place given bytes) p _ done.reply
  written (Some file.PosFile) fh given place bytes p new none done = absurd done
  written (Some file.LockFile) fh given place bytes p new none done = absurd done
  written (Some file.Primary) fh given place bytes p new none done = absurd done

  sized : (node : ℕ) (f : Option FileKind) (given : Option ℕ) (len : ℕ) (p : Plan) (new : Served) → first_refusal (size_rows old scene f given len) ≡ None
      → IsSized told old scene node f len p new → CommitsFor owner scene (op.Setattr (Some len) given) p
  sized node None given len p new none done = absurd done
  sized node (Some file.Database) given len p new none done = replied (op.Setattr (Some len) given) p _ done.0
  sized node (Some file.Journal) given len p new none done =
      called (call.Cut len) (op.Setattr (Some len) given) p _ new (finish-allowed old scene given (call.Cut len) none) done
  sized node (Some file.Wal) given len p new none done = replied (op.Setattr (Some len) given) p _ done.reply
  sized node (Some file.Shm) given len p new none done = replied (op.Setattr (Some len) given) p _ done.reply
  sized node (Some file.PosFile) given len p new none done = absurd done
  sized node (Some file.LockFile) given len p new none done = absurd done
  sized node (Some file.Primary) given len p new none done = absurd done

  removed : (f : Option FileKind) (name : List ℕ) (p : Plan) (new : Served) → first_refusal (unlinking_rows old scene f) ≡ None → IsUnlinked told old scene f p new
      → CommitsFor owner scene (op.Unlink name) p
  removed None name p new none done = absurd done
  removed (Some file.Database) name p new none done = absurd done
  removed (Some file.Journal) name p new none done = called call.Unlink (op.Unlink name) p _ new (removal-allowed old scene none) done
  removed (Some file.Wal) name p new none done = replied (op.Unlink name) p _ done.reply
  removed (Some file.Shm) name p new none done = replied (op.Unlink name) p _ done.reply
  removed (Some file.PosFile) name p new none done = absurd done
  removed (Some file.LockFile) name p new none done = absurd done
  removed (Some file.Primary) name p new none done = absurd done

  on-file : (o : Option FileKind) (asked : Op) (Does : FileKind → Type 0) (p : Plan) → ((f : FileKind) → Does f → CommitsFor owner scene asked p) → IsSomeAnd o Does → CommitsFor owner scene asked p
  on-file None asked Does p each done = absurd done
  on-file (Some f) asked Does p each done = each f done

  pub commits-for : (node : ℕ) (o : Op) (p : Plan) (new : Served) → first_refusal (rows_at old scene node o) ≡ None → IsDoneAt told old scene node o p new → CommitsFor owner scene o p
  commits-for node (op.Lookup name) p new none done = on-file (file_named old.name name) (op.Lookup name) _ p (λ f d. replied (op.Lookup name) p _ d.reply) done
  commits-for node op.Forget p new none done = subst (λ (q : Plan). CommitsFor owner scene op.Forget q) (sym done.0) tt
  commits-for node op.Getattr p new none done = replied op.Getattr p _ done.reply
  commits-for node (op.Setattr None given) p new none done = replied (op.Setattr None given) p _ done.reply
  commits-for node (op.Setattr (Some len) given) p new none done = sized node (file_at node) given len p new (size-allowed old scene node given len none) done
  commits-for node (op.Unlink name) p new none done = removed (file_named old.name name) name p new (unlink-allowed old scene node name none) done
  commits-for node op.Open p new none done = on-file (file_at node) op.Open _ p (λ f d. replied op.Open p _ d.1.reply) done
  commits-for node (op.Read fh place size given) p new none done = on-file (file_at node) (op.Read fh place size given) _ p (λ f d. replied (op.Read fh place size given) p _ d.1.reply.reply) done
  commits-for node (op.Write fh place given bytes) p new none done = written (file_at node) fh given place bytes p new (write-allowed old scene node fh place given bytes none) done
  commits-for node (op.Release fh holder) p new none done = replied (op.Release fh holder) p _ done.reply
  commits-for node (op.Fsync fh) p new none done = replied (op.Fsync fh) p _ done.reply
  commits-for node (op.Flush fh holder) p new none done = on-file (file_at node) (op.Flush fh holder) _ p (λ f d. replied (op.Flush fh holder) p _ d.reply) done
  commits-for node (op.Init major minor) p new none done = replied (op.Init major minor) p _ done.reply
  commits-for node (op.Getlk fh holder start end w) p new none done = replied (op.Getlk fh holder start end w) p _ done.reply
  commits-for node (op.Setlk fh holder start end w) p new none done = replied (op.Setlk fh holder start end w) p _ done.reply
  commits-for node (op.Setlkw fh holder start end w) p new none done = replied (op.Setlkw fh holder start end w) p _ done.reply
  commits-for node (op.Create name) p new none done = on-file (file_named old.name name) (op.Create name) _ p (λ f d. replied (op.Create name) p _ d.1.reply) done
  commits-for node op.Destroy p new none done = replied op.Destroy p _ done.reply
