-- What a READ of the database file gives.
use Rattle.std.proofs.Common.{◌≡◌, ℕ, Bool, true, false, IsTrue, List, Option, None, Some, inl, inr, refl, subst, ◌∙◌}
use Rattle.std.specs.Prelude.{IsSomeAnd, ◌==◌, ◌&&◌, ◌||◌, max}
use Rattle.byte_locks.specs.declared.lock_bytes.FileKind.{FileKind}
use Rattle.byte_locks.specs.declared.lock_bytes.FileKind.TheVariants as file
use Rattle.database_file.specs.DatabaseFile.{as_read, bytes_from}
use Rattle.file_handles.specs.Nodes.{file_at, root}
use Rattle.fuse_msgs.specs.declared.reply.Reply.{Reply}
use Rattle.fuse_msgs.specs.declared.reply.Reply.TheVariants as reply
use Rattle.fuse_msgs.specs.declared.request.Op.{Op}
use Rattle.fuse_msgs.specs.declared.request.Op.TheVariants as op
use Rattle.fuse_msgs.specs.declared.request.Request.{Request}
use Rattle.lf_base.specs.declared.errno.Errno.{Errno}
use Rattle.lf_disk.specs.History.{History}
use Rattle.lf_sqlite_pages.specs.Image.{DatabaseImage, image_bytes}
use Rattle.file_view.specs.declared.requests.Plan.{Plan}
use Rattle.file_view.specs.declared.requests.Plan.TheVariants as plan
use Rattle.file_view.specs.Errno.{EAGAIN}
use Rattle.file_view.specs.Done.{HasRead, IsDoneAt}
use Rattle.file_view.specs.Served.{Served}
use Rattle.lf_sqlite_pages.specs.Change.{PageChange}
use Rattle.node_core.specs.declared.answer.Answer.{Answer}
use Rattle.node_core.specs.declared.answer.Answer.TheVariants as answers
use Rattle.node_core.specs.declared.ask.Ask.{Ask}
use Rattle.node_core.specs.declared.ask.Ask.TheVariants as asks
use Rattle.cluster_laws.specs.Bytes.{GivesBytes, ReadGives}
use Rattle.node_core.specs.Files.{IsPlanned, scene, told}
use Rattle.node_core.specs.HoldingBack.{is_kept_out}
use Rattle.node_core.specs.Locking.{is_barred}
use Rattle.node_core.specs.Nodes.{NodeParts, at_moment, file_over, seen}
use Rattle.node_core.specs.Roles.{role_of}
use Rattle.node_core.specs.Serving.{ServesFiles}
use Rattle.node_core.specs.Stores.{state}
use Rattle.node_core.specs.Steps.{AnswersFile, AnswersServed, Does}
use Rattle.node_core.specs.Unlinking.{unlinks}
use Rattle.node_core.proofs.Answering.{told-image}
use Rattle.node_core.proofs.Expired.{files-still}

bytes-alike : (one other : List ℕ) → plan.Reply (reply.Bytes one) ≡ plan.Reply (reply.Bytes other) → one ≡ other
bytes-alike one other same = cc

no-commit : (given : Reply) (change : PageChange) (bytes : List ℕ) → plan.Commit given change ≡ plan.Reply (reply.Bytes bytes) → ⊥
no-commit given change bytes same = cc

done-refused : (r : Reply) (number : Errno) → answers.Done r ≡ answers.Refuse number → ⊥
done-refused r number same = cc

-- one that is done wasn't put off
was-let-in : (start : History) (old : NodeParts) (caller : ℕ) (request : Request) (r : Reply) (end : History) (new : NodeParts) (said : Option Errno) (kept : Bool) →
    AnswersServed kept start old caller request (answers.Done r) end new said → ServesFiles start old caller request (answers.Done r) end new said
was-let-in start old caller request r end new said true refused = absurd (done-refused r EAGAIN refused.0)
was-let-in start old caller request r end new said false serves = serves

-- a request that unlinks nothing is one of the files
is-served : (start : History) (old : NodeParts) (caller : ℕ) (request : Request) (r : Reply) (end : History) (new : NodeParts) (said : Option Errno) (here unlinked : Bool) → unlinked ≡ false →
    AnswersFile (here && unlinked) start old caller request (answers.Done r) end new said → ServesFiles start old caller request (answers.Done r) end new said
is-served start old caller request r end new said true false none serves = was-let-in start old caller request r end new said (is_kept_out old caller request || is_barred old request) serves
is-served start old caller request r end new said true true none serves = absurd (let no : true ≡ false = none in cc)
is-served start old caller request r end new said false unlinked none serves = was-let-in start old caller request r end new said (is_kept_out old caller request || is_barred old request) serves

module _ (start end : History) (old new : NodeParts) (said : Option Errno) (caller : ℕ) (request : Request) (honest : IsTrue old.store.honest) where
  -- the bytes of the database file, as the cluster sees it
  abbrev contents : List ℕ
  contents = image_bytes (seen start old).served.file

  abbrev Reads : Option FileKind → ℕ → ℕ → Plan → Served → Type 0
  Reads kind place size p files = IsSomeAnd kind (λ f. (bytes : List ℕ) × HasRead (told start old.store) old.files (scene old caller) f place size bytes p files)

  planned-reads : (fh place size : ℕ) (owner : Option ℕ) → request.op ≡ op.Read fh place size owner → file_at request.node ≡ Some file.Database → (p : Plan) (files : Served) →
      IsPlanned start old caller request p files → (bytes : List ℕ) × HasRead (told start old.store) old.files (scene old caller) file.Database place size bytes p files
  planned-reads fh place size owner reads database p files planned =
      let done : Reads (file_at request.node) place size p files =
      subst (λ (o : Op). IsDoneAt (told start old.store) old.files (scene old caller) request.node o p files) reads planned.done in
      subst (λ (kind : Option FileKind). Reads kind place size p files) database done

  gives-read : (fh place size : ℕ) (owner : Option ℕ) → request.op ≡ op.Read fh place size owner → file_at request.node ≡ Some file.Database → (bytes : List ℕ) →
      ServesFiles start old caller request (answers.Done (reply.Bytes bytes)) end new said → bytes ≡ bytes_from contents place size
  gives-read fh place size owner reads database bytes (inl served) =
      let read = planned-reads fh place size owner reads database (plan.Reply (reply.Bytes bytes)) new.files served.planned in
      bytes-alike bytes read.0 read.1.reply.reply
      ∙ told-image start old.store (λ (i : DatabaseImage). read.0 ≡ bytes_from (image_bytes (as_read old.files.database i)) place size) honest read.1.bytes_are
  gives-read fh place size owner reads database bytes (inr committed) =
      let read = planned-reads fh place size owner reads database (plan.Commit (reply.Bytes bytes) committed.change) committed.waiting committed.planned in
      absurd (no-commit (reply.Bytes bytes) committed.change read.0 read.1.reply.reply)

  gives-file : (kind : Option FileKind) → file_at request.node ≡ kind → (o : Op) → request.op ≡ o → (r : Reply) →
      AnswersFile ((request.node == root) && unlinks old.config.name o) start old caller request (answers.Done r) end new said → ReadGives contents kind o r
  gives-file (Some file.Database) database (op.Read fh place size owner) reads (reply.Bytes bytes) answers_it =
      gives-read fh place size owner reads database bytes (is-served start old caller request (reply.Bytes bytes) end new said (request.node == root) false refl answers_it)
  gives-file kind is o also r answers_it = tt

-- each step of a node without uncommitted pages, of which its moment takes none
pub step-gives : (start end : History) (old new : NodeParts) (said : Option Errno) (caller : ℕ) (ask : Ask) (answer : Answer) → IsTrue old.store.honest → old.files.writer ≡ None → Does start old caller ask answer end new said →
    GivesBytes (image_bytes (seen start old).served.file) ask answer
step-gives start end old new said caller (asks.File now request) (answers.Done r) honest none does =
    subst (λ (s : Served). ReadGives (image_bytes (file_over s.database (state start old.store).image)) (file_at request.node) request.op r) (files-still old.files none (role_of (record old.standing { moment = max old.standing.moment now })))
    (gives-file start end (at_moment old now) new said caller request honest (file_at request.node) refl request.op refl r does)
step-gives start end old new said caller ask answer honest none does = tt
