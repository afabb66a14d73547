-- A request that commits nothing, and what is common to all requests.
use Rattle.std.proofs.Common.{◌≡◌, ◌∙◌, ℕ, Bool, true, false, IsTrue, List, [], inl, inr, Option, None, Some, refl, sym, ap, subst, arith, ◌<◌}
use Rattle.std.specs.Prelude.{IfSome, is_some, nat_lt, if◌then◌else◌}
use Rattle.std.specs.Option.{option_map}
use Rattle.std.proofs.lemmas.Bool.{cases_Bool}
use Rattle.std.proofs.lemmas.Bool.Decides.{nat_tests}
use Rattle.lf_disk.specs.History.{History}
use Rattle.lf_sqlite_pages.specs.Apply.{apply}
use Rattle.lf_sqlite_pages.specs.Image.{DatabaseImage}
use Rattle.fuse_msgs.specs.declared.reply.Reply.{Reply}
use Rattle.fuse_msgs.specs.declared.request.Request.{Request}
use Rattle.lf_sqlite_pages.specs.PageSize.{IsPageSize}
use Rattle.lf_sqlite_pages.specs.Change.{PageChange}
use Rattle.file_view.specs.declared.requests.Plan.{Plan}
use Rattle.file_view.specs.declared.requests.Plan.TheVariants as plan
use Rattle.file_view.specs.declared.view.Role.{Role}
use Rattle.file_view.specs.declared.view.Role.TheVariants as role
use Rattle.file_view.specs.declared.view.Scene.{Scene}
use Rattle.file_view.specs.Done.{IsDone}
use Rattle.file_view.specs.Errno.{EROFS}
use Rattle.file_view.specs.Overlay.{FitsImage, IsOverImage, StandsOver}
use Rattle.file_view.specs.Refusal.{IsAllowed}
use Rattle.file_view.specs.Requests.{rows_of}
use Rattle.file_view.specs.Served.{Served, has_committed_frames, log_contents, waits}
use Rattle.file_view.specs.Sound.{IsSound}
use Rattle.file_view.specs.Steady.{CommitsNothing, GoesOn, IsQuiet, SameDatabase}
use Rattle.file_view.proofs.WaitingLemmas.{goes-at}
use Rattle.txn_log.specs.Calls.{RestsAs}
use Rattle.wal_watch.specs.Frames.{committed_count}
use Rattle.world_laws.specs.Answers.{Answers, LeavesUndone}
use Rattle.world_laws.specs.Node as laws
use Rattle.world_laws.specs.Served.{ShareForReading}
use Rattle.world_laws.specs.Store.{MayBeFound, StoreState}
use Rattle.node_core.specs.declared.sent.Sent.{Sent}
use Rattle.node_core.specs.Files.{IsPlanned, scene, told}
use Rattle.node_core.specs.Locking.{commit_refusal, commit_refusal_by}
use Rattle.node_core.specs.Nodes.{frames_of, role_in, seen, NodeParts}
use Rattle.node_core.specs.Roles.{permit_out}
use Rattle.node_core.specs.Safely.{StepsSafely}
use Rattle.node_core.specs.Stores.{IsRead, StoreFields, failed, position, state}
use Rattle.node_core.proofs.Facts.{says-none}
use Rattle.node_core.proofs.Leaving.{Leaves, leaves}
use Rattle.node_core.proofs.Sound.{is-replica, sound}
use Rattle.node_core.specs.Waiting.{Waits, file_sent}
use Rattle.node_core.proofs.Steady.{steady-files, steps-still}
use Rattle.node_core.proofs.Waiting.{told-same, waits-files, waits-store}

-- what is told of an image, where the disk is honest
pub told-image : (h : History) (s : StoreFields) (P : DatabaseImage → Type 0) → IsTrue s.honest → IfSome (told h s) P → P (state h s).image
told-image h s P honest holds = go s.honest honest holds where
  go : (b : Bool) → IsTrue b → IfSome (if b then Some (state h s).image else None) P → P (state h s).image
  go true honest holds = holds
  go false honest holds = absurd (let no : false ≡ true = honest in cc)

-- and of the image that a change leads to
pub told-after : (h : History) (s : StoreFields) (change : PageChange) (P : DatabaseImage → Type 0) → IsTrue s.honest → IfSome (option_map (λ i. apply i change) (told h s)) P → P (apply (state h s).image change)
told-after h s change P honest holds = go s.honest honest holds where
  go : (b : Bool) → IsTrue b → IfSome (option_map (λ i. apply i change) (if b then Some (state h s).image else None)) P → P (apply (state h s).image change)
  go true honest holds = holds
  go false honest holds = absurd (let no : false ≡ true = honest in cc)

no-frames : (contents : List ℕ) → nat_lt 0 (committed_count contents) ≡ false → frames_of contents ≡ None
no-frames contents none =
    let zero : committed_count contents ≡ 0 = grind (arith, nat_tests, none) in
    rw zero refl

-- the committed frames of a log that stays
pub frames-same : (old new : Served) → SameDatabase old new → frames_of (log_contents new) ≡ frames_of (log_contents old)
frames-same old new same = elim (cases_Bool (has_committed_frames old)) [
  | inl some ↦ ap frames_of (same.frames some)
  | inr none ↦ no-frames (log_contents new) (same.no_frames none) ∙ sym (no-frames (log_contents old) none)
]

-- a node that waits for nothing to the laws has sent nothing
pub none-sent : (sent : Option Sent) → file_sent sent ≡ None → sent ≡ None
none-sent None none = refl
none-sent (Some sent) none = absurd (let no : Some sent.file ≡ None = none in cc)

-- a request that commits nothing, or is refused: pages were read at most, and at a replica a reader sees what it saw
pub reads-safely : (start mid : History) (old : NodeParts) (store : StoreFields) (files : Served) (answer : laws.Answer) → IsTrue old.store.honest → IsRead start old.store mid store
    → RestsAs (MayBeFound (state mid store) (failed mid store)) mid → IsOverImage files (state mid store).image → ShareForReading files.locks → (role_in old ≡ role.Replica → files.writer ≡ None)
    → (role_in old ≡ role.Replica → old.sent ≡ None → (files.database ≡ old.files.database) × (frames_of (log_contents files) ≡ frames_of (log_contents old.files)))
    → Answers (seen start old) (seen start old).role laws.File [] None answer (seen mid (record old { store = store; files = files })) → LeavesUndone answer []
    → StepsSafely (seen start old) laws.File answer (seen mid (record old { store = store; files = files })) start mid
reads-safely start mid old store files answer honest read rests over shares replica same answers undone =
    let new : NodeParts = record old { store = store; files = files } in
    steps-still (seen start old) (seen mid new) laws.File answer start mid read.rests (read.state honest) (read.failed honest) rests
    (says-none (seen start old) (seen mid new) (seen start old).role laws.File answer answers undone
    (λ plain still. let both = same (is-replica (role_in old) plain.role) (none-sent old.sent plain.waits) in steady-files start mid old store files (read.state honest) both.0 both.1)
    (sound mid new over shares replica))

-- only a primary has leave to commit
pub primary : (n : NodeParts) → commit_refusal n.standing ≡ None → role_in n ≡ role.Primary
primary n leave = go (role_in n) refl where
  go : (r : Role) → role_in n ≡ r → role_in n ≡ role.Primary
  go role.Primary is = is
  go role.Replica is = absurd (let no : Some EROFS ≡ None = sym (ap (λ (r : Role). commit_refusal_by r (permit_out n.standing)) is) ∙ leave in cc)
  go role.Halted is = absurd (let no : Some EROFS ≡ None = sym (ap (λ (r : Role). commit_refusal_by r (permit_out n.standing)) is) ∙ leave in cc)

-- the law of the files at a replica
abbrev pub LeavesReplica : Type 0
LeavesReplica = (told : Option DatabaseImage) (old new : Served) (scene : Scene) (request : Request) (p : Plan) → scene.role ≡ role.Replica → IsQuiet old → IsAllowed (rows_of old scene request)
    → IsDone told old scene request p new → SameDatabase old new × IsQuiet new × CommitsNothing p

-- a node before a request, and its request prepared over pages that were read
pub record Prepared (start : History) (old : NodeParts) (caller : ℕ) (request : Request) (p : Plan) (files : Served) (mid : History) (store : StoreFields) : Type 0 where
  pub read : IsRead start old.store mid store
  pub planned : IsPlanned start old caller request p files
  pub stands : StandsOver (told start old.store) old.store.page_size old.store.commit files
  pub told_position : old.files.position ≡ position old.store
  pub replica : role_in old ≡ role.Replica → old.files.writer ≡ None
  pub idle : waits old.files ≡ is_some old.sent
  pub awaits : Waits (told start old.store) old.store old.files old.sent
  pub sound : IsSound old.files
  pub sized : 0 < old.store.commit → IsPageSize old.store.page_size

module _ (law : LeavesReplica) (start mid : History) (old : NodeParts) (store : StoreFields) (files : Served) (caller : ℕ) (request : Request) (p : Plan)
    (prepared : Prepared start old caller request p files mid store) where
  -- at a replica the database stays, nobody writes, and nothing is to be committed, where nothing was sent
  pub quiet : role_in old ≡ role.Replica → old.sent ≡ None → SameDatabase old.files files × IsQuiet files × CommitsNothing p
  quiet not unsent =
      law (told start old.store) old.files files (scene old caller) request p not (record { alone = prepared.replica not; free = prepared.idle ∙ ap is_some unsent }) prepared.planned.allowed prepared.planned.done

  -- what was sent goes on to wait, and nothing else is to be committed
  pub goes : waits old.files ≡ true → GoesOn old.files files × CommitsNothing p
  goes waiting = goes-at (told start old.store) old.files (scene old caller) waiting request.node request.op p files prepared.planned.allowed prepared.planned.done

  pub left : Leaves old.store.page_size old.store.commit old.files p files
  left = leaves (told start old.store) old.files (scene old caller) prepared.sized request.node request.op p files prepared.planned.allowed prepared.planned.done

  -- by whether anything was sent
  by-sent : (P : Option Sent → Type 0) → (old.sent ≡ None → P None) → ((sent : Sent) → old.sent ≡ Some sent → waits old.files ≡ true → P (Some sent)) → P old.sent
  by-sent P nothing one = go old.sent refl where
    go : (o : Option Sent) → old.sent ≡ o → P o
    go None none = nothing none
    go (Some sent) some = one sent some (prepared.idle ∙ ap is_some some)

  -- at a replica nobody writes
  pub replica-read : role_in old ≡ role.Replica → files.writer ≡ None
  replica-read not = by-sent (λ o. files.writer ≡ None) (λ none. (quiet not none).1.alone) (λ sent some waiting. (goes waiting).0.alone (prepared.replica not))

  -- where something is to be committed nothing was sent
  pub unsent : (CommitsNothing p → ⊥) → old.sent ≡ None
  unsent commits = by-sent (λ o. o ≡ None) (λ none. refl) (λ sent some waiting. absurd (commits (goes waiting).1))

  pub image-told : told mid store ≡ told start old.store
  image-told = told-same start mid old.store store (ap (λ (s : StoreFields). s.honest) prepared.read.same) (λ honest. ap (λ (s : StoreState). s.image) (prepared.read.state honest))

  -- what was sent is awaited as before, over the files as they are then, and as they were
  pub awaits-read : Waits (told mid store) store files old.sent
  awaits-read =
      by-sent (λ o. Waits (told mid store) store files o) (λ none. tt)
      (λ sent some waiting. waits-store (told start old.store) (told mid store) old.store store files (Some sent) image-told (ap position prepared.read.same)
      (waits-files (told start old.store) old.store old.files files (Some sent) prepared.sound (goes waiting).0 (subst (λ (o : Option Sent). Waits (told start old.store) old.store old.files o) some prepared.awaits)))

  pub awaits-before : Waits (told mid store) store old.files old.sent
  awaits-before = waits-store (told start old.store) (told mid store) old.store store old.files old.sent image-told (ap position prepared.read.same) prepared.awaits

  -- the store's shape and its image are as before
  pub shape-read : FitsImage files store.page_size store.commit
  shape-read =
      subst (λ (s : StoreFields). FitsImage files s.page_size s.commit) (sym prepared.read.same) prepared.stands.shape

  pub image-read : IsTrue store.honest → IsOverImage files (state mid store).image
  image-read still =
      let honest : IsTrue old.store.honest = sym (ap (λ (s : StoreFields). s.honest) prepared.read.same) ∙ still in
      subst (λ (s : StoreState). IsOverImage files s.image) (sym (prepared.read.state honest)) (told-image start old.store (λ i. IsOverImage files i) honest prepared.stands.image)

  pub position-read : files.position ≡ position store
  position-read = left.position ∙ prepared.told_position ∙ sym (ap position prepared.read.same)

  -- a step that commits nothing
  pub plan-safely : (answer : laws.Answer) → IsTrue old.store.honest → RestsAs (MayBeFound (state mid store) (failed mid store)) mid → ShareForReading files.locks
      → Answers (seen start old) (seen start old).role laws.File [] None answer (seen mid (record old { store = store; files = files })) → LeavesUndone answer []
      → StepsSafely (seen start old) laws.File answer (seen mid (record old { store = store; files = files })) start mid
  plan-safely answer honest rests shares answers undone =
      reads-safely start mid old store files answer honest prepared.read rests (image-read (ap (λ (s : StoreFields). s.honest) prepared.read.same ∙ honest)) shares
      replica-read (λ not none. let same = (quiet not none).0 in (same.file, frames-same old.files files same)) answers undone
