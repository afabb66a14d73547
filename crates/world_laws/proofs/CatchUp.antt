-- The answer to a position that the log lacks, and what is delivered.
use Rattle.std.proofs.Common.{◌≡◌, ◌≢◌, ◌⊎◌, ℕ, ◌≤◌, Bool, true, false, cond, eqb, List, [], ◌∷◌, Option, IsSome, inl, inr, refl, sym, ap, subst, ◌∙◌, ◌-◌, arith}
use Rattle.lf_base.specs.declared.pos.Pos.{Pos}
use Rattle.lf_base.specs.Faults.{Rose}
use Rattle.byte_locks.specs.declared.lock_id.LockId.{LockId}
use Rattle.lf_sqlite_pages.specs.Image.{DatabaseImage, IsImage, SameImage}
use Rattle.ltx_codec.specs.declared.file.Ltx.{Ltx}
use Rattle.ltx_codec.specs.Format.{IsFile}
use Rattle.ltx_codec.specs.Positions.{Joins, after, before, nowhere}
use Rattle.ltx_codec.specs.Sums.{image_sum}
use Rattle.world_laws.specs.declared.last_file.LastFile.{LastFile}
use Rattle.world_laws.specs.Answers.{AnswersDrop, AnswersFrame, AnswersHello, Knows, LeavesUndone, Owes, by_doubt, by_file, by_run, by_snapshot, call_of, completed_over, snapshot_of}
use Rattle.world_laws.specs.CatchUpLaw.{AnswersByWhole, DropInstalls, IsFreeRefusal, IsHeldBack, IsWhole, SentFileApplies, SnapshotInstalls}
use Rattle.world_laws.specs.Lineage.{Lineage, Suits, image_of, position_of}
use Rattle.world_laws.specs.Node.{Answer, Applied, BadFile, Broken, Disk, Done, Gone, Held, Item, Level, Limit, NoMemory, NodeState, NotNext, NotPrimary, NotReplica, PageSize, Primary, Refused, Role, SumDiffers}
use Rattle.world_laws.specs.Premises.{OneImagePerPosition}
use Rattle.world_laws.specs.Safe.{IsAllowed, IsSafe, IsSendable}
use Rattle.world_laws.specs.Served.{HoldsBack}
use Rattle.world_laws.specs.Store.{Apply, Failure, Install, StoreCall, StoreState, all_done, at, done, dropped_store, installed}
use Rattle.world_laws.specs.World.{World}
use Rattle.world_laws.proofs.Compacted.{run-begins}
use Rattle.world_laws.proofs.Images.{apply-same, fits-of}
use Rattle.world_laws.proofs.Lineages.{at_nothing, image_of-nothing, position_of-nothing}
use Rattle.world_laws.proofs.Snapshots.{whole-same}
use Rattle.world_laws.proofs.Stores.{end_of-none, end_of-one, end_of-push}

owed-lacking : {store : StoreState} {position : Pos} {last : Option LastFile} {file : Ltx} → (Knows store position last → ⊥) → Owes store position last file
    → (1 ≤ (at store).txid) × (file ≡ snapshot_of store)
owed-lacking {file = f} lacks (by_file here joins relied) = absurd (lacks (inl (relied, inr (f, here, joins))))
owed-lacking {store = s} {file = f} lacks (by_run {files = files} run joined made leads relied) =
    let first = run-begins s.log files f run joined made in
    absurd (lacks (inl (relied, inr (first.0, first.1, first.2 ∙ leads))))
owed-lacking lacks (by_snapshot some again) = (some, refl)
owed-lacking lacks (by_doubt some may) = (some, refl)

answered : (old new : NodeState) (role : Role) (position : Pos) (last : Option LastFile) (answer : Answer) → AnswersHello old new role position last answer → role ≡ Primary →
    (Knows old.store position last → ⊥) → IsWhole old.store answer ⊎ IsFreeRefusal old new answer
answered old new role position last (Level here) answers primary lacks = elim answers.2 [
  | inl level ↦ absurd (lacks (inl (level.0, inl (level.1 ∙ answers.1))))
  | inr blank ↦ absurd (lacks (inr blank))
]
answered old new role position last (Item file) answers primary lacks =
    let owed = owed-lacking lacks answers.1 in
    inl (inl (owed.0, ap (λ (f : Ltx). Item f) owed.1))
answered old new role position last Gone answers primary lacks = inl (inr (answers.1, refl))
answered old new role position last (Refused NotPrimary) answers primary lacks = absurd (answers primary)
answered old new role position last (Refused Disk) answers primary lacks = inr (inl (refl, answers))
answered old new role position last (Refused Broken) answers primary lacks = inr (inr (inl (refl, answers)))
answered old new role position last (Refused NoMemory) answers primary lacks = inr (inr (inr refl))
answered old new role position last other answers primary lacks = absurd answers

pub answers_by_whole-of : AnswersByWhole
answers_by_whole-of old new position last answer facts primary lacks = answered old new facts.role position last answer facts.answers (facts.role_is ∙ primary) lacks

-- the call that a snapshot asks for, and what it makes
pub snapshot-call : (old from : StoreState) → call_of old (snapshot_of from) ≡ Install (snapshot_of from)
unfolding snapshot_of
snapshot-call old from = refl

pub snapshot-end : (from : StoreState) → at (installed (snapshot_of from)) ≡ at from
unfolding snapshot_of
snapshot-end from = end_of-one (snapshot_of from)

pub snapshot-image : (from : StoreState) → IsImage from.image → SameImage (installed (snapshot_of from)).image from.image
unfolding snapshot_of
snapshot-image from valid = whole-same from.image valid

pub snapshot-first : (from : StoreState) → (snapshot_of from).header.min ≡ 1
unfolding snapshot_of
snapshot-first from = refl

-- what every frame that is answered so has in common
held-back : (old new : NodeState) (which : LockId) (did : List StoreCall) → HoldsBack old.served old.store.image which → new.store ≡ all_done old.store did → did ≡ [] →
    IsHeldBack old new (Held which)
held-back old new which did holds store none = (which, refl, holds, store ∙ ap (λ (ds : List StoreCall). all_done old.store ds) none)

frame-answered : (old new : NodeState) (role : Role) (from : StoreState) (did : List StoreCall) (failed : Option Failure) (answer : Answer) → (tree : List Lineage) →
    IsSendable tree (snapshot_of from) → IsImage from.image → role ≢ Primary → new.store ≡ all_done old.store did → (IsSome failed → Rose old.faults new.faults) → LeavesUndone answer did →
    AnswersFrame old role (snapshot_of from) did failed answer new →
    IsHeldBack old new answer
    ⊎ ((answer ≡ Applied (at from)) × (at new.store ≡ at from) × SameImage new.store.image from.image)
    ⊎ IsFreeRefusal old new answer
frame-answered old new role from did failed (Applied position) tree may valid not_primary store rose undone answers =
    let store_is : new.store ≡ installed (snapshot_of from) =
    store ∙ ap (λ (ds : List StoreCall). all_done old.store ds) (answers.0 ∙ ap (λ (c : StoreCall). c ∷ []) (snapshot-call old.store from))
    in
    let here : at new.store ≡ at from = ap (λ (s : StoreState). at s) store_is ∙ snapshot-end from in
    let image : SameImage new.store.image from.image = ap (λ (s : StoreState). s.image.pages) store_is ∙ snapshot-image from valid in
    inr (inl (ap (λ (p : Pos). Applied p) (answers.2 ∙ here), here, image))
frame-answered old new role from did failed (Held which) tree may valid not_primary store rose undone answers = inl (held-back old new which did answers store undone)
frame-answered old new role from did failed (Refused NotReplica) tree may valid not_primary store rose undone answers = absurd (not_primary answers)
frame-answered old new role from did failed (Refused BadFile) tree may valid not_primary store rose undone answers = absurd (answers may.sound)
frame-answered old new role from did failed (Refused Limit) tree may valid not_primary store rose undone answers = absurd (answers may.sound.header.commit)
frame-answered old new role from did failed (Refused NotNext) tree may valid not_primary store rose undone answers = absurd (answers.0 (snapshot-first from))
frame-answered old new role from did failed (Refused PageSize) tree may valid not_primary store rose undone answers = absurd (answers.0 (snapshot-first from))
frame-answered old new role from did failed (Refused SumDiffers) tree may valid not_primary store rose undone answers = absurd (answers.0 (snapshot-first from))
frame-answered old new role from did failed (Refused Disk) tree may valid not_primary store rose undone answers = inr (inr (inl (refl, rose answers)))
frame-answered old new role from did failed (Refused Broken) tree may valid not_primary store rose undone answers = inr (inr (inr (inl (refl, answers))))
frame-answered old new role from did failed (Refused NoMemory) tree may valid not_primary store rose undone answers = inr (inr (inr (inr refl)))
frame-answered old new role from did failed Done tree may valid not_primary store rose undone answers = absurd (answers.1.0 (snapshot-first from))
frame-answered old new role from did failed other tree may valid not_primary store rose undone answers = absurd answers

pub snapshot_installs-of : SnapshotInstalls
snapshot_installs-of w v k from answer safe valid turn not_primary =
    frame-answered (w.nodes k) (v.nodes k) turn.facts.role from turn.facts.did turn.facts.failed answer w.tree (safe.sent (snapshot_of from) turn.along.comes) valid (λ primary. not_primary (sym turn.facts.role_is ∙ primary)) turn.facts.store
    turn.facts.rose turn.facts.refused turn.facts.answers

-- a store at transaction 0 is blank: a file of a log is at one at least
nothing-at_0 : (tree : List Lineage) (store : StoreState) → IsAllowed tree store → (at store).txid ≡ 0 → (at store ≡ nowhere) × (store.image.pages ≡ [])
nothing-at_0 tree store allowed none =
    let line : Lineage = allowed.named.lineage in
    let nothing : line ≡ [] = at_nothing line (ap (λ (p : Pos). p.txid) allowed.named.position_is ∙ none) in (
      sym allowed.named.position_is ∙ ap position_of nothing ∙ position_of-nothing,
      sym allowed.named.image_is ∙ ap (λ (l : Lineage). (image_of l).pages) nothing ∙ ap (λ (i : DatabaseImage). i.pages) image_of-nothing,
    )

drop-answered : (old new : NodeState) (role : Role) (did : List StoreCall) (failed : Option Failure) (answer : Answer) (tree : List Lineage) → IsAllowed tree old.store →
    role ≢ Primary → new.store ≡ all_done old.store did → (IsSome failed → Rose old.faults new.faults) → LeavesUndone answer did → AnswersDrop old role did failed answer new →
    IsHeldBack old new answer
    ⊎ ((answer ≡ Applied nowhere) × (at new.store ≡ nowhere) × (new.store.image.pages ≡ []))
    ⊎ IsFreeRefusal old new answer
drop-answered old new role did failed (Applied position) tree allowed not_primary store rose undone answers = elim answers.0 [
  | inl there ↦
      let store_is : new.store ≡ dropped_store = store ∙ ap (λ (ds : List StoreCall). all_done old.store ds) there.1 in
      inr (inl (ap (λ (p : Pos). Applied p) answers.2, ap (λ (s : StoreState). at s) store_is ∙ end_of-none, ap (λ (s : StoreState). s.image.pages) store_is))
  | inr none ↦
      let store_is : new.store ≡ old.store = store ∙ ap (λ (ds : List StoreCall). all_done old.store ds) none.1 in
      let nothing = nothing-at_0 tree old.store allowed none.0 in
      inr (inl (ap (λ (p : Pos). Applied p) answers.2, ap (λ (s : StoreState). at s) store_is ∙ nothing.0, ap (λ (s : StoreState). s.image.pages) store_is ∙ nothing.1))
]
drop-answered old new role did failed (Held which) tree allowed not_primary store rose undone answers = inl (held-back old new which did answers store undone)
drop-answered old new role did failed (Refused NotReplica) tree allowed not_primary store rose undone answers = absurd (not_primary answers)
drop-answered old new role did failed (Refused Disk) tree allowed not_primary store rose undone answers = inr (inr (inl (refl, rose answers)))
drop-answered old new role did failed (Refused Broken) tree allowed not_primary store rose undone answers = inr (inr (inr (inl (refl, answers))))
drop-answered old new role did failed other tree allowed not_primary store rose undone answers = absurd answers

pub drop_installs-of : DropInstalls
drop_installs-of w v k answer safe turn not_primary =
    drop-answered (w.nodes k) (v.nodes k) turn.facts.role turn.facts.did turn.facts.failed answer w.tree (safe.nodes k).allowed (λ primary. not_primary (sym turn.facts.role_is ∙ primary)) turn.facts.store
    turn.facts.rose turn.facts.refused turn.facts.answers

-- what a store whose position is named asks of a file of the tree that follows it
joins-of_tree : (w : World) (k : ℕ) (file : Ltx) → IsSafe w → OneImagePerPosition w.tree → IsSendable w.tree file → before file ≡ at (w.nodes k).store →
    Joins (w.nodes k).store.image (at (w.nodes k).store) file
joins-of_tree w k file safe one may follows =
    let store : StoreState = (w.nodes k).store in
    let allowed = (safe.nodes k).allowed in
    let of = may.of_tree in
    let image : SameImage (image_of of.from) store.image =
    one of.from allowed.named.lineage of.from_stands allowed.named.stands (of.from_at ∙ follows ∙ sym allowed.named.position_is) ∙ allowed.named.image_is
    in
    record {
      next = follows;
      fits = fits-of store.image file.change allowed.image (subst (λ (pages : List (List ℕ)). Suits pages file.change) image of.suits);
      sum = ap image_sum (sym (apply-same (image_of of.from) store.image file.change image)) ∙ of.sum;
    }

called-end : (old : StoreState) (file : Ltx) (first : Bool) → at (done old (cond first (Install file) (Apply (completed_over old file)))) ≡ after file
called-end old file true = end_of-one file
called-end old file false = end_of-push old.log (completed_over old file)

-- a file leads on from where it begins
leads-on : (file : Ltx) → IsFile file → before file ≡ after file → ⊥
leads-on file is same = let txid : file.header.min - 1 ≡ file.header.max = ap (λ (p : Pos). p.txid) same in omega (arith, txid, is.header.min, is.header.max)

sent-answered : (old new : NodeState) (role : Role) (file : Ltx) (did : List StoreCall) (failed : Option Failure) (answer : Answer) → (tree : List Lineage) →
    IsSendable tree file → role ≢ Primary → Joins old.store.image (at old.store) file → new.store ≡ all_done old.store did → (IsSome failed → Rose old.faults new.faults) → LeavesUndone answer did →
    AnswersFrame old role file did failed answer new →
    IsHeldBack old new answer
    ⊎ ((answer ≡ Applied (after file)) × (at new.store ≡ after file))
    ⊎ IsFreeRefusal old new answer
sent-answered old new role file did failed (Applied position) tree may not_primary joins store rose undone answers =
    let here : at new.store ≡ after file =
    ap (λ (s : StoreState). at s) (store ∙ ap (λ (ds : List StoreCall). all_done old.store ds) answers.0) ∙ called-end old.store file (eqb file.header.min 1)
    in
    inr (inl (ap (λ (p : Pos). Applied p) (answers.2 ∙ here), here))
sent-answered old new role file did failed (Held which) tree may not_primary joins store rose undone answers = inl (held-back old new which did answers store undone)
sent-answered old new role file did failed (Refused NotReplica) tree may not_primary joins store rose undone answers = absurd (not_primary answers)
sent-answered old new role file did failed (Refused BadFile) tree may not_primary joins store rose undone answers = absurd (answers may.sound)
sent-answered old new role file did failed (Refused Limit) tree may not_primary joins store rose undone answers = absurd (answers may.sound.header.commit)
sent-answered old new role file did failed (Refused NotNext) tree may not_primary joins store rose undone answers = absurd (answers.1 joins.next)
sent-answered old new role file did failed (Refused PageSize) tree may not_primary joins store rose undone answers = absurd (answers.1 joins.fits)
sent-answered old new role file did failed (Refused SumDiffers) tree may not_primary joins store rose undone answers = absurd (answers.1 joins.sum)
sent-answered old new role file did failed (Refused Disk) tree may not_primary joins store rose undone answers = inr (inr (inl (refl, rose answers)))
sent-answered old new role file did failed (Refused Broken) tree may not_primary joins store rose undone answers = inr (inr (inr (inl (refl, answers))))
sent-answered old new role file did failed (Refused NoMemory) tree may not_primary joins store rose undone answers = inr (inr (inr (inr refl)))
sent-answered old new role file did failed Done tree may not_primary joins store rose undone answers = absurd (leads-on file may.sound (joins.next ∙ sym answers.1.1))
sent-answered old new role file did failed other tree may not_primary joins store rose undone answers = absurd answers

pub sent_file_applies-of : SentFileApplies
sent_file_applies-of w v k file answer safe one turn not_primary follows =
    let may : IsSendable w.tree file = safe.sent file turn.along.comes in
    sent-answered (w.nodes k) (v.nodes k) turn.facts.role file turn.facts.did turn.facts.failed answer w.tree may (λ primary. not_primary (sym turn.facts.role_is ∙ primary)) (joins-of_tree w k file safe one may follows) turn.facts.store
    turn.facts.rose turn.facts.refused turn.facts.answers
