-- What was sent is given up, or applied; and the end of a session.
use Rattle.std.proofs.Common.{◌≡◌, ◌∙◌, ℕ, ◌<◌, Bool, true, false, IsTrue, [], ◌∷◌, Option, None, Some, Result, Ok, Err, inr, refl, sym, ap, subst}
use Rattle.std.specs.Prelude.{◌≢◌, if◌then◌else◌}
use Rattle.byte_locks.specs.LockList.{IsLockList}
use Rattle.lf_base.specs.declared.errno.Errno.{Errno}
use Rattle.lf_base.specs.Faults.{Rose}
use Rattle.lf_base.specs.declared.pos.Pos.{Pos}
use Rattle.lf_disk.specs.History.{History}
use Rattle.lf_sqlite_pages.specs.Apply.{apply}
use Rattle.lf_sqlite_pages.specs.Complete.{completed}
use Rattle.lf_sqlite_pages.specs.Image.{DatabaseImage}
use Rattle.lf_sqlite_pages.specs.PageSize.{IsPageSize}
use Rattle.lf_sqlite_pages.proofs.Completing.{apply-complete}
use Rattle.ltx_codec.specs.Positions.{after}
use Rattle.ltx_codec.specs.declared.file.Ltx.{Ltx}
use Rattle.file_view.specs.declared.view.Role.TheVariants as role
use Rattle.file_view.specs.DatabaseState.{HeldWrite}
use Rattle.file_view.specs.Endings.{abandoned, committed, ended}
use Rattle.file_view.specs.Errno.{EIO}
use Rattle.file_view.specs.Overlay.{FitsImage, IsOverImage}
use Rattle.file_view.specs.Served.{Served, waits}
use Rattle.file_view.specs.Sound.{IsSound}
use Rattle.txn_log.specs.declared.fault.StoreFault.{StoreFault}
use Rattle.txn_log.specs.declared.fault.StoreFault.TheVariants as fault
use Rattle.txn_log.specs.Apply.{whole_file}
use Rattle.txn_log.specs.Calls.{RestsAs, Went}
use Rattle.txn_log.specs.Store.{meant}
use Rattle.txn_log.proofs.PagesRead.{count}
use Rattle.world_laws.specs.Answers.{Answers, LeavesUndone, completed_over}
use Rattle.world_laws.specs.Node as laws
use Rattle.world_laws.specs.Node.{IsPlain, IsSoundNode}
use Rattle.world_laws.specs.Served.{ShareForReading}
use Rattle.world_laws.specs.Step.{Makes, finishes}
use Rattle.world_laws.specs.Store.{Apply, MayBeFound, StoreState, at}
use Rattle.node_core.specs.declared.answer.Answer.TheVariants as answers
use Rattle.node_core.specs.declared.ask.Ask.TheVariants as asks
use Rattle.node_core.specs.declared.sent.Sent.{Sent}
use Rattle.node_core.specs.Calls.{Changes}
use Rattle.node_core.specs.Forwarding.{Accepts}
use Rattle.node_core.specs.Nodes.{NodeParts, file_over, role_in, seen}
use Rattle.node_core.specs.Replying.{AnswersSent, GivesUp, IsDue, finished, given_up, without_session}
use Rattle.node_core.specs.Safely.{StepsSafely}
use Rattle.node_core.specs.Steps.{IsStep, ended_in}
use Rattle.node_core.specs.Stores.{StoreFields, failed, position, state}
use Rattle.node_core.specs.Waiting.{file_sent, has_sent}
use Rattle.node_core.proofs.Answering.{none-sent}
use Rattle.node_core.proofs.Asking.{called}
use Rattle.node_core.proofs.Calls.{changes, err-same, no_failure}
use Rattle.node_core.proofs.Committed.{committed-fits, committed-locks, committed-name, committed-over}
use Rattle.node_core.proofs.Endings.{ended-file, ended-locked, ended-over, ended-writer}
use Rattle.node_core.proofs.Facts.{ok_err, says-none}
use Rattle.node_core.proofs.Following.{took-fits, took-over}
use Rattle.node_core.proofs.Forwarded.{accept-whole}
use Rattle.node_core.proofs.OneAsk.{role-as, told-as}
use Rattle.node_core.proofs.Reading.{read_none, rests_stay}
use Rattle.node_core.proofs.Refusing.{ran-undone}
use Rattle.node_core.proofs.Sound.{is-replica, sound}
use Rattle.node_core.proofs.Steady.{steady-files, steps-still}
use Rattle.node_core.proofs.Waiting.{applied-waits, committed-idle}

-- files of which the request that waited was given up stand where they stood
pub abandoned-fits : (s : Served) (page_size commit : ℕ) → FitsImage s page_size commit → FitsImage (abandoned s) page_size commit
abandoned-fits s page_size commit fits = record { fits = fits.fits; follows = fits.follows }

pub abandoned-over : (s : Served) (image : DatabaseImage) → IsOverImage s image → IsOverImage (abandoned s) image
abandoned-over s image over = record { differs = over.differs; agrees = over.agrees }

-- a request that is done leaves the files without a writer where there was none
committed-writer : (s : Served) → s.writer ≡ None → (committed s).writer ≡ None
committed-writer s alone = go s.held_write refl where
  go : (o : Option HeldWrite) → s.held_write ≡ o → (committed s).writer ≡ None
  go None none = rw none refl
  go (Some write) some = rw some alone

-- the files over the image that the file led to
module _ (s : Served) (page_size commit : ℕ) where
  pub finished-name : (over : Bool) → (finished over page_size commit s).name ≡ s.name
  finished-name false = committed-name s
  finished-name true = refl

  pub finished-locks : (over : Bool) → (finished over page_size commit s).locks ≡ s.locks
  finished-locks false = committed-locks s
  finished-locks true = refl

  pub finished-idle : IsSound s → (over : Bool) → waits (finished over page_size commit s) ≡ false
  finished-idle sound false = committed-idle s sound
  finished-idle sound true = applied-waits (abandoned s) page_size commit

  pub finished-writer : s.writer ≡ None → (over : Bool) → (finished over page_size commit s).writer ≡ None
  finished-writer alone false = committed-writer s alone
  finished-writer alone true = refl

  pub finished-fits : (at : Pos) → (0 < commit → IsPageSize page_size) → (over : Bool) → (over ≡ false → FitsImage (committed s) page_size commit) →
      FitsImage (record (finished over page_size commit s) { position = at }) page_size commit
  finished-fits at sized false awaits = committed-fits s at page_size commit (awaits refl)
  finished-fits at sized true awaits = took-fits (abandoned s) at page_size commit sized

  pub finished-over : (at : Pos) (image : DatabaseImage) (over : Bool) → (over ≡ false → IsOverImage (committed s) image) → IsOverImage (record (finished over page_size commit s) { position = at }) image
  finished-over at image false awaits = committed-over s at image (awaits refl)
  finished-over at image true awaits = took-over (abandoned s) at page_size commit image

-- the file that is applied is made complete over the pages that the store counts
pub call-applied : (h : History) (s : StoreFields) (file : Ltx) → Apply (whole_file s.commit file) ≡ Apply (completed_over (state h s) file)
call-applied h s file = ap (λ (k : ℕ). Apply (record file { change = completed file.change k })) (sym (count s.page_size s.commit (h.seen (meant h s.broken s.whole))))

-- to the laws the node may apply what it sent
pub makes-finish : (h : History) (old : NodeParts) (sent : Sent) → old.sent ≡ Some sent
    → Makes (seen h old).store (seen h old).role (seen h old).waits (laws.Forwarded true) (Apply (completed_over (state h old.store) sent.file) ∷ [])
makes-finish h old sent is =
    subst (λ (waits : Option Ltx). Makes (seen h old).store (seen h old).role waits (laws.Forwarded true) (Apply (completed_over (state h old.store) sent.file) ∷ [])) (sym (ap file_sent is)) finishes

-- what it made of the store
pub apply-changes : (start end : History) (old new : StoreFields) (file : Ltx) (result : Result Pos StoreFault) → Accepts old file result
    → Went (state start old) (failed start old) start (Apply (completed_over (state start old) file)) result (state end new) (failed end new) end
    → Changes (state start old) (failed start old) (Apply (completed_over (state start old) file)) result (state end new) (failed end new)
apply-changes start end old new file result given went =
    changes (state start old) (state end new) (failed start old) (failed end new) start end (Apply (completed_over (state start old) file)) result
    (λ begun. no_failure start old.broken old.attempt old.tried (accept-whole old file result given begun)) went

-- a file that isn't applied leaves the store
pub apply-same : (start end : History) (old new : StoreFields) (file : Ltx) (why : StoreFault) → Accepts old file (Err why)
    → Went {T = Pos} (state start old) (failed start old) start (Apply (completed_over (state start old) file)) (Err why) (state end new) (failed end new) end → state end new ≡ state start old
apply-same start end old new file why given went =
    err-same Pos (state start old) (state end new) (failed start old) (failed end new) (Apply (completed_over (state start old) file)) why (apply-changes start end old new file (Err why) given went)

-- one that is leads to the image with its change
pub apply-image : (start end : History) (old new : StoreFields) (file : Ltx) (told : Pos) → Accepts old file (Ok told)
    → Went (state start old) (failed start old) start (Apply (completed_over (state start old) file)) (Ok told) (state end new) (failed end new) end
    → (state end new).image ≡ apply (state start old).image file.change
apply-image start end old new file told given went =
    ap (λ (s : StoreState). s.image) (apply-changes start end old new file (Ok told) given went).0 ∙ apply-complete (state start old).image file.change

some-none : {X : Type 0} (x : X) → Some x ≡ None → ⊥
some-none x same = cc

-- a node that sent something waits to the laws
pub not-plain : (h : History) (old : NodeParts) (sent : Sent) → old.sent ≡ Some sent → {A : Type 0} → IsPlain (seen h old) → A
not-plain h old sent is plain = absurd (some-none sent.file (sym (ap file_sent is) ∙ plain.waits))

abbrev Refused : StoreFault → Result Pos StoreFault
Refused why = Err why

module _ (h end : History) (old : NodeParts) (sent : Sent) (is : old.sent ≡ Some sent) (store : StoreFields) where
  -- what was sent is applied, and the node is where the file leads
  pub finish-safely : (files : Served) (told : Pos) → Went (state h old.store) (failed h old.store) h (Apply (completed_over (state h old.store) sent.file)) (Ok told) (state end store) (failed end store) end
      → IsSoundNode (seen end (record old { store = store; files = files; sent = None })) → at (state end store) ≡ after sent.file
      → StepsSafely (seen h old) (laws.Forwarded true) laws.Done (seen end (record old { store = store; files = files; sent = None })) h end
  finish-safely files told went sound there =
      let new : NodeParts = record old { store = store; files = files; sent = None } in
      called (seen h old) (seen end new) (laws.Forwarded true) laws.Done (Apply (completed_over (state h old.store) sent.file)) h end (makes-finish h old sent is) sound
      (λ plain still lock held. not-plain h old sent is plain) (Ok told) went (λ same. absurd (ok_err told fault.Disk same)) (λ did failure ran. ((sent.file, ap file_sent is, there), tt))

  -- or the store refused it, and the request is given up
  pub refuse-safely : (why : StoreFault) → Went {T = Pos} (state h old.store) (failed h old.store) h (Apply (completed_over (state h old.store) sent.file)) (Err why) (state end store) (failed end store) end
      → IsSoundNode (seen end (record old { store = store; files = abandoned old.files; sent = None })) → state end store ≡ state h old.store → (Refused why ≡ Refused fault.Disk → Rose old.store.faults store.faults)
      → StepsSafely (seen h old) (laws.Forwarded true) (laws.Refused laws.Other) (seen end (record old { store = store; files = abandoned old.files; sent = None })) h end
  refuse-safely why went sound still rose =
      let new : NodeParts = record old { store = store; files = abandoned old.files; sent = None } in
      let call = Apply (completed_over (state h old.store) sent.file) in
      called (seen h old) (seen end new) (laws.Forwarded true) (laws.Refused laws.Other) call h end (makes-finish h old sent is) sound
      (λ plain again lock held. not-plain h old sent is plain) {T = Pos} (Err why) went rose
      (λ did failure ran. ((λ none same. ((λ i. file_over old.files.database (still i).image), refl)), ran-undone Pos why call did failure ran))

module _ (h : History) (old : NodeParts) (rests : RestsAs (MayBeFound (state h old.store) (failed h old.store)) h) (over : IsOverImage old.files (state h old.store).image) (shares : ShareForReading old.files.locks)
    (replica : role_in old ≡ role.Replica → old.files.writer ≡ None) where
  -- what was sent is given up
  gives-up : (sent : Sent) → old.sent ≡ Some sent → (ok : Bool) (answer : laws.Answer) → Answers (seen h old) (seen h old).role (laws.Forwarded ok) [] None answer (seen h (given_up old)) → LeavesUndone answer []
      → StepsSafely (seen h old) (laws.Forwarded ok) answer (seen h (given_up old)) h h
  gives-up sent is ok answer says undone =
      steps-still (seen h old) (seen h (given_up old)) (laws.Forwarded ok) answer h h ∣ rests_stay h ∣₁ refl refl rests
      (says-none (seen h old) (seen h (given_up old)) (seen h old).role (laws.Forwarded ok) answer says undone (λ plain still. not-plain h old sent is plain)
      (sound h (given_up old) (abandoned-over old.files (state h old.store).image over) shares replica))

  pub refused-safely : (sent : Sent) → old.sent ≡ Some sent → (ok : Bool) → StepsSafely (seen h old) (laws.Forwarded ok) (laws.Refused laws.Other) (seen h (given_up old)) h h
  refused-safely sent is true = gives-up sent is true (laws.Refused laws.Other) (λ none same. (refl, refl)) refl
  refused-safely sent is false = gives-up sent is false (laws.Refused laws.Other) (λ none same. (refl, refl)) refl

  pub there-safely : (sent : Sent) → old.sent ≡ Some sent → at (state h old.store) ≡ after sent.file → StepsSafely (seen h old) (laws.Forwarded true) laws.Done (seen h (given_up old)) h h
  there-safely sent is there = gives-up sent is true laws.Done (sent.file, ap file_sent is, there) tt

  -- nothing was sent, and nothing is done
  pub unasked-safely : (ok : Bool) → StepsSafely (seen h old) (laws.Forwarded ok) (laws.Refused laws.Other) (seen h old) h h
  unasked-safely ok = go ok where
    nothing : (ok : Bool) → Answers (seen h old) (seen h old).role (laws.Forwarded ok) [] None (laws.Refused laws.Other) (seen h old) → StepsSafely (seen h old) (laws.Forwarded ok) (laws.Refused laws.Other) (seen h old) h h
    nothing ok says =
        steps-still (seen h old) (seen h old) (laws.Forwarded ok) (laws.Refused laws.Other) h h ∣ rests_stay h ∣₁ refl refl rests
        (says-none (seen h old) (seen h old) (seen h old).role (laws.Forwarded ok) (laws.Refused laws.Other) says refl (λ plain still. steady-files h h old old.store old.files refl refl refl)
        (sound h old over shares replica))

    go : (ok : Bool) → StepsSafely (seen h old) (laws.Forwarded ok) (laws.Refused laws.Other) (seen h old) h h
    go true = nothing true (λ none same. (refl, refl))
    go false = nothing false (λ none same. (refl, refl))

-- what was sent is given up, and the request is refused
module _ (h : History) (old : NodeParts) (sent : Sent) (said : Option Errno) where
  gives : GivesUp h old h (given_up old)
  gives = (refl, read_none h old.store)

  pub settles-apart : (IsDue old sent → ⊥) → position old.store ≢ after sent.file → AnswersSent true h old sent (answers.Refuse EIO) h (given_up old) said
  settles-apart other apart = inr (other, inr (apart, refl), gives)

  pub settles-not : AnswersSent false h old sent (answers.Refuse EIO) h (given_up old) said
  settles-not = (refl, gives)

-- a node that sent nothing has sent nothing of a session
unsent-has : (sent : Option Sent) (caller : ℕ) → sent ≡ None → has_sent sent caller ≡ true → ⊥
unsent-has sent caller none has = let no : false ≡ true = sym (ap (λ (o : Option Sent). has_sent o caller) none) ∙ has in cc

-- THE END OF A SESSION, with what was sent of it
module _ (h : History) (old : NodeParts) (rests : IsTrue old.store.honest → RestsAs (MayBeFound (state h old.store) (failed h old.store)) h)
    (over : IsTrue old.store.honest → IsOverImage old.files (state h old.store).image) (locked : IsLockList old.files.locks) (replica : role_in old ≡ role.Replica → old.files.writer ≡ None) (caller : ℕ) (said : Option Errno) where
  -- where nothing of it was sent, and where its commit was
  ended-safely : (b : Bool) → has_sent old.sent caller ≡ b → IsTrue old.store.honest
      → StepsSafely (seen h old) laws.EndSession laws.Done (seen h (ended_in caller (if b then given_up old else old))) h h
  ended-safely false none honest =
      let new : NodeParts = ended_in caller old in
      steps-still (seen h old) (seen h new) laws.EndSession laws.Done h h ∣ rests_stay h ∣₁ refl refl (rests honest)
      (says-none (seen h old) (seen h new) (seen h old).role laws.EndSession laws.Done tt tt
      (λ plain still. steady-files h h old old.store (ended old.files caller) refl (ended-file old.files caller (replica (is-replica (role_in old) plain.role))) refl)
      (sound h new (ended-over old.files caller (state h old.store).image (over honest)) (ended-locked old.files caller locked).together (λ not. ended-writer old.files caller (replica not))))
  ended-safely true some honest =
      let new : NodeParts = ended_in caller (given_up old) in
      let files : Served = abandoned old.files in
      steps-still (seen h old) (seen h new) laws.EndSession laws.Done h h ∣ rests_stay h ∣₁ refl refl (rests honest)
      (says-none (seen h old) (seen h new) (seen h old).role laws.EndSession laws.Done tt tt
      (λ plain still. absurd (unsent-has old.sent caller (none-sent old.sent plain.waits) some))
      (sound h new (ended-over files caller (state h old.store).image (abandoned-over old.files (state h old.store).image (over honest))) (ended-locked files caller locked).together
      (λ not. ended-writer files caller (replica not))))

  ended-by : (b : Bool) → has_sent old.sent caller ≡ b → IsStep h old caller asks.EndSession answers.Quiet h (ended_in caller (if b then given_up old else old)) said
  ended-by false is = record {
    does = record { quiet = refl; files = ap (λ (b : Bool). ended_in caller (if b then given_up old else old)) (sym is); rests = ∣ rests_stay h ∣₁ };
    safe = λ honest law of. told-as of (ended-safely false is honest);
    role = λ honest law of. role-as of (ended-safely false is honest) (λ r keeps. keeps);
    lease = (refl, refl);
    honest = refl;
  }
  ended-by true is = record {
    does = record { quiet = refl; files = ap (λ (b : Bool). ended_in caller (if b then given_up old else old)) (sym is); rests = ∣ rests_stay h ∣₁ };
    safe = λ honest law of. told-as of (ended-safely true is honest);
    role = λ honest law of. role-as of (ended-safely true is honest) (λ r keeps. keeps);
    lease = (refl, refl);
    honest = refl;
  }

  pub ends-session : IsStep h old caller asks.EndSession answers.Quiet h (ended_in caller (without_session caller old)) said
  ends-session = ended-by (has_sent old.sent caller) refl
