-- A database in the place of another: what was read of the store, and what it made of the change.
use Rattle.std.proofs.Common.{◌≡◌, ◌∙◌, ℕ, ◌<◌, ◌≤◌, false, true, Bool, IsTrue, List, [], ◌∷◌, None, Option, Some, Result, Ok, Err, inl, inr, refl, sym, ap, subst, arith}
use Rattle.std.proofs.lemmas.Bool.{cases_lt}
use Rattle.std.proofs.lemmas.List.FromFn.{length-map-range_with_len}
use Rattle.lf_base.specs.declared.pos.Pos.{Pos}
use Rattle.lf_disk.specs.History.{History}
use Rattle.lf_sqlite_pages.specs.Change.{FitsOver, PageChange}
use Rattle.lf_sqlite_pages.specs.LockPage.{IsWithinLimit}
use Rattle.lf_sqlite_pages.specs.PageSize.{IsPageSize}
use Rattle.database_file.specs.Commit.{LeadsTo, difference}
use Rattle.file_view.specs.declared.view.Role.TheVariants as role
use Rattle.file_view.specs.Overlay.{IsOverImage}
use Rattle.snapshot.specs.Bytes.{ImportsWith, count_in, image_of_bytes, size_in}
use Rattle.snapshot.specs.Causes.{ReadsWith}
use Rattle.snapshot.specs.declared.fault.ImportFault.{ImportFault}
use Rattle.snapshot.specs.declared.fault.ImportFault.TheVariants as import
use Rattle.txn_log.specs.declared.fault.StoreFault.{StoreFault}
use Rattle.txn_log.specs.declared.fault.StoreFault.TheVariants as fault
use Rattle.txn_log.specs.Calls.{RestsAs, Went}
use Rattle.txn_log.specs.Draft.{Commits, IsWithin}
use Rattle.txn_log.specs.Pages.{page_in}
use Rattle.world_laws.specs.Answers.{Answers, LeavesUndone}
use Rattle.world_laws.specs.Node as laws
use Rattle.world_laws.specs.Served.{ShareForReading}
use Rattle.world_laws.specs.Step.{Makes, imports}
use Rattle.world_laws.specs.Store.{Commit, Failure, MayBeFound, StoreState}
use Rattle.node_core.specs.declared.answer.Answer.{Answer}
use Rattle.node_core.specs.declared.answer.Answer.TheVariants as answers
use Rattle.node_core.specs.declared.refusal.Refusal.TheVariants as refusals
use Rattle.node_core.specs.Calls.{Changes}
use Rattle.node_core.specs.Committing.{file_of}
use Rattle.node_core.specs.Dropping.{IsFree}
use Rattle.node_core.specs.Errors.{refusal_of, refusal_of_import}
use Rattle.node_core.specs.Exporting.{RefusesExport}
use Rattle.node_core.specs.Importing.{AnswersChange, CommitsAlone, ComesOver, Imports, IsCompared, IsKept, IsNotImported, IsThere, RefusesImport, TakesImport}
use Rattle.node_core.specs.Nodes.{NodeParts, role_in, seen}
use Rattle.node_core.specs.Safely.{StepsSafely}
use Rattle.node_core.specs.Stores.{OnlyRead, StoreFields, failed, position, state}
use Rattle.node_core.proofs.Calls.{changes, commit-whole, no_failure}
use Rattle.node_core.proofs.Facts.{says-none}
use Rattle.node_core.proofs.Following.{page_size-most}
use Rattle.node_core.proofs.Lookups.{looked-sound}
use Rattle.node_core.proofs.Sound.{leads}
use Rattle.node_core.proofs.Steady.{steady-files, steps-still}

true_false : true ≡ false → ⊥
true_false same = cc

-- a step that read the store at most
pub looks-safely : (start end : History) (old : NodeParts) (new : StoreFields) (ask : laws.Ask) (answer : laws.Answer) → OnlyRead start end
    → state end new ≡ state start old.store → failed end new ≡ failed start old.store → RestsAs (MayBeFound (state end new) (failed end new)) end
    → IsOverImage old.files (state start old.store).image → ShareForReading old.files.locks → (role_in old ≡ role.Replica → old.files.writer ≡ None)
    → Answers (seen start old) (seen start old).role ask [] None answer (seen end (record old { store = new })) → LeavesUndone answer []
    → StepsSafely (seen start old) ask answer (seen end (record old { store = new })) start end
looks-safely start end old new ask answer read same was left over locks replica says undone =
    steps-still (seen start old) (seen end (record old { store = new })) ask answer start end read same was left
    (says-none (seen start old) (seen end (record old { store = new })) (seen start old).role ask answer says undone
    (λ plain still. steady-files start end old new old.files same refl refl) (looked-sound start end old new same over locks replica))

-- the bytes of a database that was written were not given
pub refuses-export : (old : StoreFields) (why : StoreFault) (new : StoreFields) → 1 ≤ (position old).txid → new ≡ record old { faults = new.faults }
    → ReadsWith {T = Unit {0}} old.broken old.faults new.faults (Err why) → RefusesExport old (refusal_of why) new
refuses-export old fault.Disk new some same cause = (some, cause.0, cause.1)
refuses-export old fault.Broken new some same cause = (some, cause.0, same ∙ ap (λ (k : ℕ). record old { faults = k }) cause.1)
refuses-export old fault.NoMemory new some same cause = (some, cause.0, same ∙ ap (λ (k : ℕ). record old { faults = k }) cause.1)
refuses-export old fault.Limit new some same cause = absurd cause
refuses-export old (fault.NotNext have want) new some same cause = absurd cause
refuses-export old (fault.SumDiffers want got) new some same cause = absurd cause
refuses-export old (fault.PageSize have want) new some same cause = absurd cause

-- the count of faults does not fall while the store is compared with bytes
pub compares-later : {T : Type 0} (bytes : List ℕ) (broken : Bool) (before now : ℕ) (result : Result T ImportFault) → ImportsWith bytes broken before now result → before ≤ now
compares-later bytes broken before now (Ok told) cause = omega (arith, cause.3)
compares-later bytes broken before now (Err import.NotDatabase) cause = omega (arith, cause.1)
compares-later bytes broken before now (Err import.Limit) cause = omega (arith, cause.2)
compares-later bytes broken before now (Err (import.Store failed)) (database, within, inl broke) = omega (arith, broke.1)
compares-later bytes broken before now (Err (import.Store failed)) (database, within, inr rose) = rose.1.0
compares-later bytes broken before now (Err import.NoMemory) cause = omega (arith, cause.3)

-- a primary may import
pub makes-import : (h : History) (old : NodeParts) (change : PageChange) → role_in old ≡ role.Primary
    → Makes (seen h old).store (seen h old).role (seen h old).waits laws.Import (Commit (file_of old change) ∷ [])
makes-import h old change primary =
    subst (λ (r : laws.Role). Makes (seen h old).store r (seen h old).waits laws.Import (Commit (file_of old change) ∷ [])) (sym (leads (role_in old) primary)) imports

-- a page size is no larger than the largest
pub sized-most : (size : ℕ) → (0 < size → IsPageSize size) → size ≤ 65536
sized-most size sized = elim (cases_lt 0 size) [
  | inl some ↦ page_size-most size (sized some)
  | inr none ↦ omega (arith, none)
]

-- what the commit made of the store
pub commit-changes : (start end : History) (old : NodeParts) (new : StoreFields) (change : PageChange) (result : Result Pos StoreFault)
    → Commits old.store.broken (position old.store) old.store.page_size old.store.commit old.store.sums change old.standing.moment old.config.node result
    → Went (state start old.store) (failed start old.store) start (Commit (file_of old change)) result (state end new) (failed end new) end
    → Changes (state start old.store) (failed start old.store) (Commit (file_of old change)) result (state end new) (failed end new)
commit-changes start end old new change result given went =
    let s = old.store in
    changes (state start s) (state end new) (failed start s) (failed end new) start end (Commit (file_of old change)) result
    (λ begun. no_failure start s.broken s.attempt s.tried
    (commit-whole s.broken (position s) s.page_size s.commit s.sums change old.standing.moment old.config.node result given begun)) went

-- the refusal of a change that the store didn't commit
pub refuses-change : (start : History) (old : NodeParts) (change : PageChange) (why : StoreFault) (end : History) (new : NodeParts) → IsKept start old change why end new
    → AnswersChange start old change (answers.Refused (refusal_of why)) end new
refuses-change start old change fault.Disk end new is = is
refuses-change start old change fault.Broken end new is = is
refuses-change start old change fault.Limit end new is = is
refuses-change start old change fault.NoMemory end new is = is
refuses-change start old change (fault.NotNext have want) end new is = is
refuses-change start old change (fault.SumDiffers want got) end new is = is
refuses-change start old change (fault.PageSize have want) end new is = is

-- of bytes that give no change
pub refuses-bytes : (start : History) (old : NodeParts) (bytes : List ℕ) (why : ImportFault) (end : History) (new : NodeParts) → IsCompared {T = Unit {0}} start old bytes (Err why) end new
    → RefusesImport start old bytes (refusal_of_import why) end new
refuses-bytes start old bytes import.NotDatabase end new is = is
refuses-bytes start old bytes import.Limit end new is = is
refuses-bytes start old bytes (import.Store failed) end new is = is
refuses-bytes start old bytes import.NoMemory end new is = inl is

-- the change that the bytes give is within the limit
change-fits : (start : History) (s : StoreFields) (bytes : List ℕ) (change : PageChange) → Imports start s bytes change → IsTrue s.honest → IsWithinLimit change.page_size change.commit
change-fits start s bytes change is honest =
    let count : (difference (state start s).image (image_of_bytes bytes)).commit ≡ count_in bytes = length-map-range_with_len (page_in (size_in bytes) bytes) 1 (count_in bytes) in
    subst (λ (c : PageChange). IsWithinLimit c.page_size c.commit) (sym (is.leads honest).1)
    (subst (λ (n : ℕ). IsWithinLimit (size_in bytes) n) (sym count) is.within)

-- so the store refuses it for its size at the last transaction alone
last-only : (start : History) (s : StoreFields) (bytes : List ℕ) (change : PageChange) → Imports start s bytes change → IsTrue s.honest → (IsWithin (position s) change → ⊥)
    → 18446744073709551615 ≤ (position s).txid
last-only start s bytes change is honest not = elim (cases_lt (position s).txid 18446744073709551615) [
  | inl less ↦ absurd (not record { next = omega (arith, less); size = change-fits start s bytes change is honest })
  | inr more ↦ omega (arith, more)
]

-- why it doesn't commit it
comes-over : (start : History) (old : NodeParts) (bytes : List ℕ) (change : PageChange) (why : StoreFault) → Imports start old.store bytes change
    → Commits old.store.broken (position old.store) old.store.page_size old.store.commit old.store.sums change old.standing.moment old.config.node (Err why)
    → IsTrue old.store.honest → ComesOver old.store why
comes-over start old bytes change fault.Disk is given honest = tt
comes-over start old bytes change fault.Broken is given honest = absurd (true_false (sym given ∙ is.whole))
comes-over start old bytes change fault.Limit is given honest = last-only start old.store bytes change is honest given.2
comes-over start old bytes change fault.NoMemory is given honest = tt
comes-over start old bytes change (fault.NotNext have want) is given honest = given
comes-over start old bytes change (fault.SumDiffers want got) is given honest = given
comes-over start old bytes change (fault.PageSize have want) is given honest = given.1 (is.fits honest)

-- the change that the bytes gave was answered
module _ (start : History) (old : NodeParts) (bytes : List ℕ) (change : PageChange) (free : IsFree old) (is : Imports start old.store bytes change) (end : History) (new : NodeParts) where
  not-imported : (why : StoreFault) → IsKept start old change why end new → IsNotImported start old bytes why end new
  not-imported why kept = record {
    free = free;
    change = change;
    imports = is;
    comes = comes-over start old bytes change why is kept.store.answers;
    kept = kept;
  }

  pub takes-change : (answer : Answer) → AnswersChange start old change answer end new → TakesImport start old bytes answer end new
  takes-change (answers.Applied told) done = record { free = free; change = change; imports = is; done = done }
  takes-change (answers.Refused (refusals.Store fault.Disk)) kept = not-imported fault.Disk kept
  takes-change (answers.Refused (refusals.Store fault.Broken)) kept = not-imported fault.Broken kept
  takes-change (answers.Refused (refusals.Store fault.Limit)) kept = not-imported fault.Limit kept
  takes-change (answers.Refused (refusals.Store fault.NoMemory)) kept = absurd kept
  takes-change (answers.Refused (refusals.Store (fault.NotNext have want))) kept = not-imported (fault.NotNext have want) kept
  takes-change (answers.Refused (refusals.Store (fault.SumDiffers want got))) kept = not-imported (fault.SumDiffers want got) kept
  takes-change (answers.Refused (refusals.Store (fault.PageSize have want))) kept = not-imported (fault.PageSize have want) kept
  takes-change (answers.Refused refusals.NoMemory) kept = inr (not-imported fault.NoMemory kept)
  takes-change (answers.Refused refusals.NotPrimary) never = absurd never
  takes-change (answers.Refused refusals.NotReplica) never = absurd never
  takes-change (answers.Refused (refusals.Ltx why)) never = absurd never
  takes-change (answers.Refused (refusals.Import why)) never = absurd never
  takes-change (answers.Refused refusals.Absent) never = absurd never
  takes-change (answers.Refused (refusals.Halt why)) never = absurd never
  takes-change (answers.Done reply) never = absurd never
  takes-change answers.Quiet never = absurd never
  takes-change (answers.Pass pass) never = absurd never
  takes-change (answers.Send number ltx) never = absurd never
  takes-change (answers.Refuse number) never = absurd never
  takes-change (answers.At here) never = absurd never
  takes-change (answers.Level here) never = absurd never
  takes-change (answers.Item ltx to) never = absurd never
  takes-change answers.Gone never = absurd never
  takes-change (answers.Same here) never = absurd never
  takes-change (answers.Held lock) never = absurd never
  takes-change (answers.Pruned count) never = absurd never
  takes-change (answers.Bytes bytes) never = absurd never
  takes-change (answers.Info info) never = absurd never
  takes-change (answers.Watched info files) never = absurd never

-- what the store made of the change, from before it was read
module _ (start mid : History) (old : NodeParts) (same : IsTrue old.store.honest → state mid old.store ≡ state start old.store)
    (was : IsTrue old.store.honest → failed mid old.store ≡ failed start old.store) (change : PageChange) (end : History) where
  commits-since : (result : Result Pos StoreFault) (new : StoreFields) → CommitsAlone mid old change result end new → CommitsAlone start old change result end new
  commits-since result new c = record {
    answers = c.answers;
    cause = c.cause;
    store = λ honest.
        subst (λ (f : Option Failure). Changes (state start old.store) f (Commit (file_of old change)) result (state end new) (failed end new)) (was honest)
        (subst (λ (s : StoreState). Changes s (failed mid old.store) (Commit (file_of old change)) result (state end new) (failed end new)) (same honest) (c.store honest));
    honest = c.honest;
  }

  kept-since : (why : StoreFault) (new : NodeParts) → IsKept mid old change why end new → IsKept start old change why end new
  kept-since why new k = record { store = commits-since (Err why) new.store k.store; shape = k.shape; same = k.same }

  pub change-since : (answer : Answer) (new : NodeParts) → AnswersChange mid old change answer end new → AnswersChange start old change answer end new
  change-since (answers.Applied told) new done = record { store = commits-since (Ok told) new.store done.store; shape = done.shape; same = done.same }
  change-since (answers.Refused (refusals.Store fault.Disk)) new kept = kept-since fault.Disk new kept
  change-since (answers.Refused (refusals.Store fault.Broken)) new kept = kept-since fault.Broken new kept
  change-since (answers.Refused (refusals.Store fault.Limit)) new kept = kept-since fault.Limit new kept
  change-since (answers.Refused (refusals.Store fault.NoMemory)) new kept = absurd kept
  change-since (answers.Refused (refusals.Store (fault.NotNext have want))) new kept = kept-since (fault.NotNext have want) new kept
  change-since (answers.Refused (refusals.Store (fault.SumDiffers want got))) new kept = kept-since (fault.SumDiffers want got) new kept
  change-since (answers.Refused (refusals.Store (fault.PageSize have want))) new kept = kept-since (fault.PageSize have want) new kept
  change-since (answers.Refused refusals.NoMemory) new kept = kept-since fault.NoMemory new kept
  change-since (answers.Refused refusals.NotPrimary) new never = absurd never
  change-since (answers.Refused refusals.NotReplica) new never = absurd never
  change-since (answers.Refused (refusals.Ltx why)) new never = absurd never
  change-since (answers.Refused (refusals.Import why)) new never = absurd never
  change-since (answers.Refused refusals.Absent) new never = absurd never
  change-since (answers.Refused (refusals.Halt why)) new never = absurd never
  change-since (answers.Done reply) new never = absurd never
  change-since answers.Quiet new never = absurd never
  change-since (answers.Pass pass) new never = absurd never
  change-since (answers.Send number ltx) new never = absurd never
  change-since (answers.Refuse number) new never = absurd never
  change-since (answers.At here) new never = absurd never
  change-since (answers.Level here) new never = absurd never
  change-since (answers.Item ltx to) new never = absurd never
  change-since answers.Gone new never = absurd never
  change-since (answers.Same here) new never = absurd never
  change-since (answers.Held lock) new never = absurd never
  change-since (answers.Pruned count) new never = absurd never
  change-since (answers.Bytes bytes) new never = absurd never
  change-since (answers.Info info) new never = absurd never
  change-since (answers.Watched info files) new never = absurd never

-- the store was compared with bytes
module _ (start mid : History) (old : NodeParts) (new : StoreFields) (bytes : List ℕ) (free : IsFree old) (same : new ≡ record old.store { faults = new.faults })
    (alike : IsTrue old.store.honest → state mid new ≡ state start old.store) (was : IsTrue old.store.honest → failed mid new ≡ failed start old.store) (read : OnlyRead start mid) where
  pub compared : {T : Type 0} (result : Result T ImportFault) → ImportsWith bytes old.store.broken old.store.faults new.faults result → IsCompared start old bytes result mid (record old { store = new })
  compared result cause = record {
    free = free;
    cause = cause;
    read = record { same = same; faults = compares-later bytes old.store.broken old.store.faults new.faults result cause; state = alike; failed = was };
    same = refl;
    rests = read;
  }

  module _ {T : Type 0} (told : T) (cause : ImportsWith bytes old.store.broken old.store.faults new.faults (Ok told)) where
    -- nothing is changed
    pub as-it-was : new ≡ old.store
    as-it-was = same ∙ ap (λ (k : ℕ). record old.store { faults = k }) cause.3

    pub is-there : (IsTrue old.store.honest → LeadsTo (state start old.store).image (image_of_bytes bytes) None) → IsThere start old bytes mid (record old { store = new })
    is-there leads = record {
      compared = compared {T = Unit {0}} (Ok tt) cause;
      leads = leads;
      same = ap (λ (s : StoreFields). record old { store = s }) as-it-was;
    }

    pub imports-by : (change : PageChange) → (IsTrue old.store.honest → LeadsTo (state start old.store).image (image_of_bytes bytes) (Some change))
        → (IsTrue old.store.honest → FitsOver old.store.page_size old.store.commit change) → Imports start old.store bytes change
    imports-by change leads fits = record { whole = cause.2; database = cause.0; within = cause.1; leads = leads; fits = fits }
