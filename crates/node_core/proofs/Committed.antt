-- A request whose change is committed, or refused by the store.
use Rattle.std.proofs.Common.{◌≡◌, ◌∙◌, ℕ, ◌≤◌, Bool, true, false, IsTrue, IsSome, List, Option, None, Some, Result, Ok, Err, inl, inr, refl, sym, ap, subst, arith}
use Rattle.lf_base.specs.declared.pos.Pos.{Pos}
use Rattle.lf_base.specs.Faults.{Rose}
use Rattle.lf_disk.specs.History.{History}
use Rattle.lf_sqlite_pages.specs.Apply.{apply}
use Rattle.lf_sqlite_pages.specs.Change.{FitsOver, PageChange}
use Rattle.lf_sqlite_pages.specs.Complete.{completed}
use Rattle.lf_sqlite_pages.specs.Image.{DatabaseImage}
use Rattle.lf_sqlite_pages.proofs.Completing.{apply-complete}
use Rattle.file_view.specs.DatabaseState.{HeldWrite}
use Rattle.file_view.specs.Endings.{committed}
use Rattle.file_view.specs.Overlay.{FitsImage, IsOverImage}
use Rattle.file_view.specs.Served.{Served}
use Rattle.txn_log.specs.declared.entry.Attempt.{Attempt}
use Rattle.txn_log.specs.declared.fault.StoreFault.{StoreFault}
use Rattle.txn_log.specs.declared.fault.StoreFault.TheVariants as fault
use Rattle.txn_log.specs.Calls.{WentPruned}
use Rattle.txn_log.specs.Causes.{BreaksPruned}
use Rattle.txn_log.specs.Draft.{Commits, drafted}
use Rattle.txn_log.specs.Store.{failed_of, meant}
use Rattle.txn_log.proofs.PagesRead.{count}
use Rattle.world_laws.specs.Node as laws
use Rattle.world_laws.specs.Node.{IsSoundNode}
use Rattle.world_laws.specs.Step.{commits, commits_and_prunes}
use Rattle.world_laws.specs.Store.{Commit, Failure, StoreState}
use Rattle.node_core.specs.Calls.{ChangesAndPrunes}
use Rattle.node_core.specs.Committing.{BreaksBy, Comes, CommitsStore, file_of, kept_files}
use Rattle.node_core.specs.Nodes.{NodeParts, seen}
use Rattle.node_core.specs.Safely.{StepsSafely}
use Rattle.node_core.specs.Stores.{IsRead, StoreFields, failed, position, state}
use Rattle.node_core.proofs.Calls.{Begins, changes-pruned, commit-whole, no_failure}
use Rattle.node_core.proofs.Facts.{answer_for, calls-pruned}

true_false : true ≡ false → ⊥
true_false same = cc

none_some : IsSome {T = Failure} None → ⊥
none_some some = let e : false ≡ true = some in cc

-- a count that rose from a later one rose from an earlier one
pub rose-on : (before mid now : ℕ) → before ≤ mid → Rose mid now → Rose before now
rose-on before mid now early rose = (omega (arith, early, rose.0), omega (arith, early, rose.1))

-- a failure is there only where the store is broken
failed-broken : (h : History) (broken : Bool) (attempt : Attempt) (tried : ℕ) → IsSome (failed_of h broken attempt tried) → broken ≡ true
failed-broken h true attempt tried some = refl
failed-broken h false attempt tried some = absurd (none_some some)

-- what the store becomes broken by, over the fields before pages were read
pub breaks-by : (old mid new : StoreFields) (result : Result Pos StoreFault) → mid.broken ≡ old.broken → old.faults ≤ mid.faults → BreaksPruned mid.broken mid.faults result new.broken new.faults
    → BreaksBy result old new × (old.faults ≤ new.faults)
breaks-by old mid new (Ok told) same early (inl stays) = (inl (stays.0 ∙ same), omega (arith, early, stays.1))
breaks-by old mid new (Ok told) same early (inr breaks) = (inr (breaks.0, rose-on old.faults mid.faults new.faults early breaks.1), omega (arith, early, breaks.1.0))
breaks-by old mid new (Err fault.Disk) same early breaks = ((breaks.0, rose-on old.faults mid.faults new.faults early breaks.1), omega (arith, early, breaks.1.0))
breaks-by old mid new (Err fault.Broken) same early stays = (stays.0 ∙ same, omega (arith, early, stays.1))
breaks-by old mid new (Err fault.Limit) same early stays = (stays.0 ∙ same, omega (arith, early, stays.1))
breaks-by old mid new (Err fault.NoMemory) same early stays = (stays.0 ∙ same, omega (arith, early, stays.1))
breaks-by old mid new (Err (fault.NotNext have want)) same early stays = (stays.0 ∙ same, omega (arith, early, stays.1))
breaks-by old mid new (Err (fault.SumDiffers want got)) same early stays = (stays.0 ∙ same, omega (arith, early, stays.1))
breaks-by old mid new (Err (fault.PageSize have want)) same early stays = (stays.0 ∙ same, omega (arith, early, stays.1))

-- the store broke in this step, so the count rose in it
rises : (h : History) (old new : StoreFields) (result : Result Pos StoreFault) → old.broken ≡ false → BreaksBy result old new → IsSome (failed h new) → Rose old.faults new.faults
rises h old new (Ok told) open_ (inl stays) some = absurd (true_false (sym (failed-broken h new.broken new.attempt new.tried some) ∙ stays ∙ open_))
rises h old new (Ok told) open_ (inr breaks) some = breaks.1
rises h old new (Err fault.Disk) open_ breaks some = breaks.1
rises h old new (Err fault.Broken) open_ stays some = absurd (true_false (sym (failed-broken h new.broken new.attempt new.tried some) ∙ stays ∙ open_))
rises h old new (Err fault.Limit) open_ stays some = absurd (true_false (sym (failed-broken h new.broken new.attempt new.tried some) ∙ stays ∙ open_))
rises h old new (Err fault.NoMemory) open_ stays some = absurd (true_false (sym (failed-broken h new.broken new.attempt new.tried some) ∙ stays ∙ open_))
rises h old new (Err (fault.NotNext have want)) open_ stays some = absurd (true_false (sym (failed-broken h new.broken new.attempt new.tried some) ∙ stays ∙ open_))
rises h old new (Err (fault.SumDiffers want got)) open_ stays some = absurd (true_false (sym (failed-broken h new.broken new.attempt new.tried some) ∙ stays ∙ open_))
rises h old new (Err (fault.PageSize have want)) open_ stays some = absurd (true_false (sym (failed-broken h new.broken new.attempt new.tried some) ∙ stays ∙ open_))

disk-rises : (old new : StoreFields) (result : Result Pos StoreFault) → BreaksBy result old new → result ≡ Err fault.Disk → Rose old.faults new.faults
disk-rises old new result breaks same = (subst (λ (r : Result Pos StoreFault). BreaksBy r old new) same breaks).1

-- THE COMMIT: pages were read, and then the store was asked
module _ (start mid end : History) (old : NodeParts) (between new : StoreFields) (change : PageChange) (result : Result Pos StoreFault) (read : IsRead start old.store mid between) where
  answers-old : Commits between.broken (position between) between.page_size between.commit between.sums change old.standing.moment old.config.node result
      → Commits old.store.broken (position old.store) old.store.page_size old.store.commit old.store.sums change old.standing.moment old.config.node result
  answers-old answers = subst (λ (s : StoreFields). Commits s.broken (position s) s.page_size s.commit s.sums change old.standing.moment old.config.node result) read.same answers

  module _ (answers : Commits between.broken (position between) between.page_size between.commit between.sums change old.standing.moment old.config.node result)
      (went : IsTrue between.honest → WentPruned (state mid between) (failed mid between) mid (Commit (drafted (position between) between.commit between.sums change old.standing.moment old.config.node)) (kept_files old.config) result
      (state end new) (failed end new) end)
      (cause : BreaksPruned between.broken between.faults result new.broken new.faults) (honest_stays : new.honest ≡ between.honest) where
    breaks : BreaksBy result old.store new × (old.store.faults ≤ new.faults)
    breaks = breaks-by old.store between new result (ap (λ (s : StoreFields). s.broken) read.same) read.faults cause

    -- the call, as one on the store before pages were read
    went-old : IsTrue old.store.honest → WentPruned (state start old.store) (failed start old.store) mid (Commit (file_of old change)) (kept_files old.config) result (state end new) (failed end new) end
    went-old honest =
        let honest_is : between.honest ≡ old.store.honest = ap (λ (s : StoreFields). s.honest) read.same in
        subst (λ (f : Option Failure). WentPruned (state start old.store) f mid (Commit (file_of old change)) (kept_files old.config) result (state end new) (failed end new) end) (read.failed honest)
        (subst (λ (s : StoreState). WentPruned s (failed mid between) mid (Commit (file_of old change)) (kept_files old.config) result (state end new) (failed end new) end) (read.state honest)
        (subst (λ (s : StoreFields). WentPruned (state mid between) (failed mid between) mid (Commit (drafted (position s) s.commit s.sums change old.standing.moment old.config.node)) (kept_files old.config) result
        (state end new) (failed end new) end) read.same (went (honest_is ∙ honest))))

    whole : Begins result → failed start old.store ≡ None
    whole begun =
        no_failure start old.store.broken old.store.attempt old.store.tried
        (commit-whole old.store.broken (position old.store) old.store.page_size old.store.commit old.store.sums change old.standing.moment old.config.node result (answers-old answers) begun)

    pub store-changes : IsTrue old.store.honest → ChangesAndPrunes (state start old.store) (failed start old.store) (Commit (file_of old change)) (kept_files old.config) result (state end new) (failed end new)
    store-changes honest =
        changes-pruned (state start old.store) (state end new) (failed start old.store) (failed end new) mid end (Commit (file_of old change)) (kept_files old.config) result whole (went-old honest)

    pub commits-store : CommitsStore start old change result end new
    commits-store = record {
      answers = answers-old answers;
      cause = breaks.0;
      faults = breaks.1;
      store = store-changes;
      honest = honest_stays ∙ ap (λ (s : StoreFields). s.honest) read.same;
    }

    pub commits-safely : (files : Served) → IsTrue old.store.honest → (seen start old).role ≡ laws.Primary → IsSoundNode (seen end (record old { store = new; files = files }))
        → StepsSafely (seen start old) laws.File (answer_for result) (seen end (record old { store = new; files = files })) start end
    commits-safely files honest primary sound =
        calls-pruned (seen start old) (seen end (record old { store = new; files = files })) start mid end read.rests primary sound (Commit (file_of old change)) commits (kept_files old.config) commits_and_prunes
        result (went-old honest)
        (λ begun some. rises end old.store new result
        (commit-whole old.store.broken (position old.store) old.store.page_size old.store.commit old.store.sums change old.standing.moment old.config.node result (answers-old answers) begun) breaks.0 some)
        (disk-rises old.store new result breaks.0)

-- the image that a commit leads to
module _ (h : History) (old : NodeParts) (change : PageChange) (told : Pos) where
  abbrev image : DatabaseImage
  image = (state h old.store).image

  complete-same : apply image (completed change old.store.commit) ≡ apply image change
  complete-same =
      ap (λ (k : ℕ). apply image (completed change k)) (sym (count old.store.page_size old.store.commit (h.seen (meant h old.store.broken old.store.whole))))
      ∙ apply-complete image change

  pub image-after : (new : StoreState) (now : Option Failure) → ChangesAndPrunes {T = Pos} (state h old.store) (failed h old.store) (Commit (file_of old change)) (kept_files old.config) (Ok told) new now
      → new.image ≡ apply image change
  image-after new now (inl all) = ap (λ (s : StoreState). s.image) all.0 ∙ complete-same
  image-after new now (inr one) = ap (λ (s : StoreState). s.image) one.0 ∙ complete-same

-- a request that is done keeps the locks
pub committed-locks : (s : Served) → (committed s).locks ≡ s.locks
committed-locks s = go s.held_write refl where
  go : (o : Option HeldWrite) → s.held_write ≡ o → (committed s).locks ≡ s.locks
  go None none = rw none refl
  go (Some write) some = rw some refl

-- and its database keeps its name
pub committed-name : (s : Served) → (committed s).name ≡ s.name
committed-name s = go s.held_write refl where
  go : (o : Option HeldWrite) → s.held_write ≡ o → (committed s).name ≡ s.name
  go None none = rw none refl
  go (Some write) some = rw some refl

-- the files of a request that is done, with the new position
pub committed-fits : (s : Served) (at : Pos) (page_size commit : ℕ) → FitsImage (committed s) page_size commit → FitsImage (record (committed s) { position = at }) page_size commit
committed-fits s at page_size commit fits = record { fits = fits.fits; follows = fits.follows }

pub committed-over : (s : Served) (at : Pos) (i : DatabaseImage) → IsOverImage (committed s) i → IsOverImage (record (committed s) { position = at }) i
committed-over s at i over = record { differs = over.differs; agrees = over.agrees }

-- a change that fits is refused for one of four reasons
pub comes : (broken : Bool) (at : Pos) (size commit : ℕ) (sums : List ℕ) (change : PageChange) (stamp node : ℕ) (why : StoreFault) → Commits broken at size commit sums change stamp node (Err why) → FitsOver size commit change → Comes why
comes broken at size commit sums change stamp node fault.Disk answers fits = tt
comes broken at size commit sums change stamp node fault.Broken answers fits = tt
comes broken at size commit sums change stamp node fault.Limit answers fits = tt
comes broken at size commit sums change stamp node fault.NoMemory answers fits = tt
comes broken at size commit sums change stamp node (fault.NotNext have want) answers fits = answers
comes broken at size commit sums change stamp node (fault.SumDiffers want got) answers fits = answers
comes broken at size commit sums change stamp node (fault.PageSize have want) answers fits = answers.1 fits
