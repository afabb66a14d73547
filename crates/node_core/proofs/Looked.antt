-- Files of a store were read, and the log pruned.
use Rattle.std.proofs.Common.{◌≡◌, ◌∙◌, ℕ, List, [], None, Option, None, Result, length, refl, sym, ap, subst}
use Rattle.lf_base.specs.declared.pos.Pos.{Pos}
use Rattle.lf_disk.specs.History.{History}
use Rattle.file_view.specs.declared.view.Role.TheVariants as role
use Rattle.file_view.specs.Overlay.{IsOverImage}
use Rattle.txn_log.specs.declared.fault.StoreFault.{StoreFault}
use Rattle.txn_log.specs.Calls.{Went}
use Rattle.txn_log.specs.Causes.{Breaks}
use Rattle.txn_log.specs.Pruning.{Prunes}
use Rattle.txn_log.specs.Store.{IsStore}
use Rattle.world_laws.specs.declared.last_file.LastFile.{LastFile}
use Rattle.world_laws.specs.Answers.{AnswersHello, LeavesUndone}
use Rattle.world_laws.specs.Node as laws
use Rattle.world_laws.specs.Served.{ShareForReading}
use Rattle.world_laws.specs.Step.{Steady, prunes}
use Rattle.world_laws.specs.Store.{Failure, PruneTo, StoreCall, StoreState}
use Rattle.node_core.specs.Calls.{Changes}
use Rattle.node_core.specs.Nodes.{file_over, role_in, seen, NodeParts}
use Rattle.node_core.specs.Safely.{StepsSafely}
use Rattle.node_core.specs.Stores.{StoreFields, failed, position, state}
use Rattle.node_core.proofs.Asking.{Ran, called}
use Rattle.node_core.proofs.Calls.{changes, no_failure}
use Rattle.node_core.proofs.Dropped.{disk-rose}
use Rattle.node_core.proofs.Following.{prune-image, prune-whole}
use Rattle.node_core.proofs.Owing.{at-position}
use Rattle.node_core.proofs.Facts.{Says, leading, says-none}
use Rattle.node_core.proofs.Sound.{leads, sound}

-- all fields but the count of faults are as before
pub same-but-faults : (old new : StoreFields) → new.honest ≡ old.honest → new.page_size ≡ old.page_size → new.commit ≡ old.commit → new.entries ≡ old.entries → new.sums ≡ old.sums → new.wal ≡ old.wal
    → new.dropped ≡ old.dropped → new.broken ≡ old.broken → new.refused ≡ old.refused → new.whole ≡ old.whole → new.attempt ≡ old.attempt → new.tried ≡ old.tried → new ≡ record old { faults = new.faults }
same-but-faults old new honest page_size commit entries sums wal dropped broken refused whole attempt tried = λ i. record {
  honest = honest i;
  faults = new.faults;
  page_size = page_size i;
  commit = commit i;
  entries = entries i;
  sums = sums i;
  wal = wal i;
  dropped = dropped i;
  broken = broken i;
  refused = refused i;
  whole = whole i;
  attempt = attempt i;
  tried = tried i;
}

-- a primary whose store was read at most tells a follower this
module _ (start end : History) (old : NodeParts) (new : StoreFields) (same : state end new ≡ state start old.store) (primary : role_in old ≡ role.Primary) (over : IsOverImage old.files (state start old.store).image)
    (locks : ShareForReading old.files.locks) (replica : role_in old ≡ role.Replica → old.files.writer ≡ None) where
  pub looks-says : (from : Pos) (last : Option LastFile) (answer : laws.Answer) → AnswersHello (seen start old) (seen end (record old { store = new })) (seen start old).role from last answer → LeavesUndone answer []
      → Says (seen start old) (seen start old).role (laws.Hello from last) [] None answer (seen end (record old { store = new }))
  looks-says from last answer tells undone =
      says-none (seen start old) (seen end (record old { store = new })) (seen start old).role (laws.Hello from last) answer tells undone
      (leading (seen start old) (seen end (record old { store = new })) (leads (role_in old) primary))
      (sound end (record old { store = new }) (subst (λ (t : StoreState). IsOverImage old.files t.image) (sym same) over) locks replica)

module _ (start end : History) (old : NodeParts) (new : StoreFields) (keep : ℕ) (result : Result ℕ StoreFault) (answers : Prunes old.store.broken (length old.store.entries) keep result)
    (went : Went (state start old.store) (failed start old.store) start (PruneTo keep) result (state end new) (failed end new) end) where
  pub prune-changes : Changes (state start old.store) (failed start old.store) (PruneTo keep) result (state end new) (failed end new)
  prune-changes =
      changes (state start old.store) (state end new) (failed start old.store) (failed end new) start end (PruneTo keep) result
      (λ begun. no_failure start old.store.broken old.store.attempt old.store.tried (prune-whole old.store.broken (length old.store.entries) keep result answers begun)) went

  pub pruned-image : (state end new).image ≡ (state start old.store).image
  pruned-image = prune-image (state start old.store) (failed start old.store) keep result (state end new) (failed end new) prune-changes

  module _ (is : IsStore start old.store.page_size old.store.commit old.store.entries old.store.dropped old.store.sums old.store.broken old.store.whole old.store.tried)
      (again : IsStore end new.page_size new.commit new.entries new.dropped new.sums new.broken new.whole new.tried) (position_same : position new ≡ position old.store) where
    -- what a reader sees stays
    steady : Steady (seen start old) (seen end (record old { store = new }))
    steady = record {
      position = at-position end new again ∙ position_same ∙ sym (at-position start old.store is);
      image = pruned-image;
      file = ap (file_over old.files.database) pruned-image;
      frames = refl;
    }

    pub prunes-safely : (answer : laws.Answer) → IsOverImage old.files (state start old.store).image → ShareForReading old.files.locks → (role_in old ≡ role.Replica → old.files.writer ≡ None)
        → Breaks old.store.broken old.store.faults result new.broken new.faults
        → ((did : List StoreCall) (failure : Option Failure) → Ran result (PruneTo keep) did failure → LeavesUndone answer did)
        → StepsSafely (seen start old) (laws.Prune keep) answer (seen end (record old { store = new })) start end
    prunes-safely answer over locks replica cause undone =
        called (seen start old) (seen end (record old { store = new })) (laws.Prune keep) answer (PruneTo keep) start end prunes
        (sound end (record old { store = new }) (subst (λ i. IsOverImage old.files i) (sym pruned-image) over) locks replica)
        (λ plain still lock held. steady) result went (disk-rose old.store.broken new.broken old.store.faults new.faults result cause)
        (λ did failure ran. (tt, undone did failure ran))
