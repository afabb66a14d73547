-- A replica that follows: its role, and the locks that hold a frame back.
use Rattle.std.proofs.Common.{◌≡◌, ◌≢◌, ℕ, ◌<◌, ◌≤◌, true, false, Bool, Some, None, Option, Result, Ok, Err, inl, inr, refl, sym, ap, subst, arith}
use Rattle.std.proofs.lemmas.Bool.Decides.{nat_tests}
use Rattle.std.specs.List.{Contains}
use Rattle.byte_locks.specs.declared.lock_id.LockId.{LockId}
use Rattle.lf_base.specs.declared.pos.Pos.{Pos}
use Rattle.lf_sqlite_pages.specs.Header.{image_is_wal}
use Rattle.lf_sqlite_pages.specs.Image.{DatabaseImage}
use Rattle.lf_sqlite_pages.specs.PageSize.{IsPageSize, is_page_size}
use Rattle.ltx_codec.specs.Positions.{after}
use Rattle.ltx_codec.specs.declared.file.Ltx.{Ltx}
use Rattle.file_view.specs.declared.view.Role.{Role}
use Rattle.file_view.specs.declared.view.Role.TheVariants as role
use Rattle.file_view.specs.Endings.{applied, first_blocking}
use Rattle.file_view.specs.Overlay.{FitsImage, IsOverImage}
use Rattle.file_view.specs.Served.{Served}
use Rattle.txn_log.specs.declared.fault.StoreFault.{StoreFault}
use Rattle.txn_log.specs.declared.fault.StoreFault.TheVariants as fault
use Rattle.txn_log.specs.Calls.{Went}
use Rattle.txn_log.specs.Pruning.{Prunes}
use Rattle.lf_disk.specs.History.{History}
use Rattle.world_laws.specs.Answers.{call_of}
use Rattle.world_laws.specs.Node as laws
use Rattle.byte_locks.specs.ModeLocks.{blocking_locks}
use Rattle.world_laws.specs.Served.{HoldsBack}
use Rattle.world_laws.specs.Store.{Failure, PruneTo, StoreState}
use Rattle.node_core.specs.Calls.{Changes}
use Rattle.node_core.specs.Nodes.{served_over}
use Rattle.node_core.specs.Roles.{law_role}
use Rattle.node_core.specs.Framing.{Takes}
use Rattle.node_core.specs.Stores.{StoreFields, failed, state}
use Rattle.node_core.proofs.Calls.{Begins, changes, err-same, no_failure}
use Rattle.node_core.proofs.Endings.{applied-fits, applied-over}
use Rattle.node_core.proofs.Locks.{held-back, none-held}

-- what is no primary is none to the laws
pub not-primary : (r : Role) → r ≢ role.Primary → law_role r ≡ laws.Primary → ⊥
not-primary role.Primary not same = not refl
not-primary role.Replica not same = cc
not-primary role.Halted not same = cc

module _ (s : Served) (wal : Bool) (image : DatabaseImage) (mode : wal ≡ image_is_wal image) (which : LockId) where
  -- the lock that was found holds frames back
  pub holds-back : first_blocking s wal ≡ Some which → HoldsBack (served_over s image) image which
  holds-back some =
      let held = held-back s wal which some in
      (subst (λ (b : Bool). Contains (blocking_locks b) which) mode held.0, held.1)

  -- where none was found none does
  pub free : first_blocking s wal ≡ None → HoldsBack (served_over s image) image which → ⊥
  free none held = none-held s wal which none (subst (λ (b : Bool). Contains (blocking_locks b) which) (sym mode) held.0, held.1)

-- the largest page
pub page_size-most : (size : ℕ) → IsPageSize size → size ≤ 65536
unfolding is_page_size
page_size-most size is = grind (arith, nat_tests)

-- the files after another image, with its position
pub took-fits : (s : Served) (at : Pos) (page_size commit : ℕ) → (0 < commit → IsPageSize page_size) → FitsImage (record (applied s page_size commit) { position = at }) page_size commit
took-fits s at page_size commit sized =
    let fits = applied-fits s page_size commit sized in
    record { fits = fits.fits; follows = fits.follows }

pub took-over : (s : Served) (at : Pos) (page_size commit : ℕ) (image : DatabaseImage) → IsOverImage (record (applied s page_size commit) { position = at }) image
took-over s at page_size commit image =
    let over = applied-over s page_size commit image in
    record { differs = over.differs; agrees = over.agrees }

-- a prune leaves the image
pub prune-image : {T : Type 0} (old : StoreState) (was : Option Failure) (keep : ℕ) (result : Result T StoreFault) (new : StoreState) (now : Option Failure) → Changes {T = T} old was (PruneTo keep) result new now
    → new.image ≡ old.image
prune-image old was keep (Ok told) new now changes = ap (λ (t : StoreState). t.image) changes.0
prune-image {T = T} old was keep (Err why) new now changes = ap (λ (t : StoreState). t.image) (err-same T old new was now (PruneTo keep) why changes)

-- and is begun only on a store that is whole
pub prune-whole : (broken : Bool) (count keep : ℕ) (result : Result ℕ StoreFault) → Prunes broken count keep result → Begins result → broken ≡ false
prune-whole broken count keep (Ok told) answers begun = answers.0
prune-whole broken count keep (Err fault.Disk) answers begun = answers
prune-whole broken count keep (Err fault.Broken) answers begun = absurd begun
prune-whole broken count keep (Err fault.Limit) answers begun = absurd begun
prune-whole broken count keep (Err fault.NoMemory) answers begun = absurd begun
prune-whole broken count keep (Err (fault.NotNext have want)) answers begun = absurd begun
prune-whole broken count keep (Err (fault.SumDiffers want got)) answers begun = absurd begun
prune-whole broken count keep (Err (fault.PageSize have want)) answers begun = absurd begun

-- a file is taken only by a store that is whole
pub take-whole : (s : StoreFields) (file : Ltx) (result : Result Pos StoreFault) → Takes s file result → Begins result → s.broken ≡ false
take-whole s file (Ok told) (inl takes) begun = takes.1.0
take-whole s file (Ok told) (inr takes) begun = takes.1.0
take-whole s file (Err fault.Disk) (inl takes) begun = takes.1
take-whole s file (Err fault.Disk) (inr takes) begun = takes.1.0
take-whole s file (Err fault.Broken) takes begun = absurd begun
take-whole s file (Err fault.Limit) takes begun = absurd begun
take-whole s file (Err fault.NoMemory) takes begun = absurd begun
take-whole s file (Err (fault.NotNext have want)) takes begun = absurd begun
take-whole s file (Err (fault.SumDiffers want got)) takes begun = absurd begun
take-whole s file (Err (fault.PageSize have want)) takes begun = absurd begun

-- and what it answers is where the file leads
pub take-told : (s : StoreFields) (file : Ltx) (told : Pos) → Takes s file (Ok told) → told ≡ after file
take-told s file told (inl takes) = takes.1.1
take-told s file told (inr takes) = takes.1.2

-- what a file made of the store
pub take-changes : (start end : History) (old new : StoreFields) (file : Ltx) (result : Result Pos StoreFault) → Takes old file result
    → Went (state start old) (failed start old) start (call_of (state start old) file) result (state end new) (failed end new) end
    → Changes (state start old) (failed start old) (call_of (state start old) file) result (state end new) (failed end new)
take-changes start end old new file result takes went =
    changes (state start old) (state end new) (failed start old) (failed end new) start end (call_of (state start old) file) result
    (λ begun. no_failure start old.broken old.attempt old.tried (take-whole old file result takes begun)) went

-- a file that is not taken leaves it
pub take-same : (start end : History) (old new : StoreFields) (file : Ltx) (why : StoreFault) → Takes old file (Err why)
    → Went {T = Pos} (state start old) (failed start old) start (call_of (state start old) file) (Err why) (state end new) (failed end new) end → state end new ≡ state start old
take-same start end old new file why takes went =
    err-same Pos (state start old) (state end new) (failed start old) (failed end new) (call_of (state start old) file) why (take-changes start end old new file (Err why) takes went)
