-- The database file is unlinked.
use Rattle.std.proofs.Common.{◌≡◌, ℕ, Bool, List, [], ◌∷◌, Some, None, Result, Err, refl, subst, arith, ◌<◌}
use Rattle.std.specs.Prelude.{is_some}
use Rattle.lf_base.specs.declared.pos.Pos.{Pos}
use Rattle.lf_base.specs.Faults.{Rose}
use Rattle.lf_disk.specs.History.{History}
use Rattle.lf_sqlite_pages.specs.Image.{DatabaseImage}
use Rattle.file_view.specs.declared.view.Role.{Role}
use Rattle.file_view.specs.declared.view.Role.TheVariants as role
use Rattle.file_view.specs.Endings.{applied, first_blocking}
use Rattle.file_view.specs.Errno.{EAGAIN, EPERM, EROFS}
use Rattle.file_view.specs.Overlay.{FitsImage, IsOverImage}
use Rattle.file_view.specs.Refusal.{IsAllowed, Row, first_refusal}
use Rattle.file_view.specs.Roles.{is_replica}
use Rattle.file_view.specs.Served.{Served}
use Rattle.txn_log.specs.declared.fault.StoreFault.{StoreFault}
use Rattle.txn_log.specs.declared.fault.StoreFault.TheVariants as fault
use Rattle.txn_log.specs.Calls.{Went}
use Rattle.txn_log.specs.Causes.{Breaks}
use Rattle.txn_log.specs.Dropping.{DropsAll}
use Rattle.world_laws.specs.Store.{DropAll}
use Rattle.node_core.specs.Calls.{Changes}
use Rattle.node_core.specs.Nodes.{NodeParts, role_in}
use Rattle.node_core.specs.Roles.{is_halted, permit_out}
use Rattle.node_core.specs.Stores.{StoreFields, failed, state}
use Rattle.node_core.specs.Unlinking.{unlink_rows}
use Rattle.node_core.proofs.Calls.{changes, drop-whole, no_failure}
use Rattle.node_core.proofs.Endings.{applied-fits, applied-over}

-- the files of no database
pub dropped-fits : (s : Served) (at : Pos) → FitsImage (record (applied s 0 0) { position = at }) 0 0
dropped-fits s at =
    let fits = applied-fits s 0 0 (λ some. absurd (less some)) in
    record { fits = fits.fits; follows = fits.follows }
  where
    less : 0 < 0 → ⊥
    less some = omega (arith, some)

pub dropped-over : (s : Served) (at : Pos) (image : DatabaseImage) → IsOverImage (record (applied s 0 0) { position = at }) image
dropped-over s at image =
    let over = applied-over s 0 0 image in
    record { differs = over.differs; agrees = over.agrees }

-- only a primary is allowed to
leads-by : (r : Role) (rows : List Row) → first_refusal ((is_replica r, EROFS) ∷ (is_halted r, EPERM) ∷ rows) ≡ None → r ≡ role.Primary
leads-by role.Primary rows allowed = refl
leads-by role.Replica rows allowed = absurd (let no : Some EROFS ≡ None = allowed in cc)
leads-by role.Halted rows allowed = absurd (let no : Some EPERM ≡ None = allowed in cc)

pub leads-allowed : (n : NodeParts) → IsAllowed (unlink_rows n) → role_in n ≡ role.Primary
leads-allowed n allowed = leads-by (role_in n) ((is_some (permit_out n.standing), EAGAIN) ∷ (is_some (first_blocking n.files n.store.wal), EAGAIN) ∷ []) allowed

-- what the drop made of the store
pub drop-changes : (start end : History) (old new : StoreFields) {T : Type 0} (result : Result T StoreFault) → DropsAll old.broken result
    → Went (state start old) (failed start old) start DropAll result (state end new) (failed end new) end → Changes (state start old) (failed start old) DropAll result (state end new) (failed end new)
drop-changes start end old new result answers went =
    changes (state start old) (state end new) (failed start old) (failed end new) start end DropAll result
    (λ begun. no_failure start old.broken old.attempt old.tried (drop-whole old.broken result answers begun)) went

-- where the disk failed its count rose
pub disk-rose : {T : Type 0} (was broken : Bool) (before now : ℕ) (result : Result T StoreFault) → Breaks was before result broken now → result ≡ Err fault.Disk → Rose before now
disk-rose {T = T} was broken before now result cause same = (subst (λ (r : Result T StoreFault). Breaks {T = T} was before r broken now) same cause).1
