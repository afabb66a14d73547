-- The cause of a fault of the database file is that of the request.
use Rattle.std.proofs.Common.{◌≡◌, ◌∙◌, ℕ, List, Option, Some, refl, sym, ap, subst}
use Rattle.byte_locks.specs.declared.lock_bytes.FileKind.{FileKind}
use Rattle.byte_locks.specs.declared.lock_bytes.FileKind.TheVariants as kind
use Rattle.database_file.specs.Fault.{HasCause as HasFileCause}
use Rattle.database_file.specs.declared.fault.FileFault.{FileFault}
use Rattle.database_file.specs.declared.fault.FileFault.TheVariants as file
use Rattle.file_view.specs.declared.fault.ViewFault.{ViewFault}
use Rattle.file_view.specs.declared.fault.ViewFault.TheVariants as fault
use Rattle.file_view.specs.FileFaults.{IsFault}
use Rattle.file_view.specs.Needs.{Needs, Nothing, Pages, ReadsPages, TakesMemory, read_needs}
use Rattle.file_view.specs.Refusal.{Row, HasCause, HasReadCause}

pub read_cause : (rows : List Row) (before now : ℕ) (e : FileFault) (f : ViewFault) → HasFileCause before now e → IsFault e f → HasReadCause Pages rows before now f
read_cause rows before now file.Unread (fault.Errno number) h is = absurd is
read_cause rows before now file.Unread (fault.Page failed) h is = (tt, h)
read_cause rows before now file.Unread fault.NoMemory h is = absurd is
read_cause rows before now file.NoMemory (fault.Errno number) h is = absurd is
read_cause rows before now file.NoMemory (fault.Page failed) h is = absurd is
read_cause rows before now file.NoMemory fault.NoMemory h is = tt

-- so is a cause that needs no page
pub plain_cause : (needs : Needs) (rows : List Row) (before now : ℕ) (f : ViewFault) → HasCause needs rows f → HasReadCause needs rows before now f
plain_cause needs rows before now (fault.Errno number) h = h
plain_cause needs rows before now (fault.Page failed) h = absurd h
plain_cause needs rows before now fault.NoMemory h = h

-- and one that needs nothing, whatever is needed behind it
pub row_cause : (needs : Needs) (rows : List Row) (before now : ℕ) (f : ViewFault) → HasCause Nothing rows f → HasReadCause needs rows before now f
row_cause needs rows before now (fault.Errno number) h = h
row_cause needs rows before now (fault.Page failed) h = absurd h
row_cause needs rows before now fault.NoMemory h = absurd h

-- a READ reads pages of the database file alone, and takes memory for every file
reads : (o : Option FileKind) → o ≡ Some kind.Database → ReadsPages (read_needs o)
reads o is = subst (λ (x : Option FileKind). ReadsPages (read_needs x)) (sym is) tt

takes : (o : Option FileKind) (k : FileKind) → o ≡ Some k → TakesMemory (read_needs o)
takes o k is = subst (λ (x : Option FileKind). TakesMemory (read_needs x)) (sym is) (each k) where
  each : (k : FileKind) → TakesMemory (read_needs (Some k))
  each kind.Database = tt
  each kind.Journal = tt
  each kind.Wal = tt
  each kind.Shm = tt
  each kind.PosFile = tt
  each kind.LockFile = tt
  each kind.Primary = tt

pub reading_cause : (o : Option FileKind) (k : FileKind) (rows : List Row) (before now : ℕ) (e : FileFault) (f : ViewFault) → o ≡ Some k → HasFileCause before now e → (e ≡ file.Unread → k ≡ kind.Database) → IsFault e f
    → HasReadCause (read_needs o) rows before now f
reading_cause o k rows before now file.Unread (fault.Errno number) at h pages is = absurd is
reading_cause o k rows before now file.Unread (fault.Page failed) at h pages is = (reads o (at ∙ ap Some (pages refl)), h)
reading_cause o k rows before now file.Unread fault.NoMemory at h pages is = absurd is
reading_cause o k rows before now file.NoMemory (fault.Errno number) at h pages is = absurd is
reading_cause o k rows before now file.NoMemory (fault.Page failed) at h pages is = absurd is
reading_cause o k rows before now file.NoMemory fault.NoMemory at h pages is = takes o k at
