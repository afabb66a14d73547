-- A store as a node's words see it: its fields, and the disk's history beside them.
use Rattle.std.specs.Prelude.{◌≡◌, ◌≤◌, false, IsTrue, [], Option, Some, None, if◌then◌else◌}
use Rattle.lf_base.specs.declared.errno.Errno.{Errno}
use Rattle.lf_disk.specs.declared.disk.Disk.{Ghosts}
use Rattle.lf_disk.specs.History.{History, Rests}
use Rattle.lf_sqlite_pages.specs.Image.{DatabaseImage}
use Rattle.txn_log.specs.declared.store.Store.{Store}
use Rattle.txn_log.specs.declared.entry.Attempt.TheVariants.{Unpublished}
pub use Rattle.txn_log.specs.Fields.{StoreFields, fields_of, history_of, state, failed, position}

module _ {D : Type 0} {G : Ghosts D} where
  -- what the system said at its disk's call that failed last
  abbrev pub said_of : Store D G → Option Errno
  said_of s = G.error s.disk

-- the committed image, where the disk tells it
abbrev pub told : History → StoreFields → Option DatabaseImage
told h s = if s.honest then Some (state h s).image else None

-- of no store
abbrev pub no_fields : StoreFields
no_fields = record {
  honest = false;
  faults = 0;
  page_size = 0;
  commit = 0;
  entries = [];
  sums = [];
  wal = false;
  dropped = false;
  broken = false;
  refused = 0;
  whole = 0;
  attempt = Unpublished;
  tried = 0;
}

-- the disk was read at most
abbrev pub OnlyRead : History → History → Type 0
OnlyRead start end = ∥ Rests start end ∥₁

-- pages of the store were read, and nothing else was done: only its disk's count of faults may have risen, and, where it is
-- broken, the count of reads that were refused
pub record IsRead (start : History) (old : StoreFields) (end : History) (new : StoreFields) : Type 0 where
  pub rests : OnlyRead start end
  pub same : new ≡ record old { faults = new.faults; refused = new.refused }
  pub faults : old.faults ≤ new.faults
  pub refused : old.broken ≡ false → new.refused ≡ old.refused
  pub state : IsTrue old.honest → state end new ≡ state start old
  pub failed : IsTrue old.honest → failed end new ≡ failed start old
