-- A store that was looked into.
use Rattle.std.specs.Prelude.{◌≡◌, IsTrue}
use Rattle.lf_disk.specs.History.{History, Rests}
use Rattle.txn_log.specs.Fields.{StoreFields, failed, state}

-- its disk was read, and nothing else was done: only the disk's count of faults may have risen
pub record IsLookedAt (start : History) (old : StoreFields) (end : History) (new : StoreFields) : Type 0 where
  pub rests : Rests start end
  pub same : new ≡ record old { faults = new.faults }
  pub state : IsTrue old.honest → state end new ≡ state start old
  pub failed : IsTrue old.honest → failed end new ≡ failed start old
