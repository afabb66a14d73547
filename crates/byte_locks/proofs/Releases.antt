-- A lock list without some of its entries is a lock list.
use Rattle.std.proofs.Common.{◌≡◌, Bool, cond, List, arith, subst, sym}
use Rattle.std.specs.List.{filter, All}
use Rattle.std.proofs.lemmas.List.Elements.{All-filter, All-weaker}
use Rattle.byte_locks.specs.declared.lock_entry.LockEntry.{LockEntry}
use Rattle.byte_locks.specs.LockId.{same_lock}
use Rattle.byte_locks.specs.LockEntry.{is_of, MayStandTogether}
use Rattle.byte_locks.specs.LockList.{IsLockList}
use Rattle.byte_locks.proofs.Counts.{sum_by-filter_le}

pub IsLockList-filter : (test : LockEntry → Bool) (entries : List LockEntry) → IsLockList entries → IsLockList (filter test entries)
IsLockList-filter test entries h = record {
  together =
      All-filter test (λ a. All (MayStandTogether a) (filter test entries)) entries
      (All-weaker (λ a. All (MayStandTogether a) entries) (λ a. All (MayStandTogether a) (filter test entries))
      (λ a all. All-filter test (MayStandTogether a) entries all) entries h.together);
  once = λ owner lock. omega (arith, h.once owner lock, sum_by-filter_le (λ e. cond (is_of owner lock e) 1 0) test entries);
  bounded = λ lock. omega (arith, h.bounded lock, sum_by-filter_le (λ e. cond (same_lock e.lock lock) 1 0) test entries);
}

-- the same of a list that a filter gave
pub IsLockList-from_filter : (test : LockEntry → Bool) (entries kept : List LockEntry) → IsLockList entries → kept ≡ filter test entries → IsLockList kept
IsLockList-from_filter test entries kept h e =
    subst IsLockList (sym e) (IsLockList-filter test entries h)
