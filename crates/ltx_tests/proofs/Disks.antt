-- Disks in memory on which nothing is pending.
use Rattle.std.proofs.Common.{◌≡◌, List, [], sym, subst}
use Rattle.lf_disk.specs.declared.name.FileName.TheVariants.{Staged}
use Rattle.lf_disk.specs.declared.record.Call.{Call}
use Rattle.lf_disk.specs.History.{IsSettledBut}
use Rattle.lf_disk.specs.MemDisk.{Recording, history_of}

-- before its first call
pub settled_first : (r : Recording) → r.calls ≡ [] → IsSettledBut Staged (history_of r)
settled_first r none = subst (λ (calls : List Call). IsSettledBut Staged (history_of (record r { calls = calls }))) (sym none) (λ c may n differs. may n)
