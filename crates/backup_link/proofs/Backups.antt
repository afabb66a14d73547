-- A backup that is opened, fetched, settled and restored.
use Rattle.std.proofs.Common.{◌≡◌, inl, inr, ℕ, List, Result, Ok, Err, refl, sym, ◌∙◌, subst}
use Rattle.lf_base.specs.Faults.{Rose}
use Rattle.lf_base.specs.declared.pos.Pos.{Pos}
use Rattle.lf_disk.specs.History.{History, now}
use Rattle.http_exchange.specs.Exchange.{FaultsBy}
use Rattle.ltx_backup.specs.Causes.{AllStay, Counts, HasCauses, IsCause, OneRose}
use Rattle.ltx_backup.specs.Entries.{IsKept}
use Rattle.ltx_backup.specs.Levels.{Levels, Holds, chain, end_of}
use Rattle.ltx_backup.specs.Settling.{HasSettled, HoldsSettled, KeepsSettled}
use Rattle.ltx_backup.specs.declared.entry.Index.{Index}
use Rattle.ltx_backup.specs.declared.fault.BackupFault.{BackupFault}
use Rattle.ltx_backup.specs.declared.fault.BackupFault.TheVariants as fault
use Rattle.ltx_backup.proofs.Holding.{kept_holds}
use Rattle.ltx_codec.specs.Positions.{nowhere}
use Rattle.ltx_codec.specs.declared.file.Ltx.{Ltx}
use Rattle.backup_link.specs.BackingUp.{Comes, EndsAs, HasEnded}
use Rattle.backup_link.specs.Endings.{of_backup, of_network}
use Rattle.backup_link.specs.Keeping.{ButForDisk, KeepsAdded, Shelf, all_added}
use Rattle.backup_link.specs.declared.unfetched.Unfetched.{Unfetched}
use Rattle.backup_link.specs.declared.unfetched.Unfetched.TheVariants as unfetched

-- ---- counts of faults

stays_on : (a b c : Counts) → AllStay a b → AllStay b c → AllStay a c
stays_on a b c first next = record { low = next.low ∙ first.low; middle = next.middle ∙ first.middle; high = next.high ∙ first.high }

rose_on : (a b c : Counts) → AllStay a b → OneRose b c → OneRose a c
rose_on a b c first (inl low) = inl (subst (λ (n : ℕ). Rose n c.low) first.low low)
rose_on a b c first (inr (inl middle)) = inr (inl (subst (λ (n : ℕ). Rose n c.middle) first.middle middle))
rose_on a b c first (inr (inr high)) = inr (inr (subst (λ (n : ℕ). Rose n c.high) first.high high))

cause_on : (a b c : Counts) (why : BackupFault) → AllStay a b → IsCause b c why → IsCause a c why
cause_on a b c fault.Disk first next = rose_on a b c first next
cause_on a b c fault.Broken first next = stays_on a b c first next
cause_on a b c (fault.NotNext have want) first next = stays_on a b c first next
cause_on a b c (fault.NoSuchTxid txid last) first next = stays_on a b c first next
cause_on a b c (fault.SumDiffers want got) first next = stays_on a b c first next
cause_on a b c (fault.Damaged level min max) first next = stays_on a b c first next
cause_on a b c fault.NoMemory first next = stays_on a b c first next

pub causes_on : {T : Type 0} (a b c : Counts) (r : Result T BackupFault) → AllStay a b → HasCauses b c r → HasCauses a c r
causes_on a b c (Ok x) first next = stays_on a b c first next
causes_on a b c (Err why) first next = cause_on a b c why first next

-- ---- disks

-- what disks hold, the same disks hold
pub holds_at : {D : Type 0} (history : D → History) (levels : Levels) (a b c x y z : D) → x ≡ a → y ≡ b → z ≡ c → Holds levels (now (history a)) (now (history b)) (now (history c))
    → Holds levels (now (history x)) (now (history y)) (now (history z))
holds_at {D} history levels a b c x y z low middle high holds =
    subst (λ (d : D). Holds levels (now (history d)) (now (history y)) (now (history z))) (sym low)
    (subst (λ (d : D). Holds levels (now (history a)) (now (history d)) (now (history z))) (sym middle)
    (subst (λ (d : D). Holds levels (now (history a)) (now (history b)) (now (history d))) (sym high) holds))

-- what disks come to, the same disks come to
pub comes_at : {D : Type 0} (history : D → History) (levels : Levels) (fetched : Result (Unit {0}) Unfetched) (a b c x y z : D) (result : Result Pos Unfetched)
    → x ≡ a → y ≡ b → z ≡ c → Comes levels fetched (history a) (history b) (history c) result → Comes levels fetched (history x) (history y) (history z) result
comes_at {D} history levels fetched a b c x y z result low middle high comes =
    subst (λ (d : D). Comes levels fetched (history d) (history y) (history z) result) (sym low)
    (subst (λ (d : D). Comes levels fetched (history a) (history d) (history z) result) (sym middle)
    (subst (λ (d : D). Comes levels fetched (history a) (history b) (history d) result) (sym high) comes))

-- ---- settling

settled_holds : (count : ℕ) (levels : Levels) (index : Index) (low middle high : History) → KeepsSettled count levels index low middle high → HoldsSettled levels (now low) (now middle) (now high)
settled_holds count levels index low middle high k = record {
  count = count;
  levels = k.levels;
  settles = k.settles;
  holds = kept_holds k.levels index low middle high k.kept;
}

pub settled_ends : (levels : Levels) (count : ℕ) (end : Pos) (index : Index) (low middle high : History) → HasSettled levels (Ok count) index low middle high
    → end ≡ end_of nowhere (chain levels) → HasEnded levels low middle high (Ok end)
unfolding settled_holds
settled_ends levels count end index low middle high s is = (is, record { settled = settled_holds count levels index low middle high s.0; all = s.1 })

pub unsettled_ends : (levels : Levels) (why : BackupFault) (index : Index) (low middle high : History) → HasSettled levels (Err why) index low middle high
    → HasEnded levels low middle high (Err (unfetched.Backup why))
unsettled_ends levels fault.Disk index low middle high s = tt
unsettled_ends levels fault.Broken index low middle high s = settled_holds s.0 levels index low middle high s.1
unsettled_ends levels (fault.NotNext have want) index low middle high s = settled_holds s.0 levels index low middle high s.1
unsettled_ends levels (fault.NoSuchTxid txid last) index low middle high s = settled_holds s.0 levels index low middle high s.1
unsettled_ends levels (fault.SumDiffers want got) index low middle high s = settled_holds s.0 levels index low middle high s.1
unsettled_ends levels (fault.Damaged level min max) index low middle high s = settled_holds s.0 levels index low middle high s.1
unsettled_ends levels fault.NoMemory index low middle high s = settled_holds s.0 levels index low middle high s.1

-- a backup that settling ended had no fault of the network
pub ends_without_network : (result : Result Pos Unfetched) → EndsAs (Ok tt) result → of_network result ≡ Ok tt
ends_without_network (Ok end) e = refl
ends_without_network (Err (unfetched.Backup why)) e = refl
ends_without_network (Err (unfetched.Untold why)) e = absurd e
ends_without_network (Err unfetched.Reply) e = absurd e
ends_without_network (Err unfetched.Dropped) e = absurd e

-- ---- fetching

-- the count of a dialer by how fetching ended is that by how all ended
pub faults_as : (before now : ℕ) (fetched : Result (Unit {0}) Unfetched) (result : Result Pos Unfetched) → EndsAs fetched result → FaultsBy before now (of_network fetched)
    → FaultsBy before now (of_network result)
faults_as before now (Ok done) result e f = subst (λ (r : Result (Unit {0}) _). FaultsBy before now r) (sym (ends_without_network result e)) f
faults_as before now (Err (unfetched.Untold why)) result e f = subst (λ (r : Result Pos Unfetched). FaultsBy before now (of_network r)) (sym e) f
faults_as before now (Err unfetched.Reply) result e f = subst (λ (r : Result Pos Unfetched). FaultsBy before now (of_network r)) (sym e) f
faults_as before now (Err unfetched.Dropped) result e f = subst (λ (r : Result Pos Unfetched). FaultsBy before now (of_network r)) (sym e) f
faults_as before now (Err (unfetched.Backup why)) result e f = subst (λ (r : Result Pos Unfetched). FaultsBy before now (of_network r)) (sym e) f

-- what a fetch that didn't end well leaves
pub comes_unfetched : (why : Unfetched) (honest : Type 0) (old new : Shelf) (files : List Ltx) (levels : Levels) (result : Result Pos Unfetched)
    → ButForDisk (of_backup {T = Unit {0}} (Err why)) (KeepsAdded honest old new files) → honest → IsKept levels old.index old.low old.middle old.high
    → Comes (all_added levels files) (Err why) new.low new.middle new.high result
comes_unfetched why honest old new files levels result = go why
  where
    stand : KeepsAdded honest old new files → honest → IsKept levels old.index old.low old.middle old.high
        → Holds (all_added levels files) (now new.low) (now new.middle) (now new.high)
    stand keeps h kept = kept_holds (all_added levels files) new.index new.low new.middle new.high (keeps h levels kept)

    go : (why : Unfetched) → ButForDisk (of_backup {T = Unit {0}} (Err why)) (KeepsAdded honest old new files) → honest → IsKept levels old.index old.low old.middle old.high
        → Comes (all_added levels files) (Err why) new.low new.middle new.high result
    go (unfetched.Untold reason) keeps h kept = stand keeps h kept
    go unfetched.Reply keeps h kept = stand keeps h kept
    go unfetched.Dropped keeps h kept = stand keeps h kept
    go (unfetched.Backup fault.Disk) keeps h kept = tt
    go (unfetched.Backup fault.Broken) keeps h kept = stand keeps h kept
    go (unfetched.Backup (fault.NotNext have want)) keeps h kept = stand keeps h kept
    go (unfetched.Backup (fault.NoSuchTxid txid last)) keeps h kept = stand keeps h kept
    go (unfetched.Backup (fault.SumDiffers want got)) keeps h kept = stand keeps h kept
    go (unfetched.Backup (fault.Damaged level min max)) keeps h kept = stand keeps h kept
    go (unfetched.Backup fault.NoMemory) keeps h kept = stand keeps h kept
