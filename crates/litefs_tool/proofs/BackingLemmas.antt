-- What a command on a backup comes to, by how it ended.
use Rattle.std.proofs.Common.{◌≡◌, ◌≢◌, ◌⊎◌, inl, inr, Bool, false, ℕ, ◌<◌, List, [], ◌∷◌, ◌++◌, Option, Result, Ok, Err, refl, sym, ◌∙◌, subst, arith}
use Rattle.std.specs.Prelude.{◌==◌, IsTrue, MatchBool, codes, min}
use Rattle.std.proofs.lemmas.Bool.Decides.{nat_tests}
use Rattle.std.specs.Result.{IsErrAnd}
use Rattle.std.specs.Io.KnownBytes.{Appends}
use Rattle.std.proofs.KnownBytes.{Appends-nil}
use Rattle.backup_link.specs.BackingUp.{BacksUp, closed, opened}
use Rattle.backup_link.specs.Endings.{of_backup, of_network}
use Rattle.backup_link.specs.declared.unfetched.Unfetched.{Unfetched}
use Rattle.backup_link.specs.declared.unfetched.Unfetched.TheVariants as unfetched
use Rattle.http_exchange.specs.Exchange.{FaultsBy}
use Rattle.http_exchange.specs.declared.told.Untold.TheVariants as untold
use Rattle.lf_base.specs.Dials.{Dial}
use Rattle.lf_base.specs.Faults.{Rose}
use Rattle.lf_base.specs.Position.{position_text}
use Rattle.lf_base.specs.declared.pos.Pos.{Pos}
use Rattle.lf_disk.specs.Folder.{Folder}
use Rattle.lf_disk.specs.History.{History, IsSettledBut}
use Rattle.lf_disk.specs.declared.name.FileName.TheVariants.{Staged}
use Rattle.lf_sqlite_pages.specs.Image.{DatabaseImage, image_bytes}
use Rattle.ltx_backup.specs.Causes.{AllStay, Counts as DiskCounts, HasCauses, OneRose}
use Rattle.ltx_backup.specs.declared.fault.BackupFault.{BackupFault}
use Rattle.ltx_backup.specs.declared.fault.BackupFault.TheVariants as fault
use Rattle.node_objects.specs.Making.{DisksRose, IsAtRest, NetworkRose, TellsBy}
use Rattle.node_objects.specs.declared.counts.Counts.{Counts}
use Rattle.litefs_tool.specs.Disks.{CountsBackingUp, CountsRestoring, DiskBacks, OutputCause, backed_up, no_memory, restored, status_of_backup, status_of_unfetched}
use Rattle.litefs_tool.specs.Output.{AppendsPrefix}
use Rattle.litefs_tool.specs.Streams.{Fails, Holds, Stream}
use Rattle.litefs_tool.specs.steps.Backing.{GoesOverDisks}
use Rattle.litefs_tool.specs.declared.command.Command.{Command}
use Rattle.litefs_tool.specs.declared.command.Command.TheVariants.{Backup, Restore}
use Rattle.litefs_tool.specs.declared.failure.Failure.{Failure}
use Rattle.litefs_tool.specs.declared.failure.Failure.TheVariants as failure
use Rattle.litefs_tool.specs.declared.remote.Remote.{Remote}
use Rattle.litefs_tool.proofs.PerformLemmas.{unmoved}

-- a disk on which nothing is pending is settled
pub settled : (honest : Bool) (history : History) → IsAtRest honest history → IsTrue honest → IsSettledBut Staged history
settled honest history rest is c left n other = rest is c left n

-- ---- statuses

still_backup : (taken : Option (List ℕ)) (count : ℕ) (why : BackupFault) → OutputCause (unmoved taken count) (status_of_backup why)
still_backup taken count fault.Disk = refl
still_backup taken count fault.Broken = refl
still_backup taken count fault.NoMemory = refl
still_backup taken count (fault.NotNext have want) = refl
still_backup taken count (fault.NoSuchTxid txid last) = refl
still_backup taken count (fault.SumDiffers want got) = refl
still_backup taken count (fault.Damaged level min max) = refl

still_unfetched : (taken : Option (List ℕ)) (count : ℕ) (why : Unfetched) → OutputCause (unmoved taken count) (status_of_unfetched why)
still_unfetched taken count (unfetched.Untold untold.Fault) = refl
still_unfetched taken count (unfetched.Untold untold.Unfit) = refl
still_unfetched taken count (unfetched.Untold untold.TooLong) = refl
still_unfetched taken count (unfetched.Untold untold.Turns) = refl
still_unfetched taken count (unfetched.Untold untold.NoMemory) = refl
still_unfetched taken count unfetched.Reply = refl
still_unfetched taken count unfetched.Dropped = refl
still_unfetched taken count (unfetched.Backup why) = still_backup taken count why

module _ (backs : DiskBacks) (command : Command) (counts counts_after : Counts) where
  -- a command that ends with this failure
  pub ends_as : (output : Stream) (why : Failure) (result : Result (Unit {0}) Failure) → IsErrAnd result (λ f. f ≡ why)
      → GoesOverDisks backs command output counts counts_after (Err why) → GoesOverDisks backs command output counts counts_after result
  ends_as output why (Ok done) is goes = absurd is
  ends_as output why (Err f) is goes = rw is goes

  -- memory ran out before a disk was asked for
  pub unable_goes : (taken : Option (List ℕ)) (count : ℕ) → backs.nothing → counts_after ≡ counts
      → GoesOverDisks backs command (unmoved taken count) counts counts_after (Err failure.NoMemory)
  unable_goes taken count nothing same = record { written = []; writes = Appends-nil taken; cause = refl; went = no_memory refl refl nothing same }

-- ---- restoring

module _ (backs : DiskBacks) (database : List ℕ) (txid : ℕ) (counts counts_after : Counts) where
  pub unrestored_goes : (taken : Option (List ℕ)) (count : ℕ) (why : BackupFault) → backs.restored database txid (Err why) → CountsRestoring {T = DatabaseImage} counts counts_after (Err why)
      → GoesOverDisks backs (Restore database txid) (unmoved taken count) counts counts_after (Err (failure.Backup why))
  unrestored_goes taken count why back cause = record {
    written = [];
    writes = Appends-nil taken;
    cause = still_backup taken count why;
    went = restored database txid (Err why) refl back cause (refl, refl, refl);
  }

  pub no_buffer_goes : (taken : Option (List ℕ)) (count : ℕ) (image : DatabaseImage) → backs.restored database txid (Ok image) → CountsRestoring counts counts_after (Ok image)
      → GoesOverDisks backs (Restore database txid) (unmoved taken count) counts counts_after (Err failure.NoMemory)
  no_buffer_goes taken count image back cause = record {
    written = [];
    writes = Appends-nil taken;
    cause = refl;
    went = restored database txid (Ok image) refl back cause refl;
  }

  pub unwritten_goes : (output : Stream) (image : DatabaseImage) → backs.restored database txid (Ok image) → CountsRestoring counts counts_after (Ok image)
      → AppendsPrefix output.bytes output.bytes_after (image_bytes image) → Fails output
      → GoesOverDisks backs (Restore database txid) output counts counts_after (Err failure.Output)
  unwritten_goes output image back cause prefix fails = record {
    written = prefix.0;
    writes = prefix.2;
    cause = fails;
    went = restored database txid (Ok image) refl back cause prefix.1;
  }

  pub written_goes : (output : Stream) (image : DatabaseImage) → backs.restored database txid (Ok image) → CountsRestoring counts counts_after (Ok image)
      → Appends output.bytes output.bytes_after (image_bytes image) → Holds output → GoesOverDisks backs (Restore database txid) output counts counts_after (Ok tt)
  written_goes output image back cause appends holds = record {
    written = image_bytes image;
    writes = appends;
    cause = holds;
    went = restored database txid (Ok image) refl back cause refl;
  }

-- ---- backing up

abbrev end_line : Pos → List ℕ
end_line end = codes "backup " ++ position_text end ++ 10 ∷ []

module _ (backs : DiskBacks) (remote : Remote) (counts counts_after : Counts) where
  pub unfetched_goes : (taken : Option (List ℕ)) (count : ℕ) (why : Unfetched) → backs.backed_up remote (Err why) → CountsBackingUp {T = Pos} counts counts_after (Err why)
      → GoesOverDisks backs (Backup remote) (unmoved taken count) counts counts_after (Err (failure.Unfetched why))
  unfetched_goes taken count why back cause = record {
    written = [];
    writes = Appends-nil taken;
    cause = still_unfetched taken count why;
    went = backed_up remote (Err why) refl back cause (refl, refl, refl);
  }

  pub unsaid_goes : (output : Stream) (end : Pos) → backs.backed_up remote (Ok end) → CountsBackingUp counts counts_after (Ok end)
      → AppendsPrefix output.bytes output.bytes_after (end_line end) → Fails output → GoesOverDisks backs (Backup remote) output counts counts_after (Err failure.Output)
  unsaid_goes output end back cause prefix fails = record {
    written = prefix.0;
    writes = prefix.2;
    cause = fails;
    went = backed_up remote (Ok end) refl back cause prefix.1;
  }

  pub said_goes : (output : Stream) (end : Pos) → backs.backed_up remote (Ok end) → CountsBackingUp counts counts_after (Ok end)
      → Appends output.bytes output.bytes_after (end_line end) → Holds output → GoesOverDisks backs (Backup remote) output counts counts_after (Ok tt)
  said_goes output end back cause appends holds = record {
    written = end_line end;
    writes = appends;
    cause = holds;
    went = backed_up remote (Ok end) refl back cause refl;
  }

-- what backing up comes to, by disks that are as honest as those that were given
pub backs_up_by : (address name : List ℕ) (tell : Type 0) (dials dials_now : Option (List Dial)) (honest honest_now : Type 0) (low middle high low_now middle_now high_now : History)
    (result : Result Pos Unfetched) → (honest_now → honest) → BacksUp address name tell dials dials_now honest low middle high low_now middle_now high_now result
    → BacksUp address name tell dials dials_now honest_now low middle high low_now middle_now high_now result
backs_up_by address name tell dials dials_now honest honest_now low middle high low_now middle_now high_now result still (closed why is same gone) =
    closed why is same (λ h. gone (still h))
backs_up_by address name tell dials dials_now honest honest_now low middle high low_now middle_now high_now result still (opened here files fetched told ends comes) =
    opened here files fetched told ends (λ h. comes (still h))

-- ---- counts

-- a count that rose from nothing is some
some : (now : ℕ) → Rose 0 now → 0 < now
some now rose = omega (arith, rose.1)

one_some : (given came : DiskCounts) → given.low ≡ 0 → given.middle ≡ 0 → given.high ≡ 0 → OneRose given came → (0 < came.low) ⊎ ((0 < came.middle) ⊎ (0 < came.high))
one_some given came low middle high (inl rose) = inl (some came.low (subst (λ (n : ℕ). Rose n came.low) low rose))
one_some given came low middle high (inr (inl rose)) = inr (inl (some came.middle (subst (λ (n : ℕ). Rose n came.middle) middle rose)))
one_some given came low middle high (inr (inr rose)) = inr (inr (some came.high (subst (λ (n : ℕ). Rose n came.high) high rose)))

-- a dialer went back that had not failed, or had
same_without : (first old : Counts) (faults : ℕ) → faults ≡ 0 → TellsBy NetworkRose faults first old → old ≡ first
same_without first old faults none told = subst (λ (n : ℕ). TellsBy NetworkRose n first old) none told

rose_with : (first old : Counts) (faults : ℕ) → 0 < faults → TellsBy NetworkRose faults first old → NetworkRose first old
rose_with first old faults failed told =
    let test : (faults == 0) ≡ false = grind (arith, nat_tests, failed) in
    subst (λ (b : Bool). MatchBool b (old ≡ first) (NetworkRose first old)) test told

-- disks that had no fault went back, and raised the maker's count where one of them had failed since
module _ (old new : Counts) (given came : DiskCounts) (low : given.low ≡ 0) (middle : given.middle ≡ 0) (high : given.high ≡ 0)
    (still : came.low ≡ 0 → came.middle ≡ 0 → came.high ≡ 0 → new ≡ old)
    (rose : (0 < came.low) ⊎ ((0 < came.middle) ⊎ (0 < came.high)) → DisksRose old new) where
  none_failed : AllStay given came → new ≡ old
  none_failed stay = still (stay.low ∙ low) (stay.middle ∙ middle) (stay.high ∙ high)

  one_failed : OneRose given came → DisksRose old new
  one_failed failed = rose (one_some given came low middle high failed)

  pub counts_restored : {T : Type 0} (r : Result T BackupFault) → HasCauses given came r → CountsRestoring old new r
  counts_restored (Ok x) cause = none_failed cause
  counts_restored (Err fault.Disk) cause = one_failed cause
  counts_restored (Err fault.Broken) cause = none_failed cause
  counts_restored (Err (fault.NotNext have want)) cause = none_failed cause
  counts_restored (Err (fault.NoSuchTxid txid last)) cause = none_failed cause
  counts_restored (Err (fault.SumDiffers want got)) cause = none_failed cause
  counts_restored (Err (fault.Damaged level min max)) cause = none_failed cause
  counts_restored (Err fault.NoMemory) cause = none_failed cause

  -- the same behind a dialer, which raised its count where it had failed
  pub counts_backed_up : (first : Counts) (faults : ℕ) (r : Result Pos Unfetched) → FaultsBy 0 faults (of_network r) → TellsBy NetworkRose faults first old → HasCauses given came (of_backup r)
      → CountsBackingUp first new r
  counts_backed_up first faults (Ok end) dialed told cause = none_failed cause ∙ same_without first old faults dialed told
  counts_backed_up first faults (Err (unfetched.Untold untold.Fault)) dialed told cause =
      subst (λ (n : Counts). NetworkRose first n) (sym (none_failed cause)) (rose_with first old faults (some faults dialed) told)
  counts_backed_up first faults (Err (unfetched.Untold untold.Unfit)) dialed told cause = none_failed cause ∙ same_without first old faults dialed told
  counts_backed_up first faults (Err (unfetched.Untold untold.TooLong)) dialed told cause = none_failed cause ∙ same_without first old faults dialed told
  counts_backed_up first faults (Err (unfetched.Untold untold.Turns)) dialed told cause = none_failed cause ∙ same_without first old faults dialed told
  counts_backed_up first faults (Err (unfetched.Untold untold.NoMemory)) dialed told cause = none_failed cause ∙ same_without first old faults dialed told
  counts_backed_up first faults (Err unfetched.Reply) dialed told cause = none_failed cause ∙ same_without first old faults dialed told
  counts_backed_up first faults (Err unfetched.Dropped) dialed told cause = none_failed cause ∙ same_without first old faults dialed told
  counts_backed_up first faults (Err (unfetched.Backup fault.Disk)) dialed told cause =
      subst (λ (n : Counts). DisksRose n new) (same_without first old faults dialed told) (one_failed cause)
  counts_backed_up first faults (Err (unfetched.Backup fault.Broken)) dialed told cause = none_failed cause ∙ same_without first old faults dialed told
  counts_backed_up first faults (Err (unfetched.Backup (fault.NotNext have want))) dialed told cause = none_failed cause ∙ same_without first old faults dialed told
  counts_backed_up first faults (Err (unfetched.Backup (fault.NoSuchTxid txid last))) dialed told cause = none_failed cause ∙ same_without first old faults dialed told
  counts_backed_up first faults (Err (unfetched.Backup (fault.SumDiffers want got))) dialed told cause = none_failed cause ∙ same_without first old faults dialed told
  counts_backed_up first faults (Err (unfetched.Backup (fault.Damaged level min max))) dialed told cause = none_failed cause ∙ same_without first old faults dialed told
  counts_backed_up first faults (Err (unfetched.Backup fault.NoMemory)) dialed told cause = none_failed cause ∙ same_without first old faults dialed told
