use Rattle.std.proofs.Common.{◌≡◌, ◌++◌, ℕ, refl, ap, ◌∙◌}
use Rattle.backup_link.specs.declared.unfetched.Unfetched.TheVariants as unfetched
use Rattle.http_exchange.specs.declared.told.Untold.TheVariants as untold
use Rattle.lf_base.specs.Status.{text_of}
use Rattle.lf_base.specs.declared.status.Status.TheVariants as status
use Rattle.ltx_backup.specs.declared.fault.BackupFault.{BackupFault}
use Rattle.ltx_backup.specs.declared.fault.BackupFault.TheVariants as backup
use Rattle.litefs_tool.specs.Disks.{name_of_backup, status_of_backup}
use Rattle.litefs_tool.specs.Running.{name_of_child, status_of_child}
use Rattle.litefs_tool.specs.steps.Failure.{status_of_failure, name_of_failure}
use Rattle.litefs_tool.specs.Run.{line, line_of}
use Rattle.litefs_tool.specs.declared.input.InputFault.TheVariants as fault
use Rattle.litefs_tool.specs.declared.refusal.Refusal.TheVariants as refusal
use Rattle.litefs_tool.specs.declared.compact_refusal.CompactRefusal.TheVariants as compaction
use Rattle.litefs_tool.specs.declared.failure.Failure.{Failure}
use Rattle.litefs_tool.specs.declared.failure.Failure.TheVariants as failure
use Rattle.node_mount.specs.declared.mount_fault.MountFault.TheVariants as mount
use Rattle.run_child.specs.declared.child_end.ChildEnd.{ChildEnd}
use Rattle.run_child.specs.declared.child_end.ChildEnd.TheVariants as ends
use Rattle.litefs_tool.proofs.report.report.Goals as goal

-- the name is empty but where the line has it
line-of_backup : (why : BackupFault) → line (text_of (status_of_backup why) ++ name_of_backup why) ≡ line_of (status_of_backup why) (name_of_backup why)
line-of_backup backup.Disk = refl
line-of_backup backup.Broken = refl
line-of_backup (backup.NotNext have want) = refl
line-of_backup (backup.NoSuchTxid txid last) = refl
line-of_backup (backup.SumDiffers want got) = refl
line-of_backup (backup.Damaged level min max) = refl
line-of_backup backup.NoMemory = refl

line-of_child : (end : ChildEnd) → ((number : ℕ) → status_of_child end ≡ status.Program number → ⊥)
    → line (text_of (status_of_child end) ++ name_of_child end) ≡ line_of (status_of_child end) (name_of_child end)
line-of_child (ends.Ended number) none = absurd (none number refl)
line-of_child ends.NotStarted none = refl
line-of_child (ends.Refused errno) none = refl
line-of_child ends.ReadFault none = refl
line-of_child ends.WriteFault none = refl
line-of_child ends.BadMessage none = refl
line-of_child ends.Turns none = refl
line-of_child ends.NoMemory none = refl

line-of_failure : (f : Failure) → ((number : ℕ) → status_of_failure f ≡ status.Program number → ⊥)
    → line (text_of (status_of_failure f) ++ name_of_failure f) ≡ line_of (status_of_failure f) (name_of_failure f)
line-of_failure failure.Arguments none = refl
line-of_failure (failure.Input fault.Failed) none = refl
line-of_failure (failure.Input fault.TooLong) none = refl
line-of_failure (failure.Input fault.NoMemory) none = refl
line-of_failure (failure.Files refusal.NoMemory) none = refl
line-of_failure (failure.Files why) none = refl
line-of_failure (failure.Compaction compaction.NoMemory) none = refl
line-of_failure (failure.Compaction why) none = refl
line-of_failure (failure.Mount mount.Read) none = refl
line-of_failure (failure.Mount mount.Config) none = refl
line-of_failure (failure.Mount mount.Damaged) none = refl
line-of_failure (failure.Mount mount.Disk) none = refl
line-of_failure (failure.Mount mount.Network) none = refl
line-of_failure (failure.Mount mount.NoThread) none = refl
line-of_failure (failure.Mount mount.Limit) none = refl
line-of_failure (failure.Mount mount.NoMemory) none = refl
line-of_failure (failure.Untold untold.Fault) none = refl
line-of_failure (failure.Untold untold.Unfit) none = refl
line-of_failure (failure.Untold untold.TooLong) none = refl
line-of_failure (failure.Untold untold.Turns) none = refl
line-of_failure (failure.Untold untold.NoMemory) none = refl
line-of_failure failure.Reply none = refl
line-of_failure failure.BadReply none = refl
line-of_failure (failure.Backup why) none = line-of_backup why
line-of_failure (failure.Unfetched (unfetched.Untold untold.Fault)) none = refl
line-of_failure (failure.Unfetched (unfetched.Untold untold.Unfit)) none = refl
line-of_failure (failure.Unfetched (unfetched.Untold untold.TooLong)) none = refl
line-of_failure (failure.Unfetched (unfetched.Untold untold.Turns)) none = refl
line-of_failure (failure.Unfetched (unfetched.Untold untold.NoMemory)) none = refl
line-of_failure (failure.Unfetched unfetched.Reply) none = refl
line-of_failure (failure.Unfetched unfetched.Dropped) none = refl
line-of_failure (failure.Unfetched (unfetched.Backup why)) none = line-of_backup why
line-of_failure failure.Undialed none = refl
line-of_failure (failure.Child end) none = line-of_child end none
line-of_failure failure.Output none = refl
line-of_failure failure.NoMemory none = refl

pub returns-in_default : goal.returns-in_default
returns-in_default g c =
    let same : line (c.text.result.now ++ c.fault_name.result.now) ≡ line_of (status_of_failure c.args.failure) (name_of_failure c.args.failure) =
    ap line (ap (λ l. l ++ c.fault_name.result.now) (c.text.ensures ∙ ap text_of c.status.ensures)
    ∙ ap (λ l. text_of (status_of_failure c.args.failure) ++ l) c.fault_name.ensures)
    ∙ line-of_failure c.args.failure (λ number is. c.in_default.not-Program number (c.status.ensures ∙ is))
    in
    record {
      whole = rw (← same) c.write_line.ensures.whole;
      prefix = rw (← same) c.write_line.ensures.prefix;
      cause = c.write_line.ensures.cause;
    }
