use Rattle.std.proofs.Common.{[], inl, refl, subst}
use Rattle.std.proofs.KnownBytes.{Appends-nil, Consumes-nil}
use Rattle.litefs_tool.specs.Run.{asked, drilled, leased, mounted, over_disks, over_streams, under_lock}
use Rattle.litefs_tool.specs.Streams.{stream}
use Rattle.litefs_tool.specs.Words.{IsReadAs}
use Rattle.litefs_tool.specs.declared.command.Command.TheVariants.{Apply, Compact, Mount, Lease, Export, Import, Drill, Backup, Restore, Run}
use Rattle.litefs_tool.proofs.RunLemmas.{goes, leaves, spelled_by}
use Rattle.litefs_tool.proofs.top_call.perform.Goals as goal

pub returns-in-Some-Apply-clause-went : goal.returns-in-Some-Apply-clause-went
returns-in-Some-Apply-clause-went g c =
    goes _ _ _ Apply c.apply.result (spelled_by _ _ _ _ c.in-Some-Apply.is c.in-Some-Apply.field-0-is c.in_ok-read_arguments.ensures) tt c.apply.ensures

pub returns-in-Some-Compact-clause-went : goal.returns-in-Some-Compact-clause-went
returns-in-Some-Compact-clause-went g c =
    goes _ _ _ Compact c.compact.result (spelled_by _ _ _ _ c.in-Some-Compact.is c.in-Some-Compact.field-0-is c.in_ok-read_arguments.ensures) tt c.compact.ensures

pub returns-in-Some-Mount-clause-went : goal.returns-in-Some-Mount-clause-went
returns-in-Some-Mount-clause-went g c =
    let went = c.mount_node.ensures in
    mounted (spelled_by _ _ _ _ c.in-Some-Mount.is c.in-Some-Mount.field-0-is c.in_ok-read_arguments.ensures)
    (record { end = went.end; config = went.reads; cause = went.cause; back = went.back; status_is = went.status_is; name_is = went.name_is })

pub returns-in-Some-Lease-clause-went : goal.returns-in-Some-Lease-clause-went
returns-in-Some-Lease-clause-went g c =
    let went = c.lease.ensures in
    leased (spelled_by _ _ _ _ c.in-Some-Lease.is c.in-Some-Lease.field-0-is c.in_ok-read_arguments.ensures)
    (record { end = went.end; config = went.reads; cause = went.cause; back = went.back; status_is = went.status_is; name_is = went.name_is })

pub returns-in-Some-Export-clause-went : goal.returns-in-Some-Export-clause-went
returns-in-Some-Export-clause-went g c =
    asked (Export c.in-Some-Export.remote) (spelled_by _ _ _ _ c.in-Some-Export.is c.in-Some-Export.field-0-is c.in_ok-read_arguments.ensures) (c.export.ensures (stream g.I.Source.left g.I.Source.faults c.args.host.now.input c.args.host.now.input) (refl, refl))

pub returns-in-Some-Import-clause-went : goal.returns-in-Some-Import-clause-went
returns-in-Some-Import-clause-went g c =
    asked (Import c.in-Some-Import.remote) (spelled_by _ _ _ _ c.in-Some-Import.is c.in-Some-Import.field-0-is c.in_ok-read_arguments.ensures) c.import.ensures

pub returns-in-Some-Backup-clause-went : goal.returns-in-Some-Backup-clause-went
returns-in-Some-Backup-clause-went g c =
    over_disks (Backup c.in-Some-Backup.remote) (spelled_by _ _ _ _ c.in-Some-Backup.is c.in-Some-Backup.field-0-is c.in_ok-read_arguments.ensures) c.back_up.ensures

pub returns-in-Some-Restore-clause-went : goal.returns-in-Some-Restore-clause-went
returns-in-Some-Restore-clause-went g c =
    over_disks (Restore c.in-Some-Restore.name c.in-Some-Restore.txid) (spelled_by _ _ _ _ c.in-Some-Restore.is c.in-Some-Restore.field-0-is c.in_ok-read_arguments.ensures) c.restore.ensures

pub returns-in-Some-Drill-clause-went : goal.returns-in-Some-Drill-clause-went
returns-in-Some-Drill-clause-went g c =
    drilled c.in-Some-Drill.number (spelled_by _ _ _ _ c.in-Some-Drill.is c.in-Some-Drill.field-0-is c.in_ok-read_arguments.ensures) (c.drill.ensures (stream g.I.Source.left g.I.Source.faults c.args.host.now.input c.args.host.now.input) (refl, refl))

pub returns-in-Some-Run-clause-went : goal.returns-in-Some-Run-clause-went
returns-in-Some-Run-clause-went g c =
    under_lock c.in-Some-Run.task (spelled_by _ _ _ _ c.in-Some-Run.is c.in-Some-Run.field-0-is c.in_ok-read_arguments.ensures) c.run_task.ensures

pub returns-in-None-clause-went : goal.returns-in-None-clause-went
returns-in-None-clause-went g c =
    over_streams [] [] (record { reads = Consumes-nil _; writes = Appends-nil _; read_to_end = tt; cause = (refl, refl) })
    (inl (record {
      no_command = subst (IsReadAs c.args.arguments.now) c.in-None.is c.in_ok-read_arguments.ensures;
      refused = refl;
      unread = refl;
      unwritten = refl;
    }))

pub returns-in-Some-Apply-clause-apart : goal.returns-in-Some-Apply-clause-apart
returns-in-Some-Apply-clause-apart g c =
    leaves _ Apply (spelled_by _ _ _ _ c.in-Some-Apply.is c.in-Some-Apply.field-0-is c.in_ok-read_arguments.ensures) _ _ _ _ _ _ _ _ _ _ (λ _. refl) (λ _. refl) (λ no. absurd no) (λ no. absurd no)
    (λ _. refl) (λ no. absurd no)

pub returns-in-Some-Compact-clause-apart : goal.returns-in-Some-Compact-clause-apart
returns-in-Some-Compact-clause-apart g c =
    leaves _ Compact (spelled_by _ _ _ _ c.in-Some-Compact.is c.in-Some-Compact.field-0-is c.in_ok-read_arguments.ensures) _ _ _ _ _ _ _ _ _ _ (λ _. refl) (λ _. refl) (λ no. absurd no) (λ no. absurd no)
    (λ _. refl) (λ no. absurd no)

pub returns-in-Some-Mount-clause-apart : goal.returns-in-Some-Mount-clause-apart
returns-in-Some-Mount-clause-apart g c =
    leaves _ Mount (spelled_by _ _ _ _ c.in-Some-Mount.is c.in-Some-Mount.field-0-is c.in_ok-read_arguments.ensures) _ _ _ _ _ _ _ _ _ _ (λ none. absurd (none tt)) (λ none. absurd (none (λ over. over))) (λ _. (refl, refl)) (λ _. refl)
    (λ _. refl) (λ no. absurd no)

pub returns-in-Some-Lease-clause-apart : goal.returns-in-Some-Lease-clause-apart
returns-in-Some-Lease-clause-apart g c =
    leaves _ Lease (spelled_by _ _ _ _ c.in-Some-Lease.is c.in-Some-Lease.field-0-is c.in_ok-read_arguments.ensures) _ _ _ _ _ _ _ _ _ _ (λ none. absurd (none tt)) (λ none. absurd (none (λ over. over))) (λ _. (refl, refl)) (λ _. refl)
    (λ _. refl) (λ no. absurd no)

pub returns-in-Some-Export-clause-apart : goal.returns-in-Some-Export-clause-apart
returns-in-Some-Export-clause-apart g c =
    leaves _ (Export c.in-Some-Export.remote) (spelled_by _ _ _ _ c.in-Some-Export.is c.in-Some-Export.field-0-is c.in_ok-read_arguments.ensures) _ _ _ _ _ _ _ _ _ _ (λ _. refl) (λ none. absurd (none (λ over. over))) (λ no. absurd no) (λ _. refl)
    (λ _. refl) (λ no. absurd no)

pub returns-in-Some-Import-clause-apart : goal.returns-in-Some-Import-clause-apart
returns-in-Some-Import-clause-apart g c =
    leaves _ (Import c.in-Some-Import.remote) (spelled_by _ _ _ _ c.in-Some-Import.is c.in-Some-Import.field-0-is c.in_ok-read_arguments.ensures) _ _ _ _ _ _ _ _ _ _ (λ _. refl) (λ none. absurd (none (λ over. over))) (λ no. absurd no) (λ no. absurd no)
    (λ _. refl) (λ no. absurd no)

pub returns-in-Some-Backup-clause-apart : goal.returns-in-Some-Backup-clause-apart
returns-in-Some-Backup-clause-apart g c =
    leaves _ (Backup c.in-Some-Backup.remote) (spelled_by _ _ _ _ c.in-Some-Backup.is c.in-Some-Backup.field-0-is c.in_ok-read_arguments.ensures) _ _ _ _ _ _ _ _ _ _ (λ _. refl) (λ none. absurd (none (λ over. over))) (λ no. absurd no) (λ _. refl)
    (λ _. refl) (λ no. absurd no)

pub returns-in-Some-Restore-clause-apart : goal.returns-in-Some-Restore-clause-apart
returns-in-Some-Restore-clause-apart g c =
    leaves _ (Restore c.in-Some-Restore.name c.in-Some-Restore.txid) (spelled_by _ _ _ _ c.in-Some-Restore.is c.in-Some-Restore.field-0-is c.in_ok-read_arguments.ensures) _ _ _ _ _ _ _ _ _ _ (λ _. refl) (λ none. absurd (none (λ over. over))) (λ no. absurd no) (λ _. refl)
    (λ _. refl) (λ no. absurd no)

pub returns-in-Some-Drill-clause-apart : goal.returns-in-Some-Drill-clause-apart
returns-in-Some-Drill-clause-apart g c =
    leaves _ (Drill c.in-Some-Drill.number) (spelled_by _ _ _ _ c.in-Some-Drill.is c.in-Some-Drill.field-0-is c.in_ok-read_arguments.ensures) _ _ _ _ _ _ _ _ _ _ (λ _. refl) (λ _. refl) (λ no. absurd no) (λ _. refl)
    (λ _. refl) (λ no. absurd no)

pub returns-in-Some-Run-clause-apart : goal.returns-in-Some-Run-clause-apart
returns-in-Some-Run-clause-apart g c =
    leaves _ (Run c.in-Some-Run.task) (spelled_by _ _ _ _ c.in-Some-Run.is c.in-Some-Run.field-0-is c.in_ok-read_arguments.ensures) _ _ _ _ _ _ _ _ _ _ (λ _. refl) (λ none. absurd (none (λ over. over))) (λ no. absurd no) (λ _. refl)
    (λ none. absurd (none c.in-Some-Run.task (spelled_by _ _ _ _ c.in-Some-Run.is c.in-Some-Run.field-0-is c.in_ok-read_arguments.ensures))) (λ _. refl)
