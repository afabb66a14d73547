use Rattle.std.proofs.Common.{◌≡◌, length, IsTrue}
use Rattle.std.specs.Prelude.{IfSome}
use Rattle.std.specs.Option.{option_map}
use Rattle.lf_disk.specs.History.{now, Rests}
use Rattle.node_recovery.specs.declared.file_summary.FileSummary.{FileSummary}
use Rattle.node_recovery.specs.Finding.{AreEnded}
use Rattle.node_recovery.proofs.Judgings.{Judged}
use Rattle.node_recovery.proofs.judging.judge_log.Given as goal

abbrev pub invariant-loop-place : goal.invariant-loop-place
invariant-loop-place g l = record {
  honest : g.D.Disk.honest l.disk ≡ g.D.Disk.honest l.initial.disk;
  faults : g.D.Disk.faults l.disk ≡ g.D.Disk.faults l.initial.disk;
  rests : Rests (g.D.Disk.history l.initial.disk) (g.D.Disk.history l.disk);
  ended : AreEnded l.entries.items (option_map (λ (read : FileSummary). read.outline) l.last);
  count : l.place ≡ length l.names → IfSome l.last (λ (read : FileSummary). length read.tally.sums.sums ≡ read.outline.header.commit);
  judged : IsTrue (g.D.Disk.honest l.initial.disk) → Judged l.names (now (g.D.Disk.history l.initial.disk)) l.place l.entries.items l.last;
}
