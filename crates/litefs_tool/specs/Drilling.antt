-- `drill`: what it writes, and how it ends.
use Rattle.std.specs.Prelude.{◌≡◌, ℕ, List, []}
use Rattle.cluster_drill.specs.Drill.{IsPlayed}
use Rattle.lf_base.specs.declared.status.Status.{Status}
use Rattle.lf_base.specs.declared.status.Status.TheVariants as status
use Rattle.litefs_tool.specs.Output.{IsPrefix}
use Rattle.litefs_tool.specs.Streams.{HasCause, IsStill, Stream, Takes}

-- what the drill of a number comes to: its line was written; or the output failed, and took a front of it; or memory ran out before that
abbrev pub DrillWrites : ℕ → Status → List ℕ → Type 0
DrillWrites number status.Ok written = IsPlayed number written
DrillWrites number status.WriteFault written = (line : List ℕ) × IsPlayed number line × IsPrefix written line
DrillWrites number status.NoMemory written = written ≡ []
DrillWrites number status.ReadFault written = ⊥
DrillWrites number status.WordsRefused written = ⊥
DrillWrites number status.InputRefused written = ⊥
DrillWrites number status.DiskFault written = ⊥
DrillWrites number status.NetworkFault written = ⊥
DrillWrites number status.NoThread written = ⊥
DrillWrites number status.Limit written = ⊥
DrillWrites number (status.Program code) written = ⊥
DrillWrites number status.NotStarted written = ⊥
DrillWrites number status.LockRefused written = ⊥

-- WHAT `drill` COMES TO
pub record DrillOutcome (number : ℕ) (input output : Stream) (status : Status) : Type 0 where
  pub written : List ℕ
  pub still : IsStill input
  pub writes : Takes output written
  pub cause : HasCause input output status
  pub went : DrillWrites number status written
