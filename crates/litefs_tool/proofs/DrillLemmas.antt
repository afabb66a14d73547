-- What `drill` comes to.
use Rattle.std.proofs.Common.{◌≡◌, ℕ, List, [], Option, Result, Ok, Err, refl}
use Rattle.std.specs.Result.{IsErrAnd}
use Rattle.std.specs.Io.KnownBytes.{Appends}
use Rattle.std.proofs.KnownBytes.{Appends-nil}
use Rattle.cluster_drill.specs.Drill.{IsPlayed}
use Rattle.litefs_tool.specs.Output.{AppendsPrefix}
use Rattle.litefs_tool.specs.Streams.{Fails, Holds, IsStill, Stream}
use Rattle.litefs_tool.specs.steps.Performing.{GoesDrilling}
use Rattle.litefs_tool.specs.declared.failure.Failure.{Failure}
use Rattle.litefs_tool.specs.declared.failure.Failure.TheVariants as failure
use Rattle.litefs_tool.proofs.PerformLemmas.{unmoved}

module _ (number : ℕ) (input : Stream) (still : IsStill input) where
  -- memory ran out
  pub unplayed : (taken : Option (List ℕ)) (count : ℕ) (result : Result (Unit {0}) Failure) → IsErrAnd result (λ f. f ≡ failure.NoMemory)
      → GoesDrilling number input (unmoved taken count) result
  unplayed taken count (Ok done) is = absurd is
  unplayed taken count (Err f) is =
      rw is (record { written = []; still = still; writes = Appends-nil taken; cause = (still.1, refl); went = refl })

  -- the line was not written whole
  pub unwritten : (output : Stream) (line : List ℕ) (result : Result (Unit {0}) Failure) → IsPlayed number line
      → AppendsPrefix output.bytes output.bytes_after line → Fails output → IsErrAnd result (λ f. f ≡ failure.Output)
      → GoesDrilling number input output result
  unwritten output line (Ok done) played prefix fails is = absurd is
  unwritten output line (Err f) played prefix fails is =
      rw is (record { written = prefix.0; still = still; writes = prefix.2; cause = (still.1, fails); went = (line, played, prefix.1) })

  -- it was
  pub written : (output : Stream) (line : List ℕ) → IsPlayed number line → Appends output.bytes output.bytes_after line → Holds output
      → GoesDrilling number input output (Ok tt)
  written output line played appends holds = record { written = line; still = still; writes = appends; cause = (still.1, holds); went = played }
