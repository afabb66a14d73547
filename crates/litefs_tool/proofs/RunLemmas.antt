-- Whole runs.
use Rattle.std.proofs.Common.{◌≡◌, ℕ, List, Option, Some, Result, Ok, Err, OnOk, OnErr, inl, inr, sym, subst}
use Rattle.lf_base.specs.Faults.{CountsFaults}
use Rattle.litefs_tool.specs.Command.{IsOverStreams, IsServing}
use Rattle.litefs_tool.specs.Output.{AppendsPrefix}
use Rattle.litefs_tool.specs.Run.{over_streams, Backs, CommandOutcome, LeavesApart, LeavesInput, Outside, Says, UsesMaker}
use Rattle.litefs_tool.specs.Streams.{Stream, Takes}
use Rattle.litefs_tool.specs.Words.{IsReadAs, Spells, Words}
use Rattle.litefs_tool.specs.steps.Performing.{Goes, Performs}
use Rattle.litefs_tool.specs.declared.command.Command.{Command}
use Rattle.litefs_tool.specs.declared.command.Command.TheVariants.{Run}
use Rattle.litefs_tool.specs.declared.failure.Failure.{Failure}
use Rattle.litefs_tool.specs.declared.task.Task.{Task}
use Rattle.litefs_tool.proofs.WordLemmas.{spelled_once}

-- the arguments that were read are this command's
pub spelled_by : (arguments : Words) (read : Option Command) (met command : Command) → read ≡ Some met → met ≡ command → IsReadAs arguments read
    → Spells arguments command
spelled_by arguments read met command is met_is reads = subst (Spells arguments) met_is (subst (IsReadAs arguments) is reads)

-- a command over streams is a run
pub goes : (backs : Backs) (arguments : List (List ℕ)) (outside : Outside) (command : Command) (result : Result (Unit {0}) Failure)
    → Spells arguments command → IsOverStreams command → Performs (CommandOutcome command) outside.input outside.output result
    → Goes backs arguments outside result
goes backs arguments outside command result is over p = over_streams p.0 p.1 p.2 (inr (command, is, over, p.3))

-- a line that was written, or a front of it, is said
pub said : {T E : Type 0} (r : Result T E) (errors : Stream) (bytes : List ℕ) → OnOk r (Takes errors bytes) → OnErr r (AppendsPrefix errors.bytes errors.bytes_after bytes)
    → CountsFaults errors.faults errors.faults_after r → Says errors bytes
said (Ok x) errors bytes whole part counts = inl (counts, whole)
said (Err e) errors bytes whole part counts = inr (counts, part)

-- ---- what a run leaves

-- a command that runs a program
abbrev IsRun : Command → Type 0
IsRun (Run task) = Unit {0}
IsRun command = ⊥

-- arguments are one command's: what holds of another that they spell holds of it
of_one : (P : Command → Type 0) (arguments : Words) (command other : Command) → Spells arguments command → Spells arguments other → P other → P command
of_one P arguments command other spelled too holds = subst P (sym (spelled_once arguments command other spelled too)) holds

-- what a run of a command leaves, by what that is
pub leaves : {I O G M S : Type 0} (arguments : Words) (command : Command) → Spells arguments command
    → (input input_after : I) (output output_after : O) (config config_after : G) (make make_after : M) (child child_after : S)
    → ((IsServing command → ⊥) → config_after ≡ config) → ((UsesMaker command → ⊥) → make_after ≡ make)
    → (IsServing command → (input_after ≡ input) × (output_after ≡ output)) → (LeavesInput command → input_after ≡ input)
    → (((task : Task) → Spells arguments (Run task) → ⊥) → child_after ≡ child) → (IsRun command → output_after ≡ output)
    → LeavesApart arguments input input_after output output_after config config_after make make_after child child_after
leaves arguments command spelled input input_after output output_after config config_after make make_after child child_after unconfigured alone serving unfed childless running = record {
  unconfigured = λ none. unconfigured (none command spelled);
  alone = λ none. alone (none command spelled);
  serving = λ other too also. serving (of_one IsServing arguments command other spelled too also);
  unfed = λ other too also. unfed (of_one LeavesInput arguments command other spelled too also);
  childless = childless;
  running = λ task too. running (of_one IsRun arguments command (Run task) spelled too tt);
}
