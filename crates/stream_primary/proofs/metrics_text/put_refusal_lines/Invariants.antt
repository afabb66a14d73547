use Rattle.std.proofs.Common.{◌≡◌, ◌++◌, drop}
use Rattle.stream_primary.specs.MetricsText.{refusal_lines}
use Rattle.stream_primary.proofs.metrics_text.put_refusal_lines.Given as goal

-- what is written and the lines left are the lines of all
abbrev pub invariant-loop-one : goal.invariant-loop-one
invariant-loop-one l = l.out.items ++ refusal_lines (drop l.one-index l.refusals) ≡ l.fn.out.items ++ refusal_lines l.refusals
