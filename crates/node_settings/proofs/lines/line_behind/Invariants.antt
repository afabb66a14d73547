use Rattle.std.proofs.Common.{◌≡◌, ◌==◌, ◌+◌, take}
use Rattle.std.specs.List.{count_by}
use Rattle.node_settings.proofs.lines.line_behind.Given as goal

abbrev pub invariant-loop-byte : goal.invariant-loop-byte
invariant-loop-byte l = l.line ≡ count_by (λ b. b == 10) (take l.byte-index (take l.at l.text)) + 1
