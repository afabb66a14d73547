use Rattle.std.proofs.Common.{◌≡◌, ◌++◌, drop}
use Rattle.stream_primary.specs.EventLines.{tx_lines}
use Rattle.stream_primary.proofs.event_lines.put_files.Given as goal

-- what is written and the lines left are the lines of all
abbrev pub invariant-loop-file : goal.invariant-loop-file
invariant-loop-file l = l.out.items ++ tx_lines l.name l.info (drop l.file-index l.files) ≡ l.fn.out.items ++ tx_lines l.name l.info l.files
