use Rattle.std.proofs.Common.{◌≡◌, ◌++◌, All, drop}
use Rattle.node_objects.specs.Lines.{IsShown, shown}
use Rattle.node_objects.proofs.line.put_shown.Given as goal

-- what was put so far and what is left is all; and none of it is a control character
abbrev pub invariant-loop-byte : goal.invariant-loop-byte
invariant-loop-byte l = record {
  put : l.text.items ++ shown (drop l.byte-index l.bytes) ≡ l.fn.text.items ++ shown l.bytes;
  shown : All IsShown l.text.items;
}
