use Rattle.std.proofs.Common.{◌≡◌, ◌-◌, ◌≤◌, length, take}
use Rattle.std.specs.Io.KnownBytes.{Appends, Keeps}
use Rattle.run_child.proofs.sending.send.Given as goal

abbrev pub invariant-loop-done : goal.invariant-loop-done
invariant-loop-done g l = record {
  within : l.done ≤ length l.bytes;
  so_far : Appends (g.L.Link.taken l.initial.link) (g.L.Link.taken l.link) (take l.done l.bytes);
  left : Keeps (g.L.Link.left l.initial.link) (g.L.Link.left l.link);
  count : g.L.Link.faults l.link ≡ g.L.Link.faults l.initial.link;
}

abbrev pub decreases-loop-done : goal.decreases-loop-done
decreases-loop-done g l = length l.bytes - l.done
