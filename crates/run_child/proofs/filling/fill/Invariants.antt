use Rattle.std.proofs.Common.{◌≡◌, ◌-◌, ◌≤◌, length, take}
use Rattle.std.specs.Io.KnownBytes.{Keeps}
use Rattle.run_child.specs.Talk.{Heard, place}
use Rattle.run_child.proofs.filling.fill.Given as goal

abbrev pub invariant-loop-done : goal.invariant-loop-done
invariant-loop-done g l = record {
  within : l.done ≤ length l.out;
  size : length l.out ≡ length l.initial.out;
  heard : Heard (take l.done l.out) (place g.L.Link l.initial.link l.initial.room) (place g.L.Link l.link l.room);
  taken : Keeps (g.L.Link.taken l.initial.link) (g.L.Link.taken l.link);
  count : g.L.Link.faults l.link ≡ g.L.Link.faults l.initial.link;
}

abbrev pub decreases-loop-done : goal.decreases-loop-done
decreases-loop-done g l = length l.out - l.done
