use Rattle.std.proofs.Common.{◌≡◌, ◌-◌, ◌<◌, ◌≤◌, length, take}
use Rattle.std.specs.Io.KnownBytes.{Appends, Keeps}
use Rattle.link_session.specs.Spending.{Moves}
use Rattle.link_session.proofs.session.write_whole.Given as goal

abbrev pub invariant-loop-done : goal.invariant-loop-done
invariant-loop-done g l = record {
  within : l.done ≤ length l.bytes;
  so_far : Appends (g.L.Link.taken l.initial.link) (g.L.Link.taken l.link) (take l.done l.bytes);
  left : Keeps (g.L.Link.left l.initial.link) (g.L.Link.left l.link);
  given : Keeps (g.L.Link.given l.initial.link) (g.L.Link.given l.link);
  turns : l.turns ≤ l.initial.turns;
  some : 0 < l.done → l.turns < l.initial.turns;
  spent : Moves l.initial.turns (g.L.Link.moves l.initial.link) l.turns (g.L.Link.moves l.link);
  count : g.L.Link.faults l.link ≡ g.L.Link.faults l.initial.link;
}

abbrev pub decreases-loop-done : goal.decreases-loop-done
decreases-loop-done g l = length l.bytes - l.done
