use Rattle.std.proofs.Common.{◌≡◌, take}
use Rattle.node_mount.specs.Noting.{AreOthers}
use Rattle.node_mount.proofs.repeats.Repeated.place_of.Given as goal

-- none of those so far
abbrev pub invariant-loop-place : goal.invariant-loop-place
invariant-loop-place l = AreOthers (take l.place l.self.each.items) l.kind l.line
