use Rattle.std.proofs.Common.{◌≡◌}
use Rattle.cluster_drill.specs.Nodes.{place}
use Rattle.cluster_drill.proofs.follower.Follower.follows.Given as goal

-- the primary stands where it stood
abbrev pub invariant-loop : goal.invariant-loop
invariant-loop l = place l.primary ≡ place l.fn.primary
