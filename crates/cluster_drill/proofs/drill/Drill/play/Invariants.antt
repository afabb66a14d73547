use Rattle.std.proofs.Common.{◌≡◌, ◌≤◌}
use Rattle.cluster_drill.specs.Nodes.{place}
use Rattle.cluster_drill.proofs.drill.Drill.play.Given as goal

-- the primary is at the transaction of the turn
abbrev pub invariant-loop-turn : goal.invariant-loop-turn
invariant-loop-turn l = ((place l.self.primary).txid ≡ l.turn) × (l.turn ≤ 64) × (l.self.number ≡ l.fn.self.number)
