use Rattle.std.proofs.Common.{◌+◌}
use Rattle.std.specs.Option.{option_map, unwrap_or}
use Rattle.wal_watch.specs.Indexing.{AreLeft}
use Rattle.wal_watch.proofs.finding.holds_frame.Given as goal

-- the frames that hold the page with these bytes are still to be looked at
abbrev pub invariant-loop-next : goal.invariant-loop-next
invariant-loop-next l = AreLeft l.contents.bytes l.count l.number l.page l.next

abbrev pub decreases-loop-next : goal.decreases-loop-next
decreases-loop-next l = unwrap_or (option_map (λ k. k + 1) l.next) 0
