use Rattle.std.proofs.Common.{◌≡◌, ◌+◌, ◌++◌, ◌≤◌, vec_len, vec_capacity, take}
use Rattle.std.specs.List.{filter}
use Rattle.byte_locks.specs.LockList.{is_missing, entries_for}
use Rattle.byte_locks.proofs.grant.append_missing.Given as goal

abbrev pub invariant-loop-lock : goal.invariant-loop-lock
invariant-loop-lock l = record {
  items : l.entries.items ≡ l.initial.entries.items
      ++ entries_for l.owner (filter (is_missing l.initial.entries.items l.owner l.locks) (take l.lock-index l.lock-items)) l.kind;
  room : vec_len l.entries + 14 ≤ vec_capacity l.entries + l.lock-index;
}
