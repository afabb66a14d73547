use Rattle.std.proofs.Common.{◌≡◌, ◌+◌, true}
use Rattle.std.specs.List.{list_all, range_with_len}
use Rattle.wal_watch.specs.File.{contents_of}
use Rattle.database_file.specs.Writing.{page_in}
use Rattle.file_view.specs.DatabaseRules.{holds_frame}
use Rattle.file_view.proofs.database.hold_frames.Given as goal

-- the pages so far are held
abbrev pub invariant-loop-at : goal.invariant-loop-at
invariant-loop-at l = list_all (λ k. holds_frame (contents_of l.log) (l.first + k) (page_in l.bytes l.size k)) (range_with_len 0 l.at) ≡ true
