use Rattle.std.proofs.Common.{◌≡◌, length}
use Rattle.std.specs.BTreeMap.{btree_map_len}
use Rattle.wal_watch.specs.Frames.{page_size_in}
use Rattle.wal_watch.specs.Searching.{AreTaken}
use Rattle.wal_watch.proofs.change.change_by.Given as goal

-- the change has the pages so far
abbrev pub invariant-loop-number : goal.invariant-loop-number
invariant-loop-number l = record {
  taken : AreTaken l.contents.bytes l.commit l.fn.frames.first l.fn.frames.count l.pages l.change;
  buffer : length l.page ≡ page_size_in l.contents.bytes;
}

abbrev pub decreases-loop-number : goal.decreases-loop-number
decreases-loop-number l = btree_map_len l.pages
