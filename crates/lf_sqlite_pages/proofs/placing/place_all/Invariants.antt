use Rattle.std.proofs.Common.{◌≡◌, length}
use Rattle.std.specs.Vec.Iter.{into_iter_items, into_iter_len}
use Rattle.lf_sqlite_pages.proofs.PlacingLemmas.{Placing}
use Rattle.lf_sqlite_pages.proofs.placing.place_all.Given as goal

abbrev pub invariant-loop-write : goal.invariant-loop-write
invariant-loop-write l = record {
  counted : into_iter_len l.write-iterator ≡ length (into_iter_items l.write-iterator);
  placing : Placing l.fn.change l.fn.pages.items l.pages.items (into_iter_items l.write-iterator);
}
