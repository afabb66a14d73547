-- So far the pages were put, and there is room for the others.
use Rattle.std.proofs.Common.{◌-◌, length}
use Rattle.database_file.specs.WritingParts.{HasRooms, ArePut}
use Rattle.database_file.proofs.keeping.put_all.Given as goal

abbrev pub invariant-loop-at : goal.invariant-loop-at
invariant-loop-at l = record {
  room : HasRooms l.kept (length l.same - l.at) l.size;
  put : ArePut l.fn.kept.pages l.first l.bytes l.size l.at l.same l.kept.pages;
}
