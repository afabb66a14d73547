use Rattle.std.proofs.Common.{refl, [], arith}
use Rattle.wal_watch.proofs.FrontLemmas.{short_header}
use Rattle.wal_watch.proofs.file.WalFile.new.Goals as goal

pub invariant_of-result : goal.invariant_of-result
invariant_of-result c = rw c.new.ensures record {
  absent = λ off. refl;
  gone = λ off. refl;
  marks = short_header [] (omega arith);
  saved = λ old is. cc;
  index = c.new-2.ensures.index [];
  few = omega (arith, c.new-2.ensures.none);
  shared = λ old is. cc;
}
