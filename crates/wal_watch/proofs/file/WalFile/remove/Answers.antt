use Rattle.std.proofs.Common.{refl, [], arith}
use Rattle.wal_watch.proofs.FrontLemmas.{short_header}
use Rattle.wal_watch.proofs.file.WalFile.remove.Goals as goal

pub invariant_of-self : goal.invariant_of-self
invariant_of-self c = rw c.clear.ensures record {
  absent = λ off. refl;
  gone = λ off. refl;
  marks = short_header [] (omega arith);
  saved = λ old is. cc;
  index = c.new.ensures.index [];
  few = omega (arith, c.new.ensures.none);
  shared = λ old is. cc;
}
