use Rattle.std.proofs.Common.{◌≡◌, ◌∙◌, Some, sym, arith, rules}
use Rattle.lf_base.specs.FileBytes.{written}
use Rattle.wal_watch.specs.Indexing.{AreShared}
use Rattle.wal_watch.proofs.IndexLemmas.{shared-from}
use Rattle.wal_watch.proofs.StayLemmas.{marked-whole}
use Rattle.wal_watch.proofs.file.WalFile.write_within.Goals as goal

pub extend-requires-clause-count : goal.extend-requires-clause-count
extend-requires-clause-count c =
    c.committed_in-committed.ensures.count c.write_within.new.self.bytes
    (marked-whole c.write_within.new.self.bytes c.len.result c.marks_of-self-inside.result c.len.ensures.value c.marks_of-self-inside.ensures)

pub extend-requires-clause-index : goal.extend-requires-clause-index
extend-requires-clause-index c =
    let new = c.write_within.new.self.bytes in
    let shared : AreShared c.self.inside.contents.bytes c.write_within.new.self.bytes c.committed_in-self-inside.result = rw c.write_within.ensures.bytes
    (shared-from c.self.inside.contents.bytes (written c.args.at c.args.bytes.now c.self.inside.contents.bytes) c.kept_marks-from.result c.committed_in-self-inside.result c.kept_marks-from.ensures.shared
    c.committed_in-self-inside.ensures.none c.committed_in-self-inside.ensures.some) in
    c.go_over.ensures.index c.self.inside.contents.bytes new c.self.invariant.index shared.same

pub extend-requires-clause-among : goal.extend-requires-clause-among
extend-requires-clause-among c =
    let shared : AreShared c.self.inside.contents.bytes c.write_within.new.self.bytes c.committed_in-self-inside.result = rw c.write_within.ensures.bytes
    (shared-from c.self.inside.contents.bytes (written c.args.at c.args.bytes.now c.self.inside.contents.bytes) c.kept_marks-from.result c.committed_in-self-inside.result c.kept_marks-from.ensures.shared
    c.committed_in-self-inside.ensures.none c.committed_in-self-inside.ensures.some) in
    omega (arith, c.go_over.ensures.among, shared.there, extend-requires-clause-count c)

pub invariant_of-self : goal.invariant_of-self
invariant_of-self c =
    let shared : AreShared c.self.inside.contents.bytes c.write_within.new.self.bytes c.committed_in-self-inside.result = rw c.write_within.ensures.bytes
    (shared-from c.self.inside.contents.bytes (written c.args.at c.args.bytes.now c.self.inside.contents.bytes) c.kept_marks-from.result c.committed_in-self-inside.result c.kept_marks-from.ensures.shared
    c.committed_in-self-inside.ensures.none c.committed_in-self-inside.ensures.some) in
    record {
      absent = search rules;
      gone = search rules;
      marks = marked-whole c.write_within.new.self.bytes c.len.result c.marks_of-self-inside.result c.len.ensures.value c.marks_of-self-inside.ensures;
      saved = search rules;
      index = c.extend.ensures.index;
      few = omega (
        arith,
        c.extend.ensures.among,
        c.committed_in-committed.ensures.count c.write_within.new.self.bytes
            (marked-whole c.write_within.new.self.bytes c.len.result c.marks_of-self-inside.result c.len.ensures.value c.marks_of-self-inside.ensures),
      );
      shared = λ old is. let same : Some c.self.inside.contents.bytes ≡ Some old = sym c.write_within.ensures.before ∙ is in let own : c.self.inside.contents.bytes ≡ old = cc in rw (← own) shared;
    }
