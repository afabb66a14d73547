use Rattle.std.proofs.Common.{◌≡◌, ◌∙◌, Some, None, sym, arith}
use Rattle.wal_watch.proofs.IndexLemmas.{index-stays}
use Rattle.wal_watch.proofs.file.WalFile.undo.Goals as goal

pub invariant_of-self : goal.invariant_of-self
invariant_of-self c =
    let kept = c.self.invariant in
    let back = c.undo.new.self.bytes in
    let shared = kept.shared c.undo.new.self.bytes (sym c.undo.ensures.bytes) in
    record {
      absent = λ off. absurd (let none : Some c.undo.new.self.bytes ≡ None = c.undo.ensures.bytes ∙ kept.gone off in cc);
      gone = λ off. c.undo.ensures.before;
      marks = kept.saved c.undo.new.self.bytes (sym c.undo.ensures.bytes);
      saved = λ old is. absurd (let none : None ≡ Some old = sym c.undo.ensures.before ∙ is in cc);
      index = index-stays c.self.inside.contents.bytes back c.truncate.new.self c.truncate.ensures.index (λ k less. sym (shared.same k (omega (arith, less, c.truncate.ensures.among))));
      few = omega (arith, c.truncate.ensures.among, shared.among);
      shared = λ old is. absurd (let none : None ≡ Some old = sym c.undo.ensures.before ∙ is in cc);
    }
