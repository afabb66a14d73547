use Rattle.std.proofs.Common.{◌∙◌, sym, ap, ℕ}
use Rattle.std.proofs.lemmas.Bool.{cond-true, cond-false, eq-eqb, ne_eqb}
use Rattle.wal_watch.specs.Frames.{committed_count, frame_place}
use Rattle.wal_watch.proofs.ScanLemmas.{final-count}
use Rattle.wal_watch.proofs.scan.Marks.committed_end.Goals as goal

pub returns-then-self-eq0 : goal.returns-then-self-eq0
returns-then-self-eq0 c = λ contents final. sym (cond-true _ _ _ (eq-eqb (committed_count contents) 0 (sym (final-count contents c.args.self final) ∙ c.if-self-eq0.true)))

pub returns-else-self-eq0 : goal.returns-else-self-eq0
returns-else-self-eq0 c = λ contents final.
    let count = final-count contents c.args.self final in
    final.behind.committed.place ∙ ap (λ (k : ℕ). frame_place contents k) count ∙ sym (cond-false _ _ _ (ne_eqb (committed_count contents) 0 (λ none. c.if-self-eq0.false (count ∙ none))))
