use Rattle.std.proofs.Common.{sym, ap, ◌∙◌, length, List, ℕ, arith}
use Rattle.wal_watch.specs.File.{contents_of}
use Rattle.wal_watch.proofs.PartLemmas.{page-whole}
use Rattle.wal_watch.proofs.file.WalFile.has_frame.Goals as goal

pub returns-then-page-page_size : goal.returns-then-page-page_size
returns-then-page-page_size c = (
  λ off. absurd cc,
  λ holds.
      let contents = contents_of c.args.self.now in
      let at = holds.1 in
      absurd (c.if-page-page_size.true
      (ap (λ (p : List ℕ). length p) (sym at.same) ∙ page-whole contents holds.0 at.among ∙ sym (c.page_size-page_size.ensures (omega (arith, at.among))))),
)
