-- The header is the same.
use Rattle.std.proofs.Common.{◌≡◌, ◌∙◌, ap, sym, false, not, take, refl, List, ℕ, subst}
use Rattle.std.specs.Str.{bytes_eq}
use Rattle.lf_base.specs.FileBytes.{written}
use Rattle.wal_watch.specs.File.{contents_of}
use Rattle.file_view.specs.LogRules.{log_after}
use Rattle.file_view.specs.Served.{log_contents}
use Rattle.file_view.proofs.LogWriteLemmas.{same-header}
use Rattle.file_view.proofs.view.View.begins_anew.Goals as goal

pub returns-else-changes_header-clause-value : goal.returns-else-changes_header-clause-value
returns-else-changes_header-clause-value c =
    let contents : contents_of c.self.inside.log ≡ log_contents c.args.self.now = ap log_contents c.self.view_is in
    let same = same-header (take 32 (written c.args.at c.args.bytes.now (contents_of c.self.inside.log))) (take 32 (contents_of c.self.inside.log)) c.changes_header.result
    c.changes_header.ensures.1 c.if-changes_header.false in
    let off : not (bytes_eq (take 32 (log_after c.args.self.now c.args.at c.args.bytes.now)) (take 32 (log_contents c.args.self.now))) ≡ false =
    subst (λ (t : List ℕ). not (bytes_eq (take 32 (written c.args.at c.args.bytes.now t)) (take 32 t)) ≡ false) contents same in
    c.if-changes_header.false ∙ sym (rw off refl)
