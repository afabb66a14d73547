-- What was kept is taken back.
use Rattle.std.proofs.Common.{ap, ◌∙◌}
use Rattle.lf_sqlite_pages.specs.Overlay.{PageOverlay}
use Rattle.database_file.proofs.ZeroLemmas.{cut_back}
use Rattle.database_file.proofs.keeping.keep_zeros.Goals as goal

pub returns-in-Err-clause-err : goal.returns-in-Err-clause-err
returns-in-Err-clause-err g c =
    ap (λ (o : PageOverlay). o.pages) c.cut.ensures
    ∙ cut_back c.args.kept.now.pages c.fill.new.kept.pages c.args.span.before c.fill.ensures.before c.requires.none
