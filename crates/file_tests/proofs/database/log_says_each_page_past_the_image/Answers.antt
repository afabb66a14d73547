-- A new file keeps no page.
use Rattle.std.proofs.Common.{ap, sym, ◌∙◌}
use Rattle.std.specs.FinMap as pages
use Rattle.database_file.specs.DatabaseFile.{DatabaseFile}
use Rattle.database_file.proofs.CleanLemmas.{empty-none}
use Rattle.file_tests.proofs.database.log_says_each_page_past_the_image.Goals as goal

pub change_over-requires : goal.change_over-requires
change_over-requires g c = record {
  whole = λ n page is. absurd (empty-none n page (sym (ap (λ (f : DatabaseFile). pages.get f.kept n) c.new-file.ensures.value) ∙ is));
}
