-- A new view stands over every image.
use Rattle.std.proofs.Common.{Some, length}
use Rattle.file_view.specs.Views.{new_view}
use Rattle.conversations.proofs.StandingLemmas.{stand-same}
use Rattle.conversations.proofs.files.Files.new.Goals as goal

pub invariant_of-result : goal.invariant_of-result
invariant_of-result c =
    let image = c.args.image in
    let name = c.args.name.now in
    record {
      stand = stand-same image (new_view name) c.in_ok-view.view c.in_ok-view.ensures.value
          (c.new_view_stands.ensures name (Some image) image.page_size (length image.pages) c.commit-pages.ensures.valid.of_a_page_size);
    }
