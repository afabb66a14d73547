-- What happens beside requests leaves the image.
use Rattle.std.proofs.Common.{Some, length}
use Rattle.file_view.specs.Endings.{dropped}
use Rattle.conversations.proofs.StandingLemmas.{stand-same}
use Rattle.conversations.proofs.files.Files.drop_uncommitted.Goals as goal

pub invariant_of-self : goal.invariant_of-self
invariant_of-self c =
    let old = c.args.self.now in
    record {
      stand = stand-same old.image (dropped old.view) c.drop_uncommitted.new.self c.drop_uncommitted.ensures
          (c.endings_keep_the_image.ensures.dropped old.view (Some old.image) old.image.page_size (length old.image.pages)
          c.commit-pages.ensures.valid.of_a_page_size old.stand.over);
    }
