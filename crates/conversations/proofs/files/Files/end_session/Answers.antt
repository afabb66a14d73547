-- What happens beside requests leaves the image.
use Rattle.std.proofs.Common.{Some, length}
use Rattle.file_view.specs.Endings.{ended}
use Rattle.conversations.proofs.StandingLemmas.{stand-same}
use Rattle.conversations.proofs.files.Files.end_session.Goals as goal

pub invariant_of-self : goal.invariant_of-self
invariant_of-self c =
    let old = c.args.self.now in
    record {
      stand = stand-same old.image (ended old.view c.args.link) c.end_session.new.self c.end_session.ensures
          (c.endings_keep_the_image.ensures.ended old.view c.args.link (Some old.image) old.image.page_size (length old.image.pages)
          c.commit-pages.ensures.valid.of_a_page_size old.stand.over);
    }
