-- The files stand over the image with the change.
use Rattle.conversations.proofs.StandingLemmas.{stand-committed}
use Rattle.conversations.proofs.files.Files.commit.Goals as goal

pub invariant_of-self-2 : goal.invariant_of-self-2
invariant_of-self-2 c =
    let old = c.args.self.now in
    record {
      stand = stand-committed old.image c.apply.new.self c.args.change.now old.view c.commit_done.new.self c.in_ok-apply.ensures.ok
          c.commit_done.ensures.done c.requires;
    }
