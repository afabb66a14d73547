-- After another image the files stand over it.
use Rattle.std.proofs.Common.{◌≤◌, Some, length, sym, subst, ℕ}
use Rattle.conversations.proofs.StandingLemmas.{image-page_size, stand-applied}
use Rattle.conversations.proofs.files.Files.apply.Goals as goal

pub applied-requires : goal.applied-requires
applied-requires c = subst (λ (n : ℕ). n ≤ 65536) (sym c.page_size.ensures) (image-page_size c.args.image c.commit-pages.ensures.valid)

pub invariant_of-self : goal.invariant_of-self
invariant_of-self c =
    let image = c.args.image in
    let old = c.args.self.now.view in
    record {
      stand = stand-applied image c.page_size.result c.commit-pages.result old c.applied.new.self c.page_size.ensures c.commit-pages.ensures.value
          c.applied.ensures.done
          (c.applied_view_stands.ensures old (Some image) image.page_size (length image.pages) c.commit-pages.ensures.valid.of_a_page_size);
    }
