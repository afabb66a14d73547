use Rattle.std.proofs.Common.{length, sym, ap, ◌∙◌}
use Rattle.lf_sqlite_pages.specs.Blocks.{BlockList}
use Rattle.lf_sqlite_pages.proofs.BlockLemmas.{length-bytes_in}
use Rattle.lf_sqlite_pages.proofs.blocks.Blocks.len.Goals as goal

pub returns-clause-value : goal.returns-clause-value
returns-clause-value c = sym (length-bytes_in c.self.inside.len c.self.inside.blocks.items) ∙ ap (λ (b : BlockList). length b.bytes) c.self.view_is
