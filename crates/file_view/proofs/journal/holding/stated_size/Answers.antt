-- An active journal has the four bytes.
use Rattle.std.proofs.Common.{refl, ap, ◌∙◌}
use Rattle.std.specs.Int.{w32, from_be_bytes}
use Rattle.lf_base.specs.Endian.{be32_at}
use Rattle.file_view.proofs.ReadLemmas.{size_read}
use Rattle.file_view.proofs.journal.holding.stated_size.Goals as goal

pub returns : goal.returns
unfolding be32_at
returns c = c.from_be_bytes.ensures ∙ ap (from_be_bytes w32) (size_read c.args.file.now.file _ _ _ refl c.requires c.read.ensures)
