use Rattle.std.proofs.Common.{◌∙◌, ap, ℕ, arith, add-zero}
use Rattle.lf_base.specs.FileBytes.{resized}
use Rattle.lf_base.specs.Endian.{be32_at}
use Rattle.wal_watch.proofs.PieceLemmas.{part-be32}
use Rattle.wal_watch.proofs.reader.number_at.Goals as goal

pub returns : goal.returns
returns c = λ len fits.
    c.be32_at.ensures
    ∙ part-be32 (resized len c.args.blocks.now.bytes) c.fill.new.out c.args.place 4 (c.fill.ensures len fits) 0 (omega arith)
    ∙ ap (λ (p : ℕ). be32_at p (resized len c.args.blocks.now.bytes)) (add-zero c.args.place)
