use Rattle.std.proofs.Common.{length, ap, ◌∙◌, ℕ, List, arith}
use Rattle.lf_base.specs.Endian.{be32_at}
use Rattle.wal_watch.proofs.ScanLemmas.{next_place}
use Rattle.wal_watch.proofs.WriteLemmas.{resized-whole}
use Rattle.wal_watch.proofs.frames.number_in.Goals as goal

pub returns : goal.returns
returns c =
    let contents = c.args.contents.now.bytes in
    c.number_at.ensures (length contents) (omega (arith, c.place_of.ensures, next_place contents c.args.frame, c.requires.there))
    ∙ ap (λ (t : List ℕ). be32_at c.place_of.result t) (resized-whole contents) ∙ ap (λ (p : ℕ). be32_at p contents) c.place_of.ensures
