use Rattle.std.proofs.Common.{◌+◌, length, take, drop, ap, ◌∙◌, ℕ, List, arith}
use Rattle.wal_watch.specs.Frames.{frame_place}
use Rattle.wal_watch.proofs.ScanLemmas.{next_place}
use Rattle.wal_watch.proofs.WriteLemmas.{resized-whole}
use Rattle.wal_watch.proofs.frames.fill_page.Goals as goal

pub returns : goal.returns
returns c =
    let contents = c.args.contents.now.bytes in
    let size = length c.args.out.now in
    c.fill.ensures (length contents) (omega (arith, c.place_of.ensures, next_place contents c.args.frame, c.requires.there, c.requires.whole, c.requires.size))
    ∙ ap (λ (t : List ℕ). take size (drop (c.place_of.result + 24) t)) (resized-whole contents)
    ∙ ap (λ (p : ℕ). take size (drop (p + 24) contents)) c.place_of.ensures
    ∙ ap (λ (n : ℕ). take n (drop (frame_place contents c.args.frame + 24) contents)) (c.requires.whole ∙ c.requires.size)
