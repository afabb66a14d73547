use Rattle.std.proofs.Common.{◌+◌, ◌/◌, ◌∙◌, ap, ℕ, Bool, arith}
use Rattle.lf_base.specs.FileBytes.{resized}
use Rattle.wal_watch.specs.Sums.{with_pairs}
use Rattle.wal_watch.specs.Frames.{frame_sums, is_little}
use Rattle.wal_watch.specs.declared.sums.Sums.{Sums}
use Rattle.wal_watch.proofs.PieceLemmas.{part-pairs}
use Rattle.wal_watch.proofs.header.Header.frame_sums.Goals as goal

pub returns : goal.returns
unfolding frame_sums
returns c = λ len states fits is.
    let contents = resized len c.args.blocks.now.bytes in
    let place = c.args.place in
    let header = c.args.self.now in
    c.sums_on.ensures len (omega (arith, fits))
    ∙ ap (λ (s : Sums). with_pairs header.little s (place + 24) contents (header.page_size / 8))
    (c.with_pairs-behind_head.ensures ∙ part-pairs contents c.args.head.now place 24 is header.little c.args.sums 1 (omega arith))
    ∙ ap (λ (little : Bool). with_pairs little (with_pairs little c.args.sums place contents 1) (place + 24) contents (header.page_size / 8)) states.little
    ∙ ap (λ (size : ℕ). with_pairs (is_little contents) (with_pairs (is_little contents) c.args.sums place contents 1) (place + 24) contents (size / 8)) states.page_size
