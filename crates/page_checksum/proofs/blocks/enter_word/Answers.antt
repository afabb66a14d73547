use Rattle.std.proofs.Common.{ℕ, ◌<◌, ◌^◌, subst, arith}
use Rattle.page_checksum.proofs.WordLemmas.{word_entered}
use Rattle.page_checksum.proofs.blocks.enter_word.Goals as goal

pub returns : goal.returns
returns c =
    let small = subst (λ (n : ℕ). n < 2 ^ 64) c.from_le_bytes.ensures c.from_le_bytes.type_inv in
    rw (c.to_le_bytes.ensures, c.from_le_bytes.ensures) (word_entered c.args.register c.args.word.now (omega arith) small c.told-word c.fits-word)
