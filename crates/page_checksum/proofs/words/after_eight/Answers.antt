use Rattle.std.proofs.Common.{arith}
use Rattle.page_checksum.proofs.WordLemmas.{eight_by_tables}
use Rattle.page_checksum.proofs.words.after_eight.Goals as goal

pub returns : goal.returns
returns c =
    rw (c.after_zeros_8.ensures, c.after_zeros_7.ensures, c.after_zeros_6.ensures, c.after_zeros_5.ensures, c.after_zeros_4.ensures, c.after_zeros_3.ensures, c.after_zeros_2.ensures, c.after_zeros_1.ensures, c.to_le_bytes.ensures)
    (eight_by_tables c.args.register (omega arith))
