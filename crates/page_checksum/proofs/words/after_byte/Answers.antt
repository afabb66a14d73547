use Rattle.page_checksum.proofs.WordLemmas.{byte_by_table}
use Rattle.page_checksum.proofs.words.after_byte.Goals as goal

pub returns : goal.returns
returns c = rw (c.after_zeros_1.ensures, c.from.ensures) (byte_by_table c.args.register c.args.byte)
