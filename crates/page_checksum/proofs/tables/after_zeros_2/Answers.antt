use Rattle.std.proofs.Common.{arith}
use Rattle.page_checksum.proofs.TableLemmas.{table_2-is}
use Rattle.page_checksum.proofs.tables.after_zeros_2.Goals as goal

pub returns : goal.returns
returns c = rw c.from.ensures (table_2-is c.args.byte (omega arith))
