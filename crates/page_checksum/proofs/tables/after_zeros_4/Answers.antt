use Rattle.std.proofs.Common.{arith}
use Rattle.page_checksum.proofs.TableLemmas.{table_4-is}
use Rattle.page_checksum.proofs.tables.after_zeros_4.Goals as goal

pub returns : goal.returns
returns c = rw c.from.ensures (table_4-is c.args.byte (omega arith))
