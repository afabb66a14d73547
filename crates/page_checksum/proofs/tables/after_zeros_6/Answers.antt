use Rattle.std.proofs.Common.{arith}
use Rattle.page_checksum.proofs.TableLemmas.{table_6-is}
use Rattle.page_checksum.proofs.tables.after_zeros_6.Goals as goal

pub returns : goal.returns
returns c = rw c.from.ensures (table_6-is c.args.byte (omega arith))
