use Rattle.std.proofs.Common.{arith}
use Rattle.page_checksum.proofs.TableLemmas.{table_7-is}
use Rattle.page_checksum.proofs.tables.after_zeros_7.Goals as goal

pub returns : goal.returns
returns c = rw c.from.ensures (table_7-is c.args.byte (omega arith))
