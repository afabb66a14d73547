use Rattle.std.proofs.Common.{arith}
use Rattle.node_recovery.proofs.piece_reader.are_bytes.Goals as goal

pub returns : goal.returns
returns c = λ i. omega (arith, c.type_inv.piece i)
