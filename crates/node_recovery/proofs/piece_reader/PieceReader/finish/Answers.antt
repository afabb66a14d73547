use Rattle.node_recovery.proofs.PieceReaders.{ended_as}
use Rattle.node_recovery.proofs.piece_reader.PieceReader.finish.Goals as goal

pub returns-in-Some : goal.returns-in-Some
returns-in-Some c encoding change come = ended_as c.args.self.now encoding change c.in-Some.fault c.in-Some.is come
