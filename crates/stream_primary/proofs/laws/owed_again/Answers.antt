use Rattle.stream_primary.proofs.Streams.{owes_still}
use Rattle.stream_primary.proofs.laws.owed_again.Goals as goal

pub returns : goal.returns
returns c = λ who name from old new turns streams. owes_still who name from old new turns streams
