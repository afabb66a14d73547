use Rattle.ltx_codec.proofs.LawLemmas.{one_reading_lem}
use Rattle.ltx_codec.proofs.laws.one_reading.Goals as goal

pub returns : goal.returns
returns c = one_reading_lem
