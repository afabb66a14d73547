use Rattle.ltx_codec.proofs.AgreeLemmas.{fault_stays_lem}
use Rattle.ltx_codec.proofs.laws.fault_stays.Goals as goal

pub returns : goal.returns
returns c = fault_stays_lem
