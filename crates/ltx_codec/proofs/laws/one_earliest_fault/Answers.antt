use Rattle.ltx_codec.proofs.OneFault.{one_earliest}
use Rattle.ltx_codec.proofs.laws.one_earliest_fault.Goals as goal

pub returns : goal.returns
returns c = one_earliest
