use Rattle.std.proofs.Common.{refl}
use Rattle.lf_base.specs.Hex.{hex_digits}
use Rattle.lf_base.proofs.pos.pos_text.Goals as goal

pub returns : goal.returns
unfolding hex_digits
returns c = rw (c.hex16-txid.ensures, c.hex16-sum.ensures) refl
