use Rattle.std.proofs.Common.{◌-◌, length-set, ◌∙◌}
use Rattle.lf_base.proofs.HexLemmas.{digit_put, all_stand}
use Rattle.lf_base.proofs.digits.hex16.Goals as goal

pub loop-place-preserved : goal.loop-place-preserved
loop-place-preserved c = (
  length-set c.loop-place.text (15 - c.loop-place.place) c.digit.result ∙ c.loop-place.invariant.0,
  digit_put c.loop-place.place c.loop-place.number c.digit.result c.args.number c.loop-place.text c.loop-place-test.true c.loop-place.invariant.0 c.digit.ensures c.loop-place.invariant.1,
)

pub returns : goal.returns
returns c = all_stand c.loop-place.place c.loop-place.number c.args.number c.loop-place.text c.loop-place-test.false c.loop-place.invariant.1
