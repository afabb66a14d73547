use Rattle.std.proofs.Common.{◌-◌, refl, sym, ap, ◌∙◌, arith}
use Rattle.std.proofs.KnownBytes.{Keeps-trans}
use Rattle.run_child.specs.Talk.{place}
use Rattle.run_child.proofs.Filled.{heard_more, part_ended, part_failed, part_spent}
use Rattle.run_child.proofs.filling.fill.Goals as goal

pub loop-done-preserved : goal.loop-done-preserved
loop-done-preserved g c = record {
  within = omega (arith, c.in-Ok.ensures.count, c.read_behind.ensures.size, c.loop-done.invariant.within);
  size = c.read_behind.ensures.size ∙ c.loop-done.invariant.size;
  heard = heard_more c.loop-done.done c.in-Ok.count c.loop-done.out c.read_behind.new.out
      (place g.L.Link c.args.link.now c.args.room.now) (place g.L.Link c.loop-done.link c.loop-done.room)
      (place g.L.Link c.read_behind.new.link (c.loop-done.room - c.in-Ok.count))
      c.loop-done.invariant.heard c.read_behind.ensures.front c.in-Ok.ensures.bytes
      (omega (arith, c.in-Ok.ensures.count)) (omega (arith, c.in-Ok.ensures.count, c.read_behind.ensures.size));
  taken = Keeps-trans _ _ _ c.loop-done.invariant.taken c.read_behind.ensures.taken;
  count = c.in-Ok.ensures.cause ∙ c.loop-done.invariant.count;
}
