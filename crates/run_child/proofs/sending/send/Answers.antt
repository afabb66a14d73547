use Rattle.std.proofs.Common.{◌++◌, take, ap, ◌∙◌, subst, arith}
use Rattle.std.specs.Io.KnownBytes.{Appends}
use Rattle.std.proofs.KnownBytes.{Appends-trans, Keeps-trans}
use Rattle.run_child.proofs.Lists.{take_two}
use Rattle.run_child.proofs.sending.send.Goals as goal

pub loop-done-preserved : goal.loop-done-preserved
loop-done-preserved g c = record {
  within = omega (arith, c.in-Ok.ensures.count.0, c.split_at.ensures.back_len);
  so_far = subst (λ text. Appends (g.L.Link.taken c.args.link.now) (g.L.Link.taken c.write.new.self) text)
      (ap (λ rest. take c.loop-done.done c.args.bytes.now ++ take c.in-Ok.count rest) c.split_at.ensures.back
      ∙ take_two c.loop-done.done c.in-Ok.count c.args.bytes.now)
      (Appends-trans _ _ _ _ _ c.loop-done.invariant.so_far c.in-Ok.ensures.bytes);
  left = Keeps-trans _ _ _ c.loop-done.invariant.left c.write.ensures.left;
  count = c.in-Ok.ensures.cause ∙ c.loop-done.invariant.count;
}
