use Rattle.std.proofs.Common.{◌++◌, take, ap, ◌∙◌, subst, arith}
use Rattle.std.specs.Io.KnownBytes.{Appends}
use Rattle.std.proofs.KnownBytes.{Appends-trans, Keeps-trans}
use Rattle.link_session.proofs.Lists.{take_two}
use Rattle.link_session.proofs.Spending.{one_move}
use Rattle.link_session.proofs.session.write_whole.Goals as goal

pub loop-done-preserved : goal.loop-done-preserved
loop-done-preserved g c = record {
  within = omega (arith, c.in-Ok-write.ensures.count.0, c.split_at.ensures.back_len);
  so_far = subst (λ text. Appends (g.L.Link.taken c.args.link.now) (g.L.Link.taken c.write.new.self) text)
      (ap (λ rest. take c.loop-done.done c.args.bytes.now ++ take c.in-Ok-write.count rest) c.split_at.ensures.back
      ∙ take_two c.loop-done.done c.in-Ok-write.count c.args.bytes.now)
      (Appends-trans _ _ _ _ _ c.loop-done.invariant.so_far c.in-Ok-write.ensures.bytes);
  left = Keeps-trans _ _ _ c.loop-done.invariant.left c.write.ensures.left;
  given = Keeps-trans _ _ _ c.loop-done.invariant.given c.write.ensures.given;
  turns = omega (arith, c.in-Ok.ensures.taken, c.loop-done.invariant.turns);
  some = λ h. omega (arith, c.in-Ok.ensures.taken, c.loop-done.invariant.turns);
  spent = one_move _ _ _ _ _ _ c.in-Ok-write.count c.loop-done.invariant.spent c.in-Ok.ensures.taken
      (c.in-Ok-write.ensures.count.1 (omega (arith, c.split_at.ensures.back_len, c.loop-done-test.true))) c.in-Ok-write.ensures.moves;
  count = c.in-Ok-write.ensures.cause ∙ c.loop-done.invariant.count;
}
