use Rattle.std.proofs.Common.{◌∙◌}
use Rattle.stream_primary.proofs.Lines.{refusal_written}
use Rattle.stream_primary.proofs.metrics_text.put_refusal_lines.Goals as goal

pub loop-one-preserved : goal.loop-one-preserved
loop-one-preserved c =
    refusal_written c.args.refusals.now c.loop-one.one-index _ c.loop-one.out.items c.put_refusal.new.out.items c.loop-one-test.true c.in_ok-put_refusal.ensures
    ∙ c.loop-one.invariant
