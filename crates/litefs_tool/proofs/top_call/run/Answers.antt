use Rattle.std.proofs.Common.{[], inl, refl, subst, sym}
use Rattle.std.proofs.KnownBytes.{Appends-nil}
use Rattle.litefs_tool.specs.Run.{Says, line_of}
use Rattle.litefs_tool.specs.Streams.{stream}
use Rattle.litefs_tool.specs.steps.Failure.{status_of_failure, name_of_failure}
use Rattle.litefs_tool.proofs.RunLemmas.{said}
use Rattle.litefs_tool.proofs.top_call.run.Goals as goal

pub returns-in-Ok-clause-outcome : goal.returns-in-Ok-clause-outcome
returns-in-Ok-clause-outcome g c = record {
  name = [];
  went = c.in-Ok.ensures.went;
  says = subst (λ e. Says (stream g.E.Sink.taken g.E.Sink.faults c.args.host.now.errors e) []) (sym c.in-Ok.ensures.quiet) (inl (refl, Appends-nil _));
}

pub returns-in-Err-clause-outcome : goal.returns-in-Err-clause-outcome
returns-in-Err-clause-outcome g c = rw c.status.ensures (record {
  name = name_of_failure c.in-Err.failure;
  went = c.in-Err.ensures.went;
  says =
      subst (λ e. Says (stream g.E.Sink.taken g.E.Sink.faults e c.report.new.errors) (line_of (status_of_failure c.in-Err.failure) (name_of_failure c.in-Err.failure)))
      c.in-Err.ensures.quiet (said c.report.result (stream g.E.Sink.taken g.E.Sink.faults c.perform.new.host.errors c.report.new.errors)
      (line_of (status_of_failure c.in-Err.failure) (name_of_failure c.in-Err.failure))
      c.report.ensures.whole c.report.ensures.prefix c.report.ensures.cause);
})
