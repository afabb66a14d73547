-- A message was compared with what became of it, where the database stands afterwards.
use Rattle.std.proofs.Common.{inl}
use Rattle.conversations.proofs.replay.Replay.hear.Goals as goal

pub returns-clause-heard : goal.returns-clause-heard
returns-clause-heard c = inl (
  c.in-Ok.request,
  c.in_ok-outcome.outcome,
  record {
    message_is = rw c.as_slice.ensures.value at c.in-Ok.ensures.message;
    answered = c.in_ok-outcome.ensures.answered;
    same = rw c.position-position.ensures at c.in_ok-outcome_differs.ensures.same;
    differs = rw c.position-position.ensures at c.in_ok-outcome_differs.ensures.differs;
  },
)
