use Rattle.std.proofs.Common.{IsTrue}
use Rattle.link_session.proofs.Talking.{round_served}
use Rattle.link_session.proofs.laws.rounds_follow.Goals as goal

pub returns-clause-more : goal.returns-clause-more
returns-clause-more g c = λ is start before read after l0 l1 l2 t0 t1 t2 e0 e1 talked kept written one left next.
    round_served (λ round. IsTrue (is round)) start before read after l0 l1 l2 t0 t1 t2 e0 e1 talked kept written one left next
