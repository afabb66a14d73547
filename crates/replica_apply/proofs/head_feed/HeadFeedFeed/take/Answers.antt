use Rattle.std.proofs.Common.{true, ◌++◌, subst}
use Rattle.link_session.specs.Reading.{Faulted}
use Rattle.stream_wire.specs.Head.{NeverTakesResponse}
use Rattle.replica_apply.specs.Heads.{HeadBytes}
use Rattle.replica_apply.proofs.head_feed.HeadFeedFeed.take.Goals as goal

pub returns-in-Err-clause-fault : goal.returns-in-Err-clause-fault
returns-in-Err-clause-fault c =
    subst (λ (v : HeadBytes). Faulted true NeverTakesResponse (v.held ++ c.args.piece.now) c.in-Err.fault) c.self.view_is c.in-Err.ensures.fault
