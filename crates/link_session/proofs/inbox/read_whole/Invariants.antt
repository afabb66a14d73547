use Rattle.std.proofs.Common.{◌≡◌, ◌≤◌}
use Rattle.std.specs.Io.KnownBytes.{Keeps}
use Rattle.link_session.specs.declared.stage.Stage.TheVariants as stages
use Rattle.link_session.specs.Reach.{reach_of}
use Rattle.link_session.specs.Reading.{text_of}
use Rattle.link_session.specs.Spending.{Moves}
use Rattle.link_session.proofs.inbox.read_whole.Given as goal

abbrev pub invariant-loop-turns : goal.invariant-loop-turns
invariant-loop-turns g l = record {
  takes : g.F.Feed.stage l.feed ≡ stages.Open;
  limit : g.F.Feed.limit l.feed ≡ g.F.Feed.limit l.initial.feed;
  same : Keeps (text_of (g.F.Feed.held l.initial.feed) l.initial.piece (g.L.Link.left l.initial.link)) (text_of (g.F.Feed.held l.feed) l.piece (g.L.Link.left l.link));
  within : reach_of (g.F.Feed.held l.feed) l.piece l.turns ≤ reach_of (g.F.Feed.held l.initial.feed) l.initial.piece l.initial.turns;
  taken : Keeps (g.L.Link.taken l.initial.link) (g.L.Link.taken l.link);
  turns : l.turns ≤ l.initial.turns;
  spent : Moves l.initial.turns (g.L.Link.moves l.initial.link) l.turns (g.L.Link.moves l.link);
  count : g.L.Link.faults l.link ≡ g.L.Link.faults l.initial.link;
}

abbrev pub decreases-loop-turns : goal.decreases-loop-turns
decreases-loop-turns g l = l.turns
