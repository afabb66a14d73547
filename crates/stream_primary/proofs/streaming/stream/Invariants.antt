use Rattle.std.proofs.Common.{◌≡◌, ◌≤◌}
use Rattle.std.specs.Io.KnownBytes.{Keeps}
use Rattle.link_session.specs.Stands.{Spent}
use Rattle.stream_primary.specs.Telling.{standing_at}
use Rattle.stream_primary.specs.Streaming.{Streamed}
use Rattle.link_session.specs.Sessions.{asker_of, stand_of, SessionGoesOn}
use Rattle.stream_primary.proofs.streaming.stream.Given as goal

abbrev pub invariant-hellos : goal.invariant-hellos
invariant-hellos g l = record {
  sent : Streamed (asker_of g.S.Steps g.C.Clock l.initial.session l.initial.steps) l.name (standing_at l.fn.from) l.at
      (stand_of g.S.Steps g.L.Link l.initial.session l.initial.steps).place (stand_of g.S.Steps g.L.Link l.session l.steps).place;
  left : Keeps (g.L.Link.left l.initial.session.link.now) (g.L.Link.left l.session.link.now);
  same : SessionGoesOn g.S.Steps g.C.Clock l.initial.session l.session l.initial.steps l.steps;
  turns : l.session.turns ≤ l.initial.session.turns;
  spent : Spent l.initial.session.turns (stand_of g.S.Steps g.L.Link l.initial.session l.initial.steps) l.session.turns (stand_of g.S.Steps g.L.Link l.session l.steps);
  count : g.L.Link.faults l.session.link.now ≡ g.L.Link.faults l.initial.session.link.now;
}

abbrev pub decreases-hellos : goal.decreases-hellos
decreases-hellos g l = l.session.turns
