use Rattle.std.proofs.Common.{arith, refl}
use Rattle.link_session.specs.Stands.{stand}
use Rattle.link_session.proofs.Stands.{spends_on, spent_moving}
use Rattle.stream_primary.proofs.Streams.{round_behind}
use Rattle.link_session.specs.Sessions.{asker_of, stand_of}
use Rattle.stream_primary.proofs.hello.greet.Goals as goal

pub returns-in-Ok-clause-round : goal.returns-in-Ok-clause-round
returns-in-Ok-clause-round g c =
    round_behind (asker_of g.S.Steps g.C.Clock c.args.session.now c.args.steps.now) c.args.name.now c.args.at (stand_of g.S.Steps g.L.Link c.args.session.now c.args.steps.now).place
    (stand g.L.Link c.look.new.link (g.S.Steps.entries c.args.steps.now)).place (stand_of g.S.Steps g.L.Link c.ask_and_tell.new.session c.ask_and_tell.new.steps).place
    (g.L.Link.faults c.args.session.now.link.now) (g.L.Link.faults c.look.new.link) (g.L.Link.faults c.ask_and_tell.new.session.link.now) c.ask_and_tell.new.session.turns c.ask_and_tell.result
    (record { written = c.look.ensures.taken; asked = refl }) c.in-Ok.ensures.cause c.ask_and_tell.ensures.round

pub returns-in-Ok-clause-spent : goal.returns-in-Ok-clause-spent
returns-in-Ok-clause-spent g c =
    let old = stand_of g.S.Steps g.L.Link c.args.session.now c.args.steps.now in
    let mid = stand g.L.Link c.look.new.link (g.S.Steps.entries c.args.steps.now) in
    spends_on c.args.session.now.turns c.args.session.now.turns c.ask_and_tell.new.session.turns old mid (stand_of g.S.Steps g.L.Link c.ask_and_tell.new.session c.ask_and_tell.new.steps) c.ask_and_tell.result
    (omega (arith)) (spent_moving c.args.session.now.turns c.args.session.now.turns old mid (λ below. ((c.look.ensures.moves below).0, omega (arith, (c.look.ensures.moves below).1))) refl) c.ask_and_tell.ensures.spent
