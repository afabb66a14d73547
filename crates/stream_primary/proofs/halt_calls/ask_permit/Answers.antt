use Rattle.std.proofs.Common.{rules, ◌≡◌, ℕ, List, Some, None, subst}
use Rattle.link_session.specs.Stands.{stand}
use Rattle.stream_primary.specs.HaltCalls.{TellsPermit, granted, pass_in, ungranted}
use Rattle.stream_primary.specs.Streaming.{NodeEntry}
use Rattle.stream_primary.proofs.halt_calls.ask_permit.Goals as goal

pub returns-in-Some-clause-asks : goal.returns-in-Some-clause-asks
returns-in-Some-clause-asks g c =
    let is : pass_in c.in-Ok.answer ≡ Some c.in-Some.pass = search rules in
    let new = stand g.L.Link c.tell_permit.new.link (g.S.Steps.entries c.tell_permit.new.steps) in
    granted c.in-Ok.answer c.in-Some.pass is
    (subst (λ (es : List NodeEntry). TellsPermit (g.S.Steps.number c.args.steps.now) c.in-Some.pass (stand g.L.Link c.args.link.now es) new c.tell_permit.new.turns c.tell_permit.result) c.in-Ok.ensures.asked
    (subst (λ (n : ℕ). TellsPermit n c.in-Some.pass (stand g.L.Link c.args.link.now (g.S.Steps.entries c.take_step.new.steps)) new c.tell_permit.new.turns c.tell_permit.result) c.take_step.ensures.same.1
    c.tell_permit.ensures.tells))

pub returns-in-Ok-clause-asks : goal.returns-in-Ok-clause-asks
returns-in-Ok-clause-asks g c =
    let is : pass_in c.in-Ok.answer ≡ None = search rules in
    ungranted c.in-Ok.answer is c.in-Ok.ensures.asked c.reply_to.ensures.end
