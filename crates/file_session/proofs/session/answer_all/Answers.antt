use Rattle.std.proofs.Common.{refl, ap, ◌∙◌, arith}
use Rattle.link_session.proofs.Talking.{nothing_said}
use Rattle.link_session.specs.Reading.{Held}
use Rattle.link_session.specs.Sessions.{stand_holding, stand_of}
use Rattle.link_session.specs.Stands.{stand}
use Rattle.link_session.proofs.Sessions.{goes_on_here, goes_on_then, same_asker_of}
use Rattle.link_session.proofs.Stands.{spent_on}
use Rattle.file_session.proofs.Sessions.{message_served, read_failed, message_failed, spent_reading}
use Rattle.file_session.proofs.session.answer_all.Goals as goal

pub messages-init : goal.messages-init
messages-init g c = record {
  between = c.requires;
  talked = nothing_said _ _;
  same = goes_on_here g.S.Steps g.C.Clock c.args.session.now c.args.steps.now;
  spent = λ below. (omega arith, refl);
  count = refl;
}

pub returns-in-Err-clause-conversation : goal.returns-in-Err-clause-conversation
returns-in-Err-clause-conversation g c =
    read_failed _ _ _ _ (stand_holding g.S.Steps g.L.Link c.args.inbox.now c.args.session.now c.args.steps.now)
    (stand_holding g.S.Steps g.L.Link c.messages.inbox c.messages.session c.messages.steps)
    (stand g.L.Link c.read_message.new.link (g.S.Steps.entries c.messages.steps)) c.in-Err.end
    c.messages.invariant.talked c.messages.invariant.count c.messages.invariant.spent c.in-Err.ensures.cause c.read_message.ensures.taken refl c.in-Err.ensures.spent

pub returns-in-Err-serve_message-clause-conversation : goal.returns-in-Err-serve_message-clause-conversation
returns-in-Err-serve_message-clause-conversation g c =
    message_failed _ _ _ _ _ _ (stand_holding g.S.Steps g.L.Link c.args.inbox.now c.args.session.now c.args.steps.now)
    (stand_holding g.S.Steps g.L.Link c.messages.inbox c.messages.session c.messages.steps)
    (stand g.L.Link c.read_message.new.link (g.S.Steps.entries c.messages.steps))
    (stand_of g.S.Steps g.L.Link c.serve_message.new.session c.serve_message.new.steps)
    c.read_message.new.self c.message.result.now c.in-Err-serve_message.end
    c.messages.invariant.talked c.messages.invariant.count c.messages.invariant.spent
    c.in-Ok.ensures.same.0 c.read_message.ensures.taken refl c.in-Ok.ensures.spent.1 c.in-Ok.ensures.cause
    c.message.ensures c.in-Ok.ensures.whole.0 (same_asker_of g.S.Steps g.C.Clock c.args.session.now c.messages.session c.args.steps.now c.messages.steps c.messages.invariant.same) c.serve_message.ensures.left
    c.in-Err-serve_message.ensures.end c.in-Err-serve_message.ensures.spent

pub messages-preserved : goal.messages-preserved
messages-preserved g c = record {
  between = ap (λ (i : Held). i.stage) c.next.ensures.next;
  talked = message_served _ _ _ c.messages.inbox c.read_message.new.self c.next.new.self (g.L.Link.left c.messages.session.link.now) (g.L.Link.left c.read_message.new.link) _
      (g.L.Link.taken c.messages.session.link.now) (g.L.Link.taken c.read_message.new.link) _ _ _ c.message.result.now
      c.messages.invariant.talked c.in-Ok.ensures.same.0 c.read_message.ensures.taken c.message.ensures
      (same_asker_of g.S.Steps g.C.Clock c.args.session.now c.messages.session c.args.steps.now c.messages.steps c.messages.invariant.same)
      c.in-Ok-serve_message.ensures.end.0 c.serve_message.ensures.left c.next.ensures.next;
  same = goes_on_then g.S.Steps g.C.Clock c.args.session.now c.messages.session c.serve_message.new.session c.args.steps.now c.messages.steps c.serve_message.new.steps c.messages.invariant.same c.serve_message.ensures.same;
  spent = spent_on _ _ _ (stand_holding g.S.Steps g.L.Link c.args.inbox.now c.args.session.now c.args.steps.now)
      (stand g.L.Link c.read_message.new.link (g.S.Steps.entries c.messages.steps))
      (stand_holding g.S.Steps g.L.Link c.next.new.self c.serve_message.new.session c.serve_message.new.steps)
      (spent_reading _ _ _ (stand_holding g.S.Steps g.L.Link c.args.inbox.now c.args.session.now c.args.steps.now)
      (stand_holding g.S.Steps g.L.Link c.messages.inbox c.messages.session c.messages.steps)
      (stand g.L.Link c.read_message.new.link (g.S.Steps.entries c.messages.steps))
      c.messages.invariant.spent c.in-Ok.ensures.spent.1 refl)
      c.in-Ok-serve_message.ensures.spent.1;
  count = c.in-Ok-serve_message.ensures.end.1 ∙ c.in-Ok.ensures.cause ∙ c.messages.invariant.count;
}
