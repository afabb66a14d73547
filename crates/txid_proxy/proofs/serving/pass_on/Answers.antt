use Rattle.std.proofs.Common.{◌∙◌, ap, take, refl}
use Rattle.std.proofs.KnownBytes.{Keeps-refl}
use Rattle.txid_proxy.specs.Passing.{passed}
use Rattle.txid_proxy.specs.Session.{dialed, no_memory}
use Rattle.txid_proxy.proofs.Served.{passes_text, text_is, turns_out}
use Rattle.txid_proxy.proofs.serving.pass_on.Goals as goal

pub returns-in-Err-clause-passes : goal.returns-in-Err-clause-passes
returns-in-Err-clause-passes g c = λ request has.
    no_memory refl refl (record { written = Keeps-refl (g.L.Link.taken c.args.link.now); count = refl }) (record { dials = refl; faults = refl })

pub returns-clause-passes : goal.returns-clause-passes
returns-clause-passes g c = λ request has.
    let is = text_is c.args.whole.bytes.now c.args.whole.size c.args.whole.length request c.put_passed.new.out.items c.as_slice.result.now c.split_at.result.0.now
    c.split_at-2.result.0.now
    c.new-front.result.items c.requires has c.split_at.ensures.front (c.split_at-2.ensures.front
    ∙ ap (take c.args.whole.length) c.split_at.ensures.back) c.as_slice.ensures.value
    c.new-front.ensures.items c.in-Ok.ensures in
    dialed c.pass-came.result (passes_text _ (passed request.head request.body) is c.pass-came.ensures.dial) c.pass-came.ensures.fault
    (c.give_back.ensures.returns (g.T.Dialer.dials c.args.passage.now.dialer) (g.T.Dialer.dials c.pass-came.new.dialer) (g.T.Dialer.faults c.args.passage.now.dialer)
    (g.T.Dialer.faults c.pass-came.new.dialer))

pub give_back-requires-clause-turns : goal.give_back-requires-clause-turns
give_back-requires-clause-turns g c = turns_out c.args.turns.now c.pass-came.new.turns c.pass-came.result c.pass-came.ensures.turns
