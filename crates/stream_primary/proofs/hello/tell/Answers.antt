use Rattle.std.proofs.Common.{rules, ◌≡◌, false}
use Rattle.stream_primary.specs.Telling.{goes_on}
use Rattle.stream_primary.proofs.Endings.{told_last}
use Rattle.stream_primary.proofs.hello.tell.Goals as goal

pub returns-then-not-goes_on-clause-sent : goal.returns-then-not-goes_on-clause-sent
returns-then-not-goes_on-clause-sent g c =
    let ended : goes_on c.args.answer.now ≡ false = search rules in
    told_last c.args.name.now c.args.at c.args.answer.now (g.L.Link.taken c.args.session.now.link.now) (g.L.Link.taken c.end_stream.new.link) (g.L.Link.faults c.args.session.now.link.now) (g.L.Link.faults c.end_stream.new.link)
    c.end_stream.new.turns c.end_stream.result ended c.end_stream.ensures.end
