use Rattle.link_session.proofs.Parts.{back_in_part}
use Rattle.link_session.proofs.session.write_both.Goals as goal

pub returns-in-Ok-clause-part : goal.returns-in-Ok-clause-part
returns-in-Ok-clause-part g c =
    back_in_part (g.L.Link.taken c.args.link.now) (g.L.Link.taken c.write_whole.new.link) (g.L.Link.taken c.write_whole-in-Ok.new.link) c.args.front.now c.args.back.now
    c.write_whole-in-Ok.result c.in-Ok.ensures.whole c.write_whole-in-Ok.ensures.part
