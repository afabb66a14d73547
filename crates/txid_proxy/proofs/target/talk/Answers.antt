use Rattle.std.proofs.Common.{◌++◌}
use Rattle.txid_proxy.proofs.Talking.{pass_ends, pass_sent}
use Rattle.txid_proxy.proofs.target.talk.Goals as goal

pub returns-in-Ok-clause-passes : goal.returns-in-Ok-clause-passes
returns-in-Ok-clause-passes g c =
    pass_sent g.L.Link _ c.args.link.now c.write_both.new.link c.read_reply.new.link c.read_reply.result c.write_both.ensures.left.1 c.in-Ok.ensures.whole c.read_reply.ensures.reads

pub returns-in-Err-clause-passes : goal.returns-in-Err-clause-passes
returns-in-Err-clause-passes g c = rw c.untold_by.ensures
    (pass_ends g.L.Link (c.args.text.front.now ++ c.args.text.back.now) c.args.link.now c.write_both.new.link c.write_both.new.turns c.in-Err.end c.write_both.ensures.left.1
    c.in-Err.ensures.part c.in-Err.ensures.cause)
