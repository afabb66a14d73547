use Rattle.std.proofs.Common.{rules}
use Rattle.stream_wire.proofs.Cutting.{AreBytes, are_bytes, cut_pos}
use Rattle.stream_wire.proofs.feed.pos_of.Goals as goal

pub returns : goal.returns
returns c =
    let all : AreBytes c.args.body.now = are_bytes c.args.body.now (search (rules, c.type_inv.body)) in
    rw (c.be64_at.ensures, c.be64_at-2.ensures) (cut_pos c.args.body.now all c.requires)
