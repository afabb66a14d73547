use Rattle.std.proofs.Common.{take}
use Rattle.std.specs.Prelude.{codes}
use Rattle.lf_base.specs.Hex.{hex_digits}
use Rattle.txid_proxy.proofs.Marks.{four_put, marked_is}
use Rattle.txid_proxy.proofs.marking.put_marked.Goals as goal

pub returns-clause-marked : goal.returns-clause-marked
returns-clause-marked c = λ head rest reads.
    marked_is head rest c.args.reply.now c.args.out.now.items c.put-4.new.out.items c.args.txid c.start_length-size.result reads
    c.start_length-size.ensures.start
    (four_put c.args.out.now.items c.put.new.out.items c.put-2.new.out.items c.put-3.new.out.items c.put-4.new.out.items c.split_at.result.0.now
    (codes "Set-Cookie: __txid=") c.hex16.result
    (codes "; Path=/\r\n") (take c.start_length-size.result c.args.reply.now)
    (hex_digits 16 c.args.txid) c.in_ok-put.ensures c.split_at.ensures.front c.in_ok-put-2.ensures c.in_ok-put-3.ensures
    c.hex16.ensures c.in_ok-put-4.ensures)
