use Rattle.std.proofs.Common.{◌≡◌, drop, sym, ◌∙◌, arith}
use Rattle.txid_proxy.specs.Requests.{in_body, too_old}
use Rattle.txid_proxy.proofs.Judged.{head_within, says_body}
use Rattle.txid_proxy.proofs.hearing.hear_body.Goals as goal

pub returns-then-wish_of-eq0 : goal.returns-then-wish_of-eq0
returns-then-wish_of-eq0 c = λ call h.
    let w = c.wish_of.ensures h.head (drop c.args.size c.args.bytes.now) h.reads h.taken.count in
    too_old h.head c.args.length (says_body c.args.bytes.now c.args.size c.args.length call h) (sym w.minor ∙ c.if-wish_of-eq0.true)

pub returns-then-length-gt-BODY_MAX : goal.returns-then-length-gt-BODY_MAX
returns-then-length-gt-BODY_MAX c = λ call h.
    let w = c.wish_of.ensures h.head (drop c.args.size c.args.bytes.now) h.reads h.taken.count in
    let version : h.head.minor ≡ 1 = omega (arith, h.reads.0.minor, w.minor, c.if-wish_of-eq0.false) in record {
      head = h.head;
      len = c.args.length;
      begins = record { says = says_body c.args.bytes.now c.args.size c.args.length call h; version = version };
      long = omega (arith, c.if-length-gt-BODY_MAX.true);
    }

pub returns-then-saturating_sub-length : goal.returns-then-saturating_sub-length
returns-then-saturating_sub-length c = λ call h.
    let w = c.wish_of.ensures h.head (drop c.args.size c.args.bytes.now) h.reads h.taken.count in
    let version : h.head.minor ≡ 1 = omega (arith, h.reads.0.minor, w.minor, c.if-wish_of-eq0.false) in
    let says = says_body c.args.bytes.now c.args.size c.args.length call h in
    in_body h.head c.args.length (record { says = says; version = version })
    (omega (arith, c.saturating_sub.ensures, c.if-saturating_sub-length.true, head_within c.args.bytes.now h.head c.args.length says, h.size_is))
