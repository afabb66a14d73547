use Rattle.std.proofs.Common.{◌≤◌, sym, ap, ◌∙◌, arith}
use Rattle.std.proofs.lemmas.Bool.{leb-true}
use Rattle.stream_wire.specs.Head.{framing_of}
use Rattle.stream_wire.proofs.Ended.{same_head, takes_from, takes_to, framed, some_is, is_some_of}
use Rattle.stream_wire.proofs.Heads.{few_fields}
use Rattle.stream_wire.proofs.head_ends.takes.Goals as goal

pub returns-then-len-le-HEAD_MAX : goal.returns-then-len-le-HEAD_MAX
returns-then-len-le-HEAD_MAX c =
    let has = c.in-Some.ensures.found in
    let said = c.framing.ensures ∙ framed c.args.text.now c.head_at.new.headers c.in-Some.count has.0 has.2 in (
      λ t.
          let x = some_is c.framing.result (sym c.is_some.ensures ∙ t) in
          takes_from c.args.kind c.args.text.now c.in-Some.len has.0 x.0 has.1
          (record { size_fits = omega (arith, c.if-len-le-HEAD_MAX.true); count = few_fields c.args.text.now c.head_at.new.headers c.in-Some.count has.0 has.2 (c.head_at.auto.headers); framed = sym said ∙ x.1 }),
      λ takes.
          let x = takes_to c.args.kind c.args.text.now takes in
          let same = same_head c.args.kind c.args.text.now c.in-Some.len x.0 has.0 x.1 has.1 x.3 in
          c.is_some.ensures ∙ is_some_of c.framing.result x.2 (said ∙ ap framing_of same.1 ∙ x.4.framed),
    )

pub returns-else-len-le-HEAD_MAX : goal.returns-else-len-le-HEAD_MAX
returns-else-len-le-HEAD_MAX c =
    let has = c.in-Some.ensures.found in
    let past = c.if-len-le-HEAD_MAX.false in (
      λ t. let low : c.in-Some.len ≤ 8192 = leb-true c.in-Some.len 8192 t in absurd (omega (arith, low, past)),
      λ takes.
          let x = takes_to c.args.kind c.args.text.now takes in
          let same = same_head c.args.kind c.args.text.now c.in-Some.len x.0 has.0 x.1 has.1 x.3 in
          absurd (omega (arith, past, same.0, x.4.size_fits)),
    )

pub returns-in-None : goal.returns-in-None
returns-in-None c = (
  λ t. absurd (cc),
  λ takes.
      let x = takes_to c.args.kind c.args.text.now takes in
      absurd (c.in-None.ensures.none x.0 x.1 x.3 x.4.count),
)
