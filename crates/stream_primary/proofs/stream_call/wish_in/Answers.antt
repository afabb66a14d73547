use Rattle.std.proofs.Common.{rules, ◌≡◌, sym, ◌∙◌}
use Rattle.lf_base.specs.Name.{IsName}
use Rattle.stream_wire.specs.StreamLine.{stream_line}
use Rattle.stream_primary.proofs.stream_call.wish_in.Goals as goal

pub returns-in-Ok-Some : goal.returns-in-Ok-Some
returns-in-Ok-Some c = λ request same.
    let is : IsName c.in-Ok-Some.other = search rules in
    let line : c.args.body.now ≡ stream_line c.in-Ok-Some.other c.in-Ok-Some.pos = search rules in
    c.wish_by.ensures request is (sym same ∙ line)
