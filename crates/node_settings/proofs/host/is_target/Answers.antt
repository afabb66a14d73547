use Rattle.std.proofs.Common.{◌≢◌, get_or, arith}
use Rattle.std.proofs.lemmas.Grind.{common_steps}
use Rattle.std.proofs.lemmas.Bool.Decides.{nat_tests}
use Rattle.node_settings.proofs.Parts.{behind, some_host}
use Rattle.node_settings.proofs.host.is_target.Goals as goal

pub returns-then-is_address : goal.returns-then-is_address
returns-then-is_address c =
    let text = c.args.text.now in
    let test = c.starts_with.ensures.byte (omega arith) (omega arith) (λ t o h. h) in
    let is = c.is_address.ensures.0 c.if-is_address.true in (
      λ other. (is, some_host text is.host is.port is.parts (λ e. grind (arith, nat_tests, common_steps, test, other, e))),
      λ target. (let first : get_or text 0 0 ≢ 58 = behind target.0.host target.0.port text target.0.parts target.1 target.0.is_host in grind (arith, nat_tests, common_steps, test, first)),
    )
