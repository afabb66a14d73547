use Rattle.std.proofs.Common.{◌≡◌, ℕ, List, ◌++◌, codes, get_or, arith, sym, ap, ◌∙◌}
use Rattle.std.proofs.lemmas.Grind.{common_steps}
use Rattle.std.proofs.lemmas.Bool.Decides.{nat_tests}
use Rattle.node_settings.proofs.Parts.{url_address}
use Rattle.node_settings.proofs.host.address_in.Goals as goal
use Rattle.node_settings.proofs.host.address_in.Goals.{else-is_address-via-then-is_address+else-not-starts_with, else-is_address-via-else-is_address}

pub returns-else-is_address-clause-none : goal.returns-else-is_address-clause-none
returns-else-is_address-clause-none c =
    let strip = c.in_ok-address.ensures.cases in
    let e : c.args.url.now ≡ codes "http://" ++ c.in_ok-address.address.now = strip.1.1 ∙ ap (λ (l : List ℕ). codes "http://" ++ l) (sym strip.2) in
    elim c.else-is_address.branch [
      | else-is_address-via-then-is_address+else-not-starts_with w ↦ (λ is.
          let test = w.starts_with.ensures.byte (omega arith) (omega arith) (λ t o h. h) in
          let colon : get_or c.in_ok-address.address.now 0 0 ≡ 58 = grind (arith, nat_tests, common_steps, test, w.if-not-starts_with.false) in
          (url_address c.args.url.now c.in_ok-address.address.now e is).1 colon)
      | else-is_address-via-else-is_address w ↦ (λ is.
          let none = w.if-is_address.ensures.1 (url_address c.args.url.now c.in_ok-address.address.now e is).0 in absurd (cc))
    ]
