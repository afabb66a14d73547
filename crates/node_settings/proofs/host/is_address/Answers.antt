use Rattle.std.proofs.Common.{sym, subst, ◌∙◌}
use Rattle.node_settings.proofs.Parts.{HasNoColon, address_parts, no_address}
use Rattle.node_settings.proofs.host.is_address.Goals as goal

pub returns-then-is_host : goal.returns-then-is_host
returns-then-is_host c =
    let e = sym c.as_bytes.ensures.value ∙ c.in-Some.ensures.parts in
    let parts = address_parts c.args.text.now c.in-Some.host.now c.in-Some.port.now e c.in-Some.ensures.last in (
      λ t. record { host = c.in-Some.host.now; port = c.in-Some.port.now; parts = e; is_host = c.is_host.ensures.0 c.if-is_host.true; is_port = c.is_port.ensures.0 t },
      λ is. c.is_port.ensures.1 (parts is).1,
    )

pub returns-else-is_host : goal.returns-else-is_host
returns-else-is_host c =
    let e = sym c.as_bytes.ensures.value ∙ c.in-Some.ensures.parts in
    let parts = address_parts c.args.text.now c.in-Some.host.now c.in-Some.port.now e c.in-Some.ensures.last in
    (λ t. absurd (cc), λ is. c.is_host.ensures.1 (parts is).0)

pub returns-in-None : goal.returns-in-None
returns-in-None c = (λ t. absurd (cc), λ is. absurd (no_address c.args.text.now (subst HasNoColon c.as_bytes.ensures.value c.in-None.ensures.none) is))
