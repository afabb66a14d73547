use Rattle.node_settings.proofs.Parts.{port_text}
use Rattle.node_settings.proofs.host.is_port.Goals as goal

pub returns-in-Err : goal.returns-in-Err
returns-in-Err c = (λ h. absurd (cc), λ is. absurd (c.in-Err.ensures.cases.0 (port_text c.args.text.now is)))
