use Rattle.std.proofs.Common.{List, ℕ, Ok, ap, sym, ◌∙◌}
use Rattle.base64.specs.Engines.{standard}
use Rattle.base64.specs.GeneralPurpose.{decode_of}
use Rattle.etcd_lease.proofs.Steps.{tells_by}
use Rattle.etcd_lease.proofs.informing.who.Goals as goal

pub returns-in-Ok-clause-tells : goal.returns-in-Ok-clause-tells
returns-in-Ok-clause-tells c =
    tells_by c.args.value.now c.as_slice.result.now c.learn.result
    (ap (λ (text : List ℕ). decode_of standard text) (sym c.bytes.ensures) ∙ c.in-Ok.ensures.ok ∙ ap (λ (bytes : List ℕ). Ok bytes) (sym c.as_slice.ensures.value)) c.learn.ensures
