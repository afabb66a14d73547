use Rattle.std.proofs.Common.{subst}
use Rattle.node_mount.specs.LeaseService.{SaysService}
use Rattle.node_mount.proofs.ServiceLemmas.{says-settings}
use Rattle.node_mount.proofs.lease_service.read_service.Goals as goal

pub returns-clause-config : goal.returns-clause-config
returns-clause-config g c =
    says-settings _ _ _ _ c.in_ok-read_pieces.ensures.read (subst (λ bytes. SaysService bytes c.settings_in.result) c.as_slice.ensures.value c.settings_in.ensures.says)
