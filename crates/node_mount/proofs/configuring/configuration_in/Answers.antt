use Rattle.std.proofs.Common.{subst, sym}
use Rattle.node_settings.specs.Complaints.{Complains}
use Rattle.node_settings.specs.Configuration.{IsConfiguration}
use Rattle.node_settings.specs.Rules.{node_rules}
use Rattle.node_mount.proofs.configuring.configuration_in.Goals as goal

pub returns-in-Err-Config-clause-says : goal.returns-in-Err-Config-clause-says
returns-in-Err-Config-clause-says c = λ settings is.
    (rw c.in-Err-Config.field-0-is at c.in-Err-Config.ensures).0 settings (subst (λ b. IsConfiguration b settings) (sym c.as_slice.ensures.value) is)

pub returns-in-Err-Config-clause-complaint : goal.returns-in-Err-Config-clause-complaint
returns-in-Err-Config-clause-complaint c =
    subst (λ b. Complains node_rules b c.in-Err-Config.found) c.as_slice.ensures.value (rw c.in-Err-Config.field-0-is at c.in-Err-Config.ensures).1
