use Rattle.std.proofs.Common.{None}
use Rattle.node_settings.specs.Values.{IsAddressText, IsSomeOf}
use Rattle.node_settings.proofs.Answering.{passed, at_some, some_of}
use Rattle.node_settings.proofs.proxy_table.addr.Goals as goal

pub returns-in_err-address-in-Some : goal.returns-in_err-address-in-Some
returns-in_err-address-in-Some c =
    at_some (IsSomeOf IsAddressText) _ _ None c.from_residual.result c.in-Some.ensures
    (passed (IsAddressText _) (IsSomeOf IsAddressText _) _ c.from_residual.result (some_of IsAddressText _) c.from_residual.ensures.1 c.in_err-address-in-Some.ensures)
