use Rattle.std.proofs.Common.{◌≡◌, List, ℕ, codes}
use Rattle.node_settings.specs.Address.{IsAddress}
use Rattle.node_settings.specs.Values.{IsAddressText}
use Rattle.node_settings.proofs.Answering.{at_some, at_none, both, default_address}
use Rattle.node_settings.proofs.reading.addr.Goals as goal

pub returns-in-Some : goal.returns-in-Some
returns-in-Some c = at_some IsAddressText _ _ (codes ":20202") c.address.result c.in-Some.ensures c.address.ensures

pub returns-in-None : goal.returns-in-None
returns-in-None c =
    at_none IsAddressText _ (codes ":20202") c.read.result c.in-None.ensures
    (both (λ (a : List ℕ). (a ≡ codes ":20202") × IsAddress (codes ":20202")) (λ (a : List ℕ). a ≡ codes ":20202") c.read.result (λ a h. h.0) (λ a h. (h, default_address)) c.read.ensures)
