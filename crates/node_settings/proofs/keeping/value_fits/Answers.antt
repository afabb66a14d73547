use Rattle.std.proofs.Common.{◌↔◌, IfOk, IsTrue, MatchOption, Option, subst}
use Rattle.toml.specs.Data.{Data}
use Rattle.node_settings.specs.Rules.{Fits}
use Rattle.node_settings.proofs.keeping.value_fits.Goals as goal

pub returns-in-Some : goal.returns-in-Some
returns-in-Some c =
    subst (λ (o : Option Data). IfOk c.fits.result (λ kept. IsTrue kept ↔ MatchOption o (Unit {0}) (λ d. Fits c.args.key d))) c.in-Some.ensures c.fits.ensures
