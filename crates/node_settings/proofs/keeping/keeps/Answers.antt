use Rattle.node_settings.proofs.keeping.keeps.Goals as goal

pub returns-in-Value : goal.returns-in-Value
returns-in-Value c = rw c.in-Value.is c.value_fits.ensures

pub returns-in-Seconds : goal.returns-in-Seconds
returns-in-Seconds c = rw c.in-Seconds.is c.lasts_seconds.ensures
