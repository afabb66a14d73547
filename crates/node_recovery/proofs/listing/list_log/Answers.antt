use Rattle.std.proofs.Common.{List, sym, ◌∙◌, subst}
use Rattle.lf_disk.specs.declared.listing.Numbers.{Numbers}
use Rattle.lf_disk.specs.History.{now}
use Rattle.lf_disk.specs.Listing.{AreListed}
use Rattle.node_recovery.proofs.listing.list_log.Goals as goal

pub returns-in-Ok-entries_of-clause-listed : goal.returns-in-Ok-entries_of-clause-listed
returns-in-Ok-entries_of-clause-listed g c honest =
    subst (λ (ns : List Numbers). AreListed ns (now (g.D.Disk.history c.args.disk.now))) (sym (c.in-Ok-entries_of.ensures ∙ c.as_slice.ensures.value)) (c.in-Ok.ensures.listed honest)
