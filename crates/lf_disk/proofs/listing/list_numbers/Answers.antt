use Rattle.std.proofs.Common.{List, subst, sym}
use Rattle.std.specs.List.{IsDistinct}
use Rattle.lf_disk.specs.Folder.{same_name}
use Rattle.lf_disk.specs.declared.name.FileName.{FileName}
use Rattle.lf_disk.specs.History.{now}
use Rattle.lf_disk.specs.Listing.{Names}
use Rattle.lf_disk.proofs.Listings.{listed}
use Rattle.lf_disk.proofs.listing.list_numbers.Goals as goal

pub returns-in-Ok-clause-listed : goal.returns-in-Ok-clause-listed
returns-in-Ok-clause-listed g c honest =
    listed c.in_ok-names.names.items c.in-Ok.found.items (now (g.D.Disk.history c.args.disk.now))
    (λ a b. let both = c.in-Ok.ensures.has a b in
    (λ has. subst (λ (ns : List FileName). Names ns a b) c.as_slice.ensures.value (both.0 has), λ named. both.1 (subst (λ (ns : List FileName). Names ns a b) (sym c.as_slice.ensures.value) named)))
    (c.in_ok-names.ensures.names honest) c.in-Ok.ensures.order c.in-Ok.ensures.narrow
    (c.in-Ok.ensures.once (subst (λ (ns : List FileName). IsDistinct same_name ns) (sym c.as_slice.ensures.value) (c.in_ok-names.ensures.distinct honest)))
