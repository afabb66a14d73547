use Rattle.std.proofs.Common.{◌≡◌, ap}
use Rattle.lf_disk.specs.MemDisk.{Recording}
use Rattle.ltx_tests.proofs.Disks.{settled_first}
use Rattle.ltx_tests.proofs.backup.crashed.Goals as goal

pub returns : goal.returns
returns g c = settled_first c.in-Ok.disk (ap (λ (r : Recording). r.calls) c.in-Ok.ensures.fresh)
