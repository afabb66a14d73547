use Rattle.std.proofs.Common.{refl}
use Rattle.ltx_backup.proofs.Blaming.{not_a_file, is_earliest}
use Rattle.ltx_backup.proofs.reading.refused.Goals as goal

pub returns-in_default : goal.returns-in_default
returns-in_default c bytes octets refused =
    (refl, refl, refl, not_a_file bytes c.args.why octets (is_earliest bytes c.args.why c.in_default.not-NoMemory refused))
