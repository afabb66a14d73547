use Rattle.ltx_backup.proofs.Blaming.{is_earliest, not_a_file}
use Rattle.backup_link.proofs.adding.refused.Goals as goal

pub returns-in_default : goal.returns-in_default
returns-in_default c bytes octets refused = not_a_file bytes c.args.why octets (is_earliest bytes c.args.why c.in_default.not-NoMemory refused)
