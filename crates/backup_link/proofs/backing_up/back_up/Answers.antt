use Rattle.std.proofs.Common.{◌∙◌, refl}
use Rattle.backup_link.specs.BackingUp.{closed, opened}
use Rattle.backup_link.proofs.backing_up.back_up.Goals as goal

pub returns-in-Ok-clause-backs_up : goal.returns-in-Ok-clause-backs_up
returns-in-Ok-clause-backs_up g c =
    let f = c.fetch_and_settle.ensures.fetched in
    let same = c.in-Ok.ensures.honest.0 in
    opened c.in-Ok.backup.index.end f.files f.fetched f.told f.ends (λ honest.
    let held = c.in-Ok.ensures.opened honest in (
      held.levels,
      record { holds = held.held; alone = held.alone },
      held.kept.end,
      f.comes (same.0 ∙ honest.0, same.1 ∙ honest.1, same.2 ∙ honest.2) held.levels held.kept,
    ))

pub returns-in-Err-clause-backs_up : goal.returns-in-Err-clause-backs_up
returns-in-Err-clause-backs_up g c = closed c.in-Err.why refl refl (λ honest. c.in-Err.ensures.why honest)
