use Rattle.std.proofs.Common.{◌∙◌, sym}
use Rattle.lf_disk.specs.History.{now}
use Rattle.ltx_backup.proofs.Makings.{files_make}
use Rattle.ltx_backup.proofs.Stills.{settled_rests}
use Rattle.ltx_backup.proofs.Opens.{rested, tidied_stops, tidied_opens, blameless_closed}
use Rattle.ltx_backup.proofs.reopening.reopen_files.Goals as goal

pub returns-in-Err-clause-stops : goal.returns-in-Err-clause-stops
returns-in-Err-clause-stops g c honest levels held =
    rested levels (g.D.Disk.history c.args.low.now) (g.D.Disk.history c.args.middle.now) (g.D.Disk.history c.args.high.now)
    (g.D.Disk.history c.judge_all.new.low) (g.D.Disk.history c.judge_all.new.middle) (g.D.Disk.history c.judge_all.new.high)
    (c.requires.low_settled honest.0) (c.requires.middle_settled honest.1) (c.requires.high_settled honest.2)
    c.judge_all.ensures.rests.0 c.judge_all.ensures.rests.1 c.judge_all.ensures.rests.2 held

pub returns-in-Err-tidy_all-clause-why : goal.returns-in-Err-tidy_all-clause-why
returns-in-Err-tidy_all-clause-why g c honest = blameless_closed _ _ _ c.in-Err-tidy_all.why c.in-Err-tidy_all.ensures.blameless

pub returns-in-Err-tidy_all-clause-stops : goal.returns-in-Err-tidy_all-clause-stops
returns-in-Err-tidy_all-clause-stops g c honest levels held =
    tidied_stops c.in-Ok.found.index c.in-Ok.found.bounds c.args.names.now (g.D.Disk.history c.args.low.now) (g.D.Disk.history c.args.middle.now) (g.D.Disk.history c.args.high.now)
    (g.D.Disk.history c.judge_all.new.low) (g.D.Disk.history c.judge_all.new.middle) (g.D.Disk.history c.judge_all.new.high)
    (g.D.Disk.history c.tidy_all.new.low) (g.D.Disk.history c.tidy_all.new.middle) (g.D.Disk.history c.tidy_all.new.high)
    (c.requires.low_settled honest.0) (c.requires.middle_settled honest.1) (c.requires.high_settled honest.2)
    c.judge_all.ensures.rests.0 c.judge_all.ensures.rests.1 c.judge_all.ensures.rests.2 (c.requires.no_snapshot honest.0) (c.in-Ok.ensures.finds honest (c.requires.listed honest)).finds levels held
    (c.tidy_all.ensures.lows (c.judge_all.ensures.honest.0 ∙ honest.0)) (c.tidy_all.ensures.middles (c.judge_all.ensures.honest.1 ∙ honest.1)) (c.tidy_all.ensures.highs (c.judge_all.ensures.honest.2 ∙ honest.2))

pub returns-in-Ok-tidy_all-clause-stops : goal.returns-in-Ok-tidy_all-clause-stops
returns-in-Ok-tidy_all-clause-stops g c honest levels held =
    tidied_stops c.in-Ok.found.index c.in-Ok.found.bounds c.args.names.now (g.D.Disk.history c.args.low.now) (g.D.Disk.history c.args.middle.now) (g.D.Disk.history c.args.high.now)
    (g.D.Disk.history c.judge_all.new.low) (g.D.Disk.history c.judge_all.new.middle) (g.D.Disk.history c.judge_all.new.high)
    (g.D.Disk.history c.tidy_all.new.low) (g.D.Disk.history c.tidy_all.new.middle) (g.D.Disk.history c.tidy_all.new.high)
    (c.requires.low_settled honest.0) (c.requires.middle_settled honest.1) (c.requires.high_settled honest.2)
    c.judge_all.ensures.rests.0 c.judge_all.ensures.rests.1 c.judge_all.ensures.rests.2 (c.requires.no_snapshot honest.0) (c.in-Ok.ensures.finds honest (c.requires.listed honest)).finds levels held
    (c.tidy_all.ensures.lows (c.judge_all.ensures.honest.0 ∙ honest.0)) (c.tidy_all.ensures.middles (c.judge_all.ensures.honest.1 ∙ honest.1)) (c.tidy_all.ensures.highs (c.judge_all.ensures.honest.2 ∙ honest.2))

pub returns-in-Ok-tidy_all-clause-opened : goal.returns-in-Ok-tidy_all-clause-opened
returns-in-Ok-tidy_all-clause-opened g c honest =
    tidied_opens c.in-Ok.found.index c.in-Ok.found.bounds c.args.names.now (g.D.Disk.history c.args.low.now) (g.D.Disk.history c.args.middle.now) (g.D.Disk.history c.args.high.now)
    (g.D.Disk.history c.judge_all.new.low) (g.D.Disk.history c.judge_all.new.middle) (g.D.Disk.history c.judge_all.new.high)
    (g.D.Disk.history c.tidy_all.new.low) (g.D.Disk.history c.tidy_all.new.middle) (g.D.Disk.history c.tidy_all.new.high)
    (c.requires.low_settled honest.0) (c.requires.middle_settled honest.1) (c.requires.high_settled honest.2)
    c.judge_all.ensures.rests.0 c.judge_all.ensures.rests.1 c.judge_all.ensures.rests.2 (c.requires.no_snapshot honest.0) (c.in-Ok.ensures.finds honest (c.requires.listed honest)).finds (c.requires.listed honest)
    (c.in-Ok-tidy_all.ensures.low_done (c.judge_all.ensures.honest.0 ∙ honest.0)) (c.in-Ok-tidy_all.ensures.middle_done (c.judge_all.ensures.honest.1 ∙ honest.1)) (c.in-Ok-tidy_all.ensures.high_done (c.judge_all.ensures.honest.2 ∙ honest.2))

pub returns-in-Ok-tidy_all-clause-settled : goal.returns-in-Ok-tidy_all-clause-settled
returns-in-Ok-tidy_all-clause-settled g c = (
  λ honest. (c.in-Ok-tidy_all.ensures.low_done (c.judge_all.ensures.honest.0 ∙ honest)).settled,
  λ honest. (c.in-Ok-tidy_all.ensures.middle_done (c.judge_all.ensures.honest.1 ∙ honest)).settled,
  λ honest. (c.in-Ok-tidy_all.ensures.high_done (c.judge_all.ensures.honest.2 ∙ honest)).settled,
)

pub tidy_all-requires-clause-low_settled : goal.tidy_all-requires-clause-low_settled
tidy_all-requires-clause-low_settled g c honest =
    settled_rests (g.D.Disk.history c.args.low.now) (g.D.Disk.history c.judge_all.new.low) (c.requires.low_settled (sym c.judge_all.ensures.honest.0 ∙ honest)) c.judge_all.ensures.rests.0

pub tidy_all-requires-clause-middle_settled : goal.tidy_all-requires-clause-middle_settled
tidy_all-requires-clause-middle_settled g c honest =
    settled_rests (g.D.Disk.history c.args.middle.now) (g.D.Disk.history c.judge_all.new.middle) (c.requires.middle_settled (sym c.judge_all.ensures.honest.1 ∙ honest)) c.judge_all.ensures.rests.1

pub tidy_all-requires-clause-high_settled : goal.tidy_all-requires-clause-high_settled
tidy_all-requires-clause-high_settled g c honest =
    settled_rests (g.D.Disk.history c.args.high.now) (g.D.Disk.history c.judge_all.new.high) (c.requires.high_settled (sym c.judge_all.ensures.honest.2 ∙ honest)) c.judge_all.ensures.rests.2

pub returns-in-Ok-tidy_all-clause-makes : goal.returns-in-Ok-tidy_all-clause-makes
returns-in-Ok-tidy_all-clause-makes g c honest =
    files_make c.in-Ok.found.index c.in-Ok.found.bounds (now (g.D.Disk.history c.args.low.now)) (now (g.D.Disk.history c.args.middle.now)) (now (g.D.Disk.history c.args.high.now))
    c.args.target c.in-Ok.found.target (c.requires.no_snapshot honest.0) (c.in-Ok.ensures.finds honest (c.requires.listed honest))
