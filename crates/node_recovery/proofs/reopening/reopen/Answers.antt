use Rattle.std.proofs.Common.{◌∙◌, false, refl, sym, ap, subst}
use Rattle.lf_disk.specs.declared.name.FileName.TheVariants.{Dropped}
use Rattle.lf_disk.specs.Folder.{Folder}
use Rattle.lf_disk.specs.History.{now, EachMoment}
use Rattle.txn_log.specs.Durable.{Durable}
use Rattle.txn_log.specs.Kept.{IsAtRest}
use Rattle.txn_log.specs.Store.{IsStore}
use Rattle.txn_log.proofs.Resting.{same_now}
use Rattle.node_recovery.specs.Finding.{Finds}
use Rattle.node_recovery.specs.Finishing.{image_left, files_left, size_left, commit_left, is_marked, IsFinished}
use Rattle.node_recovery.proofs.Findings.{whole_found}
use Rattle.node_recovery.proofs.Openings.{kept_left, mode_left_is, state_is}
use Rattle.node_recovery.proofs.Reopenings.{only_read, then_finished, then_unstaged, rest_unstaged}
use Rattle.txn_log.proofs.Settlings.{perhaps}
use Rattle.node_recovery.proofs.reopening.reopen.Goals as goal

pub finish-requires-clause-finds : goal.finish-requires-clause-finds
finish-requires-clause-finds g c still =
    let honest = sym c.examine_by.ensures.honest ∙ still in
    subst (λ (f : Folder). Finds f c.in-Ok-examine_by.found) (sym (same_now (g.D.Disk.history c.args.disk.now) (g.D.Disk.history c.examine_by.new.disk) c.examine_by.ensures.rests)) (c.in-Ok-examine_by.ensures.examines honest)

pub returns-in-Err-examine_by-clause-moments : goal.returns-in-Err-examine_by-clause-moments
returns-in-Err-examine_by-clause-moments g c honest store durable =
    only_read store (g.D.Disk.history c.args.disk.now) (g.D.Disk.history c.examine_by.new.disk) (c.requires honest) c.examine_by.ensures.rests durable

pub returns-in-Err-finish-clause-moments : goal.returns-in-Err-finish-clause-moments
returns-in-Err-finish-clause-moments g c honest store durable =
    let h = g.D.Disk.history c.args.disk.now in
    let one = g.D.Disk.history c.examine_by.new.disk in
    let two = g.D.Disk.history c.finish.new.disk in
    let still = c.examine_by.ensures.honest ∙ honest in
    let here : Durable (now one) store = subst (λ (f : Folder). Durable f store) (sym (same_now h one c.examine_by.ensures.rests)) durable in
    then_finished store h one two (c.requires honest) c.examine_by.ensures.rests durable (c.finish.ensures.moments still store here)

pub returns-in-Err-remove-clause-moments : goal.returns-in-Err-remove-clause-moments
returns-in-Err-remove-clause-moments g c honest store durable =
    let h = g.D.Disk.history c.args.disk.now in
    let one = g.D.Disk.history c.examine_by.new.disk in
    let two = g.D.Disk.history c.finish.new.disk in
    let still = c.examine_by.ensures.honest ∙ honest in
    let here : Durable (now one) store = subst (λ (f : Folder). Durable f store) (sym (same_now h one c.examine_by.ensures.rests)) durable in
    let finished : EachMoment h two (λ f. Durable f store) = then_finished store h one two (c.requires honest) c.examine_by.ensures.rests durable (c.finish.ensures.moments still store here) in
    let yet = c.finish.ensures.honest ∙ still in
    then_unstaged _ store h two (g.D.Disk.history c.remove.new.self) _ finished c.remove.ensures.ticks (c.in-Err-remove.ensures.failed yet)

pub returns-clause-moments : goal.returns-clause-moments
returns-clause-moments g c honest store durable =
    let h = g.D.Disk.history c.args.disk.now in
    let one = g.D.Disk.history c.examine_by.new.disk in
    let two = g.D.Disk.history c.finish.new.disk in
    let three = g.D.Disk.history c.remove.new.self in
    let still = c.examine_by.ensures.honest ∙ honest in
    let here : Durable (now one) store = subst (λ (f : Folder). Durable f store) (sym (same_now h one c.examine_by.ensures.rests)) durable in
    let finished : EachMoment h two (λ f. Durable f store) = then_finished store h one two (c.requires honest) c.examine_by.ensures.rests durable (c.finish.ensures.moments still store here) in
    let yet = c.finish.ensures.honest ∙ still in
    then_unstaged _ store h two three _ finished c.remove.ensures.ticks (perhaps two three _ _ (c.in-Ok-remove.ensures.done yet))

pub returns-clause-opens : goal.returns-clause-opens
returns-clause-opens g c honest =
    let h = g.D.Disk.history c.args.disk.now in
    let one = g.D.Disk.history c.examine_by.new.disk in
    let two = g.D.Disk.history c.finish.new.disk in
    let three = g.D.Disk.history c.remove.new.self in
    let still = c.examine_by.ensures.honest ∙ honest in
    let yet = c.finish.ensures.honest ∙ still in
    let found = c.in-Ok-examine_by.found in
    let names = found.names.items in
    let entries = found.entries.items in
    let tally = found.tally in
    let d = found.decider in
    let shape = c.shape_of-page_size.ensures in
    let finds : Finds (now one) found = subst (λ (f : Folder). Finds f found) (sym (same_now h one c.examine_by.ensures.rests)) (c.in-Ok-examine_by.ensures.examines honest) in
    let finished : IsFinished (now one) d names two = c.in-Ok-finish.ensures.done still in
    let rest : IsAtRest (image_left d (now one)) (files_left d names (now one)) (is_marked d) three =
    rest_unstaged (image_left d (now one)) (files_left d names (now one)) (is_marked d) two three finished (c.in-Ok-remove.ensures.done yet) in
    let kept : IsStore three (size_left d) (commit_left d) entries (is_marked d) tally.sums.sums false 0 0 = kept_left names (now one) entries tally finds.names d finds.by three rest in
    record {
      kept = rw (shape.0, shape.1, shape.2) kept;
      mode = rw (shape.0, shape.1) (mode_left_is names (now one) entries tally finds.names d finds.by three rest);
      state = λ store durable.
          let was : Durable (now one) store = subst (λ (f : Folder). Durable f store) (sym (same_now h one c.examine_by.ensures.rests)) durable in
          rw (shape.0, shape.1, shape.2) (state_is names (now one) entries tally finds.names d finds.by three rest store was);
      staged = (c.in-Ok-remove.ensures.done yet).seen.here;
      mark = λ marked.
          (c.in-Ok-remove.ensures.done yet).seen.elsewhere Dropped refl ∙ c.in-Ok-finish.ensures.mark still (sym shape.2 ∙ marked)
          ∙ ap (λ (f : Folder). f Dropped) (same_now h one c.examine_by.ensures.rests);
    }

pub returns-in-Err-finish-clause-untouched : goal.returns-in-Err-finish-clause-untouched
returns-in-Err-finish-clause-untouched g c honest damage =
    absurd (whole_found (now (g.D.Disk.history c.args.disk.now)) c.in-Ok-examine_by.found (c.in-Ok-examine_by.ensures.examines honest) damage)

pub returns-in-Err-remove-clause-untouched : goal.returns-in-Err-remove-clause-untouched
returns-in-Err-remove-clause-untouched g c honest damage =
    absurd (whole_found (now (g.D.Disk.history c.args.disk.now)) c.in-Ok-examine_by.found (c.in-Ok-examine_by.ensures.examines honest) damage)

pub returns-clause-exact : goal.returns-clause-exact
returns-clause-exact g c honest damage =
    whole_found (now (g.D.Disk.history c.args.disk.now)) c.in-Ok-examine_by.found (c.in-Ok-examine_by.ensures.examines honest) damage
