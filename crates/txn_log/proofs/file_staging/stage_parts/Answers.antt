use Rattle.std.proofs.Common.{◌≡◌, ◌∙◌, [], List, ℕ, refl, sym, ap, subst, ◌++◌}
use Rattle.lf_disk.specs.declared.name.FileName.TheVariants.{Staged}
use Rattle.lf_disk.specs.Folder.{SameBut}
use Rattle.lf_disk.specs.History.{now}
use Rattle.lf_disk.proofs.Moments.{joined}
use Rattle.page_checksum.specs.Crc.{after_bytes, all_ones}
use Rattle.page_checksum.proofs.CrcLemmas.{after_bytes-append}
use Rattle.ltx_codec.specs.Format.{pages_encoding}
use Rattle.txn_log.specs.Staging.{HasGathered, front_encoding}
use Rattle.txn_log.proofs.Gatherings.{begun}
use Rattle.txn_log.proofs.file_staging.stage_parts.Goals as goal

pub returns-in_err-gather-clause-moments : goal.returns-in_err-gather-clause-moments
returns-in_err-gather-clause-moments g c honest =
    let before = now (g.D.Disk.history c.args.disk.now) in
    let mid = g.D.Disk.history c.clear.new.disk in
    let first = begun before mid _ _ (c.in_ok-clear.ensures.staged honest) c.begin_gathering-gathering.ensures.0 c.begin_gathering-gathering.ensures.1 in
    joined _ mid _ (SameBut Staged before) (c.clear.ensures.moments honest) (c.gather.ensures.moments (c.clear.ensures.honest ∙ honest) before [] first)

pub returns-in_err-gather_pages-clause-moments : goal.returns-in_err-gather_pages-clause-moments
returns-in_err-gather_pages-clause-moments g c honest =
    let before = now (g.D.Disk.history c.args.disk.now) in
    let mid = g.D.Disk.history c.clear.new.disk in
    let still = c.clear.ensures.honest ∙ honest in
    let yet = c.gather.ensures.honest ∙ still in
    let first = begun before mid _ _ (c.in_ok-clear.ensures.staged honest) c.begin_gathering-gathering.ensures.0 c.begin_gathering-gathering.ensures.1 in
    let held = c.in_ok-gather.ensures.gathers still before [] first in
    joined _ (g.D.Disk.history c.gather.new.disk) _ (SameBut Staged before)
    (joined _ mid _ (SameBut Staged before) (c.clear.ensures.moments honest) (c.gather.ensures.moments still before [] first))
    (c.gather_pages.ensures.moments yet before _ held)

pub returns-in_err-finish-clause-moments : goal.returns-in_err-finish-clause-moments
returns-in_err-finish-clause-moments g c honest =
    let before = now (g.D.Disk.history c.args.disk.now) in
    let mid = g.D.Disk.history c.clear.new.disk in
    let still = c.clear.ensures.honest ∙ honest in
    let yet = c.gather.ensures.honest ∙ still in
    let then = c.gather_pages.ensures.honest ∙ yet in
    let first = begun before mid _ _ (c.in_ok-clear.ensures.staged honest) c.begin_gathering-gathering.ensures.0 c.begin_gathering-gathering.ensures.1 in
    let held = c.in_ok-gather.ensures.gathers still before [] first in
    let more = c.in_ok-gather_pages.ensures.gathers yet before _ held in
    joined _ (g.D.Disk.history c.gather_pages.new.disk) _ (SameBut Staged before)
    (joined _ (g.D.Disk.history c.gather.new.disk) _ (SameBut Staged before)
    (joined _ mid _ (SameBut Staged before) (c.clear.ensures.moments honest) (c.gather.ensures.moments still before [] first))
    (c.gather_pages.ensures.moments yet before _ held))
    (c.finish.ensures.moments then before _ more)

pub returns-clause-moments : goal.returns-clause-moments
returns-clause-moments g c honest =
    let before = now (g.D.Disk.history c.args.disk.now) in
    let mid = g.D.Disk.history c.clear.new.disk in
    let still = c.clear.ensures.honest ∙ honest in
    let yet = c.gather.ensures.honest ∙ still in
    let then = c.gather_pages.ensures.honest ∙ yet in
    let first = begun before mid _ _ (c.in_ok-clear.ensures.staged honest) c.begin_gathering-gathering.ensures.0 c.begin_gathering-gathering.ensures.1 in
    let held = c.in_ok-gather.ensures.gathers still before [] first in
    let more = c.in_ok-gather_pages.ensures.gathers yet before _ held in
    joined _ (g.D.Disk.history c.gather_pages.new.disk) _ (SameBut Staged before)
    (joined _ (g.D.Disk.history c.gather.new.disk) _ (SameBut Staged before)
    (joined _ mid _ (SameBut Staged before) (c.clear.ensures.moments honest) (c.gather.ensures.moments still before [] first))
    (c.gather_pages.ensures.moments yet before _ held))
    (c.finish.ensures.moments then before _ more)

pub returns-clause-staged : goal.returns-clause-staged
returns-clause-staged g c honest =
    let before = now (g.D.Disk.history c.args.disk.now) in
    let file = c.args.file.now in
    let mid = g.D.Disk.history c.clear.new.disk in
    let end = g.D.Disk.history c.gather_pages.new.disk in
    let still = c.clear.ensures.honest ∙ honest in
    let yet = c.gather.ensures.honest ∙ still in
    let then = c.gather_pages.ensures.honest ∙ yet in
    let first = begun before mid _ _ (c.in_ok-clear.ensures.staged honest) c.begin_gathering-gathering.ensures.0 c.begin_gathering-gathering.ensures.1 in
    let held = c.in_ok-gather.ensures.gathers still before [] first in
    let more = subst (λ (l : List ℕ). HasGathered before c.gather_pages.new.gathering.at c.gather_pages.new.gathering.gathered.items (l ++ pages_encoding file.change.pages) end) c.header_bytes.ensures
    (c.in_ok-gather_pages.ensures.gathers yet before _ held) in
    let register : c.gather_pages.new.gathering.register ≡ after_bytes all_ones (front_encoding file.header file.change.pages) =
    c.in_ok-gather_pages.ensures.register
    ∙ ap (λ (r : ℕ). after_bytes r (pages_encoding file.change.pages)) (c.in_ok-gather.ensures.register ∙ ap (λ (r : ℕ). after_bytes r c.header_bytes.result) c.begin_gathering-gathering.ensures.2)
    ∙ sym (after_bytes-append all_ones c.header_bytes.result (pages_encoding file.change.pages))
    ∙ ap (λ (l : List ℕ). after_bytes all_ones (l ++ pages_encoding file.change.pages)) c.header_bytes.ensures in
    c.in_ok-finish.ensures.staged then before file register refl more
