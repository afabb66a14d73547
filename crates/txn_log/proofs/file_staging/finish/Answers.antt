use Rattle.std.proofs.Common.{◌≡◌, ◌∙◌, ◌++◌, List, ℕ, length, refl, ap, subst}
use Rattle.std.specs.Int.{w32, w64, to_be_bytes}
use Rattle.lf_disk.specs.declared.name.FileName.TheVariants.{Staged}
use Rattle.lf_disk.specs.Folder.{SameBut}
use Rattle.lf_disk.proofs.Moments.{joined}
use Rattle.lf_disk.specs.Publish.{IsStaged}
use Rattle.page_checksum.specs.Crc.{after_bytes}
use Rattle.ltx_codec.specs.Format.{sealed}
use Rattle.txn_log.specs.Staging.{IsStaging, front_encoding}
use Rattle.txn_log.specs.declared.staging.Staging.{Staging}
use Rattle.txn_log.proofs.Gatherings.{all_written}
use Rattle.txn_log.proofs.Stagings.{edits, perhaps_syncs, sealed-encoding, syncs, long-enough}
use Rattle.txn_log.proofs.file_staging.finish.Goals as goal

pub returns-in_err-gather-2-clause-moments : goal.returns-in_err-gather-2-clause-moments
returns-in_err-gather-2-clause-moments g c honest before encoding so_far =
    joined _ (g.D.Disk.history c.gather.new.disk) _ (SameBut Staged before) (c.gather.ensures.moments honest before encoding so_far)
    (c.gather-2.ensures.moments (c.gather.ensures.honest ∙ honest) before _ (c.in_ok-gather.ensures.gathers honest before encoding so_far))

pub returns-in_err-flush-clause-moments : goal.returns-in_err-flush-clause-moments
returns-in_err-flush-clause-moments g c honest before encoding so_far =
    let still = c.gather.ensures.honest ∙ honest in
    let yet = c.gather-2.ensures.honest ∙ still in
    let held = c.in_ok-gather.ensures.gathers honest before encoding so_far in
    let more = c.in_ok-gather-2.ensures.gathers still before _ held in
    joined _ (g.D.Disk.history c.gather-2.new.disk) _ (SameBut Staged before)
    (joined _ (g.D.Disk.history c.gather.new.disk) _ (SameBut Staged before) (c.gather.ensures.moments honest before encoding so_far) (c.gather-2.ensures.moments still before _ held))
    (c.flush.ensures.moments yet before _ more)

pub returns-in_err-sync-clause-moments : goal.returns-in_err-sync-clause-moments
returns-in_err-sync-clause-moments g c honest before encoding so_far =
    let still = c.gather.ensures.honest ∙ honest in
    let yet = c.gather-2.ensures.honest ∙ still in
    let held = c.in_ok-gather.ensures.gathers honest before encoding so_far in
    let more = c.in_ok-gather-2.ensures.gathers still before _ held in
    let whole = all_written before _ _ _ _ (c.in_ok-flush.ensures.gathers yet before _ more) c.in_ok-flush.ensures.none in
    joined _ (g.D.Disk.history c.flush.new.disk) _ (SameBut Staged before)
    (joined _ (g.D.Disk.history c.gather-2.new.disk) _ (SameBut Staged before)
    (joined _ (g.D.Disk.history c.gather.new.disk) _ (SameBut Staged before) (c.gather.ensures.moments honest before encoding so_far) (c.gather-2.ensures.moments still before _ held))
    (c.flush.ensures.moments yet before _ more))
    (perhaps_syncs _ before _ _ _ whole c.sync.ensures.ticks (c.in_err-sync.ensures.failed (c.flush.ensures.honest ∙ yet)))

pub returns-clause-moments : goal.returns-clause-moments
returns-clause-moments g c honest before encoding so_far =
    let still = c.gather.ensures.honest ∙ honest in
    let yet = c.gather-2.ensures.honest ∙ still in
    let held = c.in_ok-gather.ensures.gathers honest before encoding so_far in
    let more = c.in_ok-gather-2.ensures.gathers still before _ held in
    let whole = all_written before _ _ _ _ (c.in_ok-flush.ensures.gathers yet before _ more) c.in_ok-flush.ensures.none in
    joined _ (g.D.Disk.history c.flush.new.disk) _ (SameBut Staged before)
    (joined _ (g.D.Disk.history c.gather-2.new.disk) _ (SameBut Staged before)
    (joined _ (g.D.Disk.history c.gather.new.disk) _ (SameBut Staged before) (c.gather.ensures.moments honest before encoding so_far) (c.gather-2.ensures.moments still before _ held))
    (c.flush.ensures.moments yet before _ more))
    (edits before _ _ whole _ (g.D.Disk.history c.sync.new.self) _ _ c.sync.ensures.ticks (c.in_ok-sync.ensures.done (c.flush.ensures.honest ∙ yet)))

pub returns-clause-staged : goal.returns-clause-staged
returns-clause-staged g c honest before file register same so_far =
    let still = c.gather.ensures.honest ∙ honest in
    let yet = c.gather-2.ensures.honest ∙ still in
    let front = front_encoding file.header file.change.pages in
    let held = c.in_ok-gather.ensures.gathers honest before front so_far in
    let more = c.in_ok-gather-2.ensures.gathers still before _ held in
    let whole = all_written before _ _ _ _ (c.in_ok-flush.ensures.gathers yet before _ more) c.in_ok-flush.ensures.none in
    let start : ℕ = c.args.gathering.now.register in
    let staging : Staging = record { len = length front; register = start } in
    let is_staging : IsStaging staging file.header file.change.pages = record { written = record { register_is = register; encoding_is = refl }; len = refl } in
    let sum : c.sealed-file_sum.result ≡ sealed (after_bytes (after_bytes start (to_be_bytes w32 0)) (to_be_bytes w64 c.args.post)) =
    c.sealed-file_sum.ensures ∙ ap sealed (c.crc_feed-register.ensures ∙ ap (λ (r : ℕ). after_bytes r c.to_be_bytes-sum.result) c.in_ok-gather.ensures.register ∙ ap (after_bytes (after_bytes start (to_be_bytes w32 0))) c.to_be_bytes-sum.ensures) in
    let encoding = sealed-encoding staging file is_staging c.args.post same c.trailer_bytes.result _ c.trailer_bytes.ensures sum in
    subst (λ (t : List ℕ). IsStaged before t (g.D.Disk.history c.sync.new.self)) encoding
    (syncs before _ _ (g.D.Disk.history c.sync.new.self) whole (long-enough (front ++ to_be_bytes w32 0) c.trailer_bytes.result (ap length c.trailer_bytes.ensures)) (c.in_ok-sync.ensures.done (c.flush.ensures.honest ∙ yet)))
