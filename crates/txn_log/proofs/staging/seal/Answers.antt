use Rattle.std.proofs.Common.{◌≡◌, ◌∙◌, ◌++◌, List, ℕ, length, ap, subst}
use Rattle.std.specs.Int.{w32, w64, to_be_bytes}
use Rattle.lf_disk.specs.declared.name.FileName.TheVariants.{Staged}
use Rattle.lf_disk.specs.Folder.{SameBut}
use Rattle.lf_disk.specs.Publish.{IsStaged}
use Rattle.lf_disk.proofs.Moments.{joined}
use Rattle.page_checksum.specs.Crc.{after_bytes}
use Rattle.ltx_codec.specs.Format.{sealed}
use Rattle.txn_log.specs.Staging.{front_encoding}
use Rattle.txn_log.proofs.Stagings.{behind_long, edits, perhaps_syncs, sealed-encoding, syncs, long-enough}
use Rattle.txn_log.proofs.staging.seal.Goals as goal

pub returns-in_err-append-clause-moments : goal.returns-in_err-append-clause-moments
returns-in_err-append-clause-moments g c honest before header pages staging so_far = c.append.ensures.moments honest before (front_encoding header pages) staging.len so_far

pub returns-in_err-append-2-clause-moments : goal.returns-in_err-append-2-clause-moments
returns-in_err-append-2-clause-moments g c honest before header pages staging so_far =
    let first = c.append.ensures.moments honest before (front_encoding header pages) staging.len so_far in
    let held = c.in_ok-append.ensures.staged honest before (front_encoding header pages) staging.len so_far in
    let long = behind_long (front_encoding header pages) _ c.args.staging.now.len c.append.new.staging.len staging.len c.in_ok-append.ensures.counts.0 in
    joined _ (g.D.Disk.history c.append.new.disk) _ (SameBut Staged before) first (c.append-2.ensures.moments (c.append.ensures.honest ∙ honest) before _ long held)

pub returns-in_err-sync-clause-moments : goal.returns-in_err-sync-clause-moments
returns-in_err-sync-clause-moments g c honest before header pages staging so_far =
    let still = c.append.ensures.honest ∙ honest in
    let yet = c.append-2.ensures.honest ∙ still in
    let first = c.append.ensures.moments honest before (front_encoding header pages) staging.len so_far in
    let held = c.in_ok-append.ensures.staged honest before (front_encoding header pages) staging.len so_far in
    let long = behind_long (front_encoding header pages) _ c.args.staging.now.len c.append.new.staging.len staging.len c.in_ok-append.ensures.counts.0 in
    let second = c.append-2.ensures.moments still before _ long held in
    let whole = c.in_ok-append-2.ensures.staged still before _ long held in
    joined _ (g.D.Disk.history c.append-2.new.disk) _ (SameBut Staged before) (joined _ (g.D.Disk.history c.append.new.disk) _ (SameBut Staged before) first second)
    (perhaps_syncs _ before _ _ _ whole c.sync.ensures.ticks (c.in_err-sync.ensures.failed yet))

pub returns-clause-moments : goal.returns-clause-moments
returns-clause-moments g c honest before header pages staging so_far =
    let still = c.append.ensures.honest ∙ honest in
    let yet = c.append-2.ensures.honest ∙ still in
    let first = c.append.ensures.moments honest before (front_encoding header pages) staging.len so_far in
    let held = c.in_ok-append.ensures.staged honest before (front_encoding header pages) staging.len so_far in
    let long = behind_long (front_encoding header pages) _ c.args.staging.now.len c.append.new.staging.len staging.len c.in_ok-append.ensures.counts.0 in
    let second = c.append-2.ensures.moments still before _ long held in
    let whole = c.in_ok-append-2.ensures.staged still before _ long held in
    joined _ (g.D.Disk.history c.append-2.new.disk) _ (SameBut Staged before) (joined _ (g.D.Disk.history c.append.new.disk) _ (SameBut Staged before) first second)
    (edits before _ _ whole _ (g.D.Disk.history c.sync.new.self) _ _ c.sync.ensures.ticks (c.in_ok-sync.ensures.done yet))

pub returns-clause-staged : goal.returns-clause-staged
returns-clause-staged g c honest before file staging same so_far =
    let still = c.append.ensures.honest ∙ honest in
    let yet = c.append-2.ensures.honest ∙ still in
    let front = front_encoding file.header file.change.pages in
    let held = c.in_ok-append.ensures.staged honest before front staging.len so_far in
    let long = behind_long front _ c.args.staging.now.len c.append.new.staging.len staging.len c.in_ok-append.ensures.counts.0 in
    let whole = c.in_ok-append-2.ensures.staged still before _ long held in
    let sum : c.sealed-file_sum.result ≡ sealed (after_bytes (after_bytes c.args.staging.now.register (to_be_bytes w32 0)) (to_be_bytes w64 c.args.post)) =
    c.sealed-file_sum.ensures ∙ ap sealed (c.crc_feed-register.ensures ∙ ap (λ (r : ℕ). after_bytes r c.to_be_bytes-sum.result) c.in_ok-append.ensures.counts.1 ∙ ap (after_bytes (after_bytes c.args.staging.now.register (to_be_bytes w32 0))) c.to_be_bytes-sum.ensures) in
    let encoding = sealed-encoding c.args.staging.now file staging c.args.post same c.trailer_bytes.result _ c.trailer_bytes.ensures sum in
    subst (λ (t : List ℕ). IsStaged before t (g.D.Disk.history c.sync.new.self)) encoding
    (syncs before _ _ (g.D.Disk.history c.sync.new.self) whole (long-enough (front ++ to_be_bytes w32 0) c.trailer_bytes.result (ap length c.trailer_bytes.ensures)) (c.in_ok-sync.ensures.done yet))
