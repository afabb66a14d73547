use Rattle.std.proofs.Common.{◌∙◌, List, ℕ, subst}
use Rattle.lf_disk.specs.declared.name.FileName.TheVariants.{Staged}
use Rattle.lf_disk.specs.Folder.{SameBut}
use Rattle.lf_disk.proofs.Moments.{joined}
use Rattle.txn_log.specs.Staging.{HoldsSoFar, front_encoding}
use Rattle.txn_log.proofs.Stagings.{page_encoding-is, mid_long, page-staging}
use Rattle.txn_log.proofs.staging.stage_page.Goals as goal

pub returns-in_err-append-clause-moments : goal.returns-in_err-append-clause-moments
returns-in_err-append-clause-moments g c honest before header pages staging so_far = c.append.ensures.moments honest before (front_encoding header pages) staging.len so_far

pub returns-in_err-append-2-clause-moments : goal.returns-in_err-append-2-clause-moments
returns-in_err-append-2-clause-moments g c honest before header pages staging so_far =
    let first = c.append.ensures.moments honest before (front_encoding header pages) staging.len so_far in
    let held = c.in_ok-append.ensures.staged honest before (front_encoding header pages) staging.len so_far in
    let long = mid_long c.args.staging.now header pages c.args.number _ c.args.page.now c.to_be_bytes.ensures staging c.append.new.staging c.in_ok-append.ensures.counts.0 in
    joined _ (g.D.Disk.history c.append.new.disk) _ (SameBut Staged before) first (c.append-2.ensures.moments (c.append.ensures.honest ∙ honest) before _ long held)

pub returns-clause-moments : goal.returns-clause-moments
returns-clause-moments g c honest before header pages staging so_far =
    let first = c.append.ensures.moments honest before (front_encoding header pages) staging.len so_far in
    let held = c.in_ok-append.ensures.staged honest before (front_encoding header pages) staging.len so_far in
    let long = mid_long c.args.staging.now header pages c.args.number _ c.args.page.now c.to_be_bytes.ensures staging c.append.new.staging c.in_ok-append.ensures.counts.0 in
    joined _ (g.D.Disk.history c.append.new.disk) _ (SameBut Staged before) first (c.append-2.ensures.moments (c.append.ensures.honest ∙ honest) before _ long held)

pub returns-clause-staged : goal.returns-clause-staged
returns-clause-staged g c honest before header pages staging so_far =
    let held = c.in_ok-append.ensures.staged honest before (front_encoding header pages) staging.len so_far in
    let long = mid_long c.args.staging.now header pages c.args.number _ c.args.page.now c.to_be_bytes.ensures staging c.append.new.staging c.in_ok-append.ensures.counts.0 in
    subst (λ (t : List ℕ). HoldsSoFar before t (g.D.Disk.history c.append-2.new.disk)) (page_encoding-is c.args.staging.now header pages c.args.number _ c.args.page.now c.to_be_bytes.ensures staging)
    (c.in_ok-append-2.ensures.staged (c.append.ensures.honest ∙ honest) before _ long held)

pub returns-clause-counts : goal.returns-clause-counts
returns-clause-counts g c header pages staging =
    page-staging c.args.staging.now header pages c.args.number _ c.args.page.now c.to_be_bytes.ensures staging c.append.new.staging c.append-2.new.staging
    c.in_ok-append.ensures.counts.0 c.in_ok-append-2.ensures.counts.0 c.in_ok-append.ensures.counts.1 c.in_ok-append-2.ensures.counts.1
