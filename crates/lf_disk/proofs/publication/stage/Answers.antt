use Rattle.std.proofs.Common.{◌∙◌}
use Rattle.lf_disk.specs.declared.name.FileName.TheVariants.{Staged}
use Rattle.lf_disk.specs.History.{now}
use Rattle.lf_disk.proofs.Folders.{edited, perhaps_edited}
use Rattle.lf_disk.proofs.Publishing.{here, stages, staged}
use Rattle.lf_disk.proofs.publication.stage.Goals as goal

pub returns-in_err-sync-clause-moments : goal.returns-in_err-sync-clause-moments
returns-in_err-sync-clause-moments g c honest =
    let h = g.D.Disk.history c.args.disk.now in
    let mid = g.D.Disk.history c.trim_staged.new.disk in
    let wrote = g.D.Disk.history c.write.new.self in
    let still = c.trim_staged.ensures.honest ∙ honest in
    let yet = c.write.ensures.honest ∙ still in
    let runs = c.trim_staged.ensures.moments honest in
    let torn = edited Staged (now h) _ _ mid wrote (here h mid runs) (c.in_ok-write.ensures.done still) in
    let then = stages h _ mid wrote runs c.write.ensures.ticks torn in
    stages h _ wrote _ then c.sync.ensures.ticks (perhaps_edited Staged (now h) _ _ wrote _ torn (c.in_err-sync.ensures.failed yet))

pub returns-clause-staged : goal.returns-clause-staged
returns-clause-staged g c honest =
    let h = g.D.Disk.history c.args.disk.now in
    let mid = g.D.Disk.history c.trim_staged.new.disk in
    let wrote = g.D.Disk.history c.write.new.self in
    let synced = g.D.Disk.history c.sync.new.self in
    let still = c.trim_staged.ensures.honest ∙ honest in
    let yet = c.write.ensures.honest ∙ still in
    let torn = edited Staged (now h) _ _ mid wrote (here h mid (c.trim_staged.ensures.moments honest)) (c.in_ok-write.ensures.done still) in
    let done = c.in_ok-sync.ensures.done yet in
    staged h mid wrote synced c.args.bytes.now _ (c.in_ok-trim_staged.ensures.trimmed honest) (c.in_ok-write.ensures.done still).seen
    done.seen done (edited Staged (now h) _ _ wrote synced torn done)
