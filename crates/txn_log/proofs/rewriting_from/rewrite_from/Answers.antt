use Rattle.std.proofs.Common.{◌≡◌, ◌*◌, ◌∙◌, arith}
use Rattle.lf_disk.specs.History.{now, may_leave}
use Rattle.txn_log.proofs.Rewritings.{Runs, writes, fits, syncs, perhaps_syncs, rewritten}
use Rattle.txn_log.proofs.Republishings.{size_said}
use Rattle.txn_log.proofs.rewriting_from.rewrite_from.Goals as goal

pub returns-in_err-copy_pages-clause-moments : goal.returns-in_err-copy_pages-clause-moments
returns-in_err-copy_pages-clause-moments g c honest file holds =
    let h = g.D.Disk.history c.args.disk.now in
    writes file.change h _ (c.requires.settled honest) (c.copy_pages.ensures.moments honest file holds)

pub returns-in_err-fit-clause-moments : goal.returns-in_err-fit-clause-moments
returns-in_err-fit-clause-moments g c honest file holds =
    let h = g.D.Disk.history c.args.disk.now in
    let wrote = g.D.Disk.history c.copy_pages.new.disk in
    let cut = g.D.Disk.history c.fit.new.disk in
    let size : c.from.result * c.from-2.result ≡ file.change.commit * file.change.page_size =
    rw (c.from.ensures, c.from-2.ensures) (size_said c.args.name c.args.header.now c.args.len file (now h) holds) in
    let still = c.copy_pages.ensures.honest ∙ honest in
    let first : Runs file.change h wrote = writes file.change h wrote (c.requires.settled honest) (c.copy_pages.ensures.moments honest file holds) in
    fits file.change h wrote cut _ size first (c.fit.ensures.moments still)

pub returns-in_err-sync-clause-moments : goal.returns-in_err-sync-clause-moments
returns-in_err-sync-clause-moments g c honest file holds =
    let h = g.D.Disk.history c.args.disk.now in
    let wrote = g.D.Disk.history c.copy_pages.new.disk in
    let cut = g.D.Disk.history c.fit.new.disk in
    let size : c.from.result * c.from-2.result ≡ file.change.commit * file.change.page_size =
    rw (c.from.ensures, c.from-2.ensures) (size_said c.args.name c.args.header.now c.args.len file (now h) holds) in
    let still = c.copy_pages.ensures.honest ∙ honest in
    let first : Runs file.change h wrote = writes file.change h wrote (c.requires.settled honest) (c.copy_pages.ensures.moments honest file holds) in
    let then : Runs file.change h cut = fits file.change h wrote cut _ size first (c.fit.ensures.moments still) in
    let yet = c.fit.ensures.honest ∙ still in
    let real : may_leave cut (now cut) = g.met.D.Disk.as_it_read c.fit.new.disk cut.moment yet (omega arith) in
    perhaps_syncs file.change h _ cut _ _ then real c.sync.ensures.ticks (c.in_err-sync.ensures.failed yet)

pub returns-clause-moments : goal.returns-clause-moments
returns-clause-moments g c honest file holds =
    let h = g.D.Disk.history c.args.disk.now in
    let wrote = g.D.Disk.history c.copy_pages.new.disk in
    let cut = g.D.Disk.history c.fit.new.disk in
    let size : c.from.result * c.from-2.result ≡ file.change.commit * file.change.page_size =
    rw (c.from.ensures, c.from-2.ensures) (size_said c.args.name c.args.header.now c.args.len file (now h) holds) in
    let still = c.copy_pages.ensures.honest ∙ honest in
    let first : Runs file.change h wrote = writes file.change h wrote (c.requires.settled honest) (c.copy_pages.ensures.moments honest file holds) in
    let then : Runs file.change h cut = fits file.change h wrote cut _ size first (c.fit.ensures.moments still) in
    let yet = c.fit.ensures.honest ∙ still in
    let real : may_leave cut (now cut) = g.met.D.Disk.as_it_read c.fit.new.disk cut.moment yet (omega arith) in
    syncs file.change h _ cut _ _ then real c.sync.ensures.ticks (c.in_ok-sync.ensures.done yet)

pub returns-clause-done : goal.returns-clause-done
returns-clause-done g c honest file holds =
    let h = g.D.Disk.history c.args.disk.now in
    let wrote = g.D.Disk.history c.copy_pages.new.disk in
    let cut = g.D.Disk.history c.fit.new.disk in
    let size : c.from.result * c.from-2.result ≡ file.change.commit * file.change.page_size =
    rw (c.from.ensures, c.from-2.ensures) (size_said c.args.name c.args.header.now c.args.len file (now h) holds) in
    let still = c.copy_pages.ensures.honest ∙ honest in
    let first : Runs file.change h wrote = writes file.change h wrote (c.requires.settled honest) (c.copy_pages.ensures.moments honest file holds) in
    let then : Runs file.change h cut = fits file.change h wrote cut _ size first (c.fit.ensures.moments still) in
    let yet = c.fit.ensures.honest ∙ still in
    let real : may_leave cut (now cut) = g.met.D.Disk.as_it_read c.fit.new.disk cut.moment yet (omega arith) in
    rewritten file.change h wrote cut _ _ size (c.requires.settled honest) then (c.in_ok-copy_pages.ensures.seen honest file holds) (c.in_ok-fit.ensures.done still) (c.in_ok-sync.ensures.done yet)
