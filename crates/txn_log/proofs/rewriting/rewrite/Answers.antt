use Rattle.std.proofs.Common.{◌≡◌, ◌*◌, ◌∙◌, refl, arith}
use Rattle.lf_disk.specs.History.{now, may_leave}
use Rattle.txn_log.proofs.Rewritings.{Runs, writes, fits, syncs, perhaps_syncs, rewritten}
use Rattle.txn_log.proofs.rewriting.rewrite.Goals as goal

pub returns-in_err-write_pages-clause-moments : goal.returns-in_err-write_pages-clause-moments
returns-in_err-write_pages-clause-moments g c honest =
    let h = g.D.Disk.history c.args.disk.now in
    writes c.args.change.now h _ (c.requires honest) (c.write_pages.ensures.moments honest)

pub returns-in_err-fit-clause-moments : goal.returns-in_err-fit-clause-moments
returns-in_err-fit-clause-moments g c honest =
    let h = g.D.Disk.history c.args.disk.now in
    let wrote = g.D.Disk.history c.write_pages.new.disk in
    let cut = g.D.Disk.history c.fit.new.disk in
    let size : c.from.result * c.from-2.result ≡ c.args.change.now.commit * c.args.change.now.page_size =
    rw (c.from.ensures, c.commit.ensures, c.from-2.ensures, c.page_size.ensures.value) refl in
    let still = c.write_pages.ensures.honest ∙ honest in
    let first : Runs c.args.change.now h wrote = writes c.args.change.now h wrote (c.requires honest) (c.write_pages.ensures.moments honest) in
    fits c.args.change.now h wrote cut _ size first (c.fit.ensures.moments still)

pub returns-in_err-sync-clause-moments : goal.returns-in_err-sync-clause-moments
returns-in_err-sync-clause-moments g c honest =
    let h = g.D.Disk.history c.args.disk.now in
    let wrote = g.D.Disk.history c.write_pages.new.disk in
    let cut = g.D.Disk.history c.fit.new.disk in
    let size : c.from.result * c.from-2.result ≡ c.args.change.now.commit * c.args.change.now.page_size =
    rw (c.from.ensures, c.commit.ensures, c.from-2.ensures, c.page_size.ensures.value) refl in
    let still = c.write_pages.ensures.honest ∙ honest in
    let first : Runs c.args.change.now h wrote = writes c.args.change.now h wrote (c.requires honest) (c.write_pages.ensures.moments honest) in
    let then : Runs c.args.change.now h cut = fits c.args.change.now h wrote cut _ size first (c.fit.ensures.moments still) in
    let yet = c.fit.ensures.honest ∙ still in
    let real : may_leave cut (now cut) = g.met.D.Disk.as_it_read c.fit.new.disk cut.moment yet (omega arith) in
    perhaps_syncs c.args.change.now h _ cut _ _ then real c.sync.ensures.ticks (c.in_err-sync.ensures.failed yet)

pub returns-clause-moments : goal.returns-clause-moments
returns-clause-moments g c honest =
    let h = g.D.Disk.history c.args.disk.now in
    let wrote = g.D.Disk.history c.write_pages.new.disk in
    let cut = g.D.Disk.history c.fit.new.disk in
    let size : c.from.result * c.from-2.result ≡ c.args.change.now.commit * c.args.change.now.page_size =
    rw (c.from.ensures, c.commit.ensures, c.from-2.ensures, c.page_size.ensures.value) refl in
    let still = c.write_pages.ensures.honest ∙ honest in
    let first : Runs c.args.change.now h wrote = writes c.args.change.now h wrote (c.requires honest) (c.write_pages.ensures.moments honest) in
    let then : Runs c.args.change.now h cut = fits c.args.change.now h wrote cut _ size first (c.fit.ensures.moments still) in
    let yet = c.fit.ensures.honest ∙ still in
    let real : may_leave cut (now cut) = g.met.D.Disk.as_it_read c.fit.new.disk cut.moment yet (omega arith) in
    syncs c.args.change.now h _ cut _ _ then real c.sync.ensures.ticks (c.in_ok-sync.ensures.done yet)

pub returns-clause-done : goal.returns-clause-done
returns-clause-done g c honest =
    let h = g.D.Disk.history c.args.disk.now in
    let wrote = g.D.Disk.history c.write_pages.new.disk in
    let cut = g.D.Disk.history c.fit.new.disk in
    let size : c.from.result * c.from-2.result ≡ c.args.change.now.commit * c.args.change.now.page_size =
    rw (c.from.ensures, c.commit.ensures, c.from-2.ensures, c.page_size.ensures.value) refl in
    let still = c.write_pages.ensures.honest ∙ honest in
    let first : Runs c.args.change.now h wrote = writes c.args.change.now h wrote (c.requires honest) (c.write_pages.ensures.moments honest) in
    let then : Runs c.args.change.now h cut = fits c.args.change.now h wrote cut _ size first (c.fit.ensures.moments still) in
    let yet = c.fit.ensures.honest ∙ still in
    let real : may_leave cut (now cut) = g.met.D.Disk.as_it_read c.fit.new.disk cut.moment yet (omega arith) in
    rewritten c.args.change.now h wrote cut _ _ size (c.requires honest) then (c.in_ok-write_pages.ensures.seen honest) (c.in_ok-fit.ensures.done still) (c.in_ok-sync.ensures.done yet)
