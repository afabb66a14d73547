use Rattle.std.proofs.Common.{◌≡◌, ◌*◌, ◌∙◌, arith}
use Rattle.lf_disk.specs.History.{now, may_leave}
use Rattle.txn_log.proofs.Rewritings.{Runs, writes, syncs, perhaps_syncs, rewritten}
use Rattle.node_recovery.proofs.Rewritings.{cuts, length_said}
use Rattle.node_recovery.proofs.rewriting.rewrite_from.Goals as goal

pub returns-in_err-write_pages-clause-moments : goal.returns-in_err-write_pages-clause-moments
returns-in_err-write_pages-clause-moments g c honest file holds =
    let h = g.D.Disk.history c.args.disk.now in
    writes file.change h _ (c.requires.settled honest) (c.write_pages.ensures.moments honest file holds)

pub returns-in_err-cut-clause-moments : goal.returns-in_err-cut-clause-moments
returns-in_err-cut-clause-moments g c honest file holds =
    let h = g.D.Disk.history c.args.disk.now in
    let wrote = g.D.Disk.history c.write_pages.new.disk in
    let cut = g.D.Disk.history c.cut.new.self in
    let size : c.from.result * c.from-2.result ≡ file.change.commit * file.change.page_size = rw (c.from.ensures, c.from-2.ensures) (length_said c.args.name c.args.header.now file (now h) holds) in
    let still = c.write_pages.ensures.honest ∙ honest in
    let first : Runs file.change h wrote = writes file.change h wrote (c.requires.settled honest) (c.write_pages.ensures.moments honest file holds) in
    cuts file.change h _ wrote cut _ _ size first c.cut.ensures.ticks (c.in_err-cut.ensures.failed still)

pub returns-in_err-sync-clause-moments : goal.returns-in_err-sync-clause-moments
returns-in_err-sync-clause-moments g c honest file holds =
    let h = g.D.Disk.history c.args.disk.now in
    let wrote = g.D.Disk.history c.write_pages.new.disk in
    let cut = g.D.Disk.history c.cut.new.self in
    let size : c.from.result * c.from-2.result ≡ file.change.commit * file.change.page_size = rw (c.from.ensures, c.from-2.ensures) (length_said c.args.name c.args.header.now file (now h) holds) in
    let still = c.write_pages.ensures.honest ∙ honest in
    let first : Runs file.change h wrote = writes file.change h wrote (c.requires.settled honest) (c.write_pages.ensures.moments honest file holds) in
    let then : Runs file.change h cut = cuts file.change h _ wrote cut _ _ size first c.cut.ensures.ticks (c.in_ok-cut.ensures.done still) in
    let yet = c.cut.ensures.honest ∙ still in
    let real : may_leave cut (now cut) = g.met.D.Disk.as_it_read c.cut.new.self cut.moment yet (omega arith) in
    perhaps_syncs file.change h _ cut _ _ then real c.sync.ensures.ticks (c.in_err-sync.ensures.failed yet)

pub returns-clause-moments : goal.returns-clause-moments
returns-clause-moments g c honest file holds =
    let h = g.D.Disk.history c.args.disk.now in
    let wrote = g.D.Disk.history c.write_pages.new.disk in
    let cut = g.D.Disk.history c.cut.new.self in
    let size : c.from.result * c.from-2.result ≡ file.change.commit * file.change.page_size = rw (c.from.ensures, c.from-2.ensures) (length_said c.args.name c.args.header.now file (now h) holds) in
    let still = c.write_pages.ensures.honest ∙ honest in
    let first : Runs file.change h wrote = writes file.change h wrote (c.requires.settled honest) (c.write_pages.ensures.moments honest file holds) in
    let then : Runs file.change h cut = cuts file.change h _ wrote cut _ _ size first c.cut.ensures.ticks (c.in_ok-cut.ensures.done still) in
    let yet = c.cut.ensures.honest ∙ still in
    let real : may_leave cut (now cut) = g.met.D.Disk.as_it_read c.cut.new.self cut.moment yet (omega arith) in
    syncs file.change h _ cut _ _ then real c.sync.ensures.ticks (c.in_ok-sync.ensures.done yet)

pub returns-clause-done : goal.returns-clause-done
returns-clause-done g c honest file holds =
    let h = g.D.Disk.history c.args.disk.now in
    let wrote = g.D.Disk.history c.write_pages.new.disk in
    let cut = g.D.Disk.history c.cut.new.self in
    let size : c.from.result * c.from-2.result ≡ file.change.commit * file.change.page_size = rw (c.from.ensures, c.from-2.ensures) (length_said c.args.name c.args.header.now file (now h) holds) in
    let still = c.write_pages.ensures.honest ∙ honest in
    let first : Runs file.change h wrote = writes file.change h wrote (c.requires.settled honest) (c.write_pages.ensures.moments honest file holds) in
    let then : Runs file.change h cut = cuts file.change h _ wrote cut _ _ size first c.cut.ensures.ticks (c.in_ok-cut.ensures.done still) in
    let yet = c.cut.ensures.honest ∙ still in
    let real : may_leave cut (now cut) = g.met.D.Disk.as_it_read c.cut.new.self cut.moment yet (omega arith) in
    rewritten file.change h wrote cut _ _ size (c.requires.settled honest) then (c.in_ok-write_pages.ensures.seen honest file holds) (c.in_ok-cut.ensures.done still).seen (c.in_ok-sync.ensures.done yet)
