use Rattle.std.proofs.Common.{◌∙◌, arith}
use Rattle.lf_disk.specs.History.{now, may_leave, EachMoment}
use Rattle.lf_disk.proofs.Moments.{goes_on}
use Rattle.txn_log.specs.Kept.{LogFile}
use Rattle.txn_log.specs.Settling.{IsInstalled}
use Rattle.txn_log.proofs.Settlings.{IsWritten, perhaps, unmarked_settled, unmarks, clears, writes, written, renaming, at_rest}
use Rattle.txn_log.proofs.Republishings.{held_beside, still_there}
use Rattle.txn_log.proofs.placing_from.settle_from.Goals as goal

pub clear-requires : goal.clear-requires
clear-requires g c still =
    let honest = Rattle.std.proofs.Common.sym c.remove.ensures.honest ∙ still in
    unmarked_settled (g.D.Disk.history c.args.disk.now) (g.D.Disk.history c.remove.new.self) (c.requires.settled honest) (c.in_ok-remove.ensures.done honest)

pub rewrite_from-requires-clause-settled : goal.rewrite_from-requires-clause-settled
rewrite_from-requires-clause-settled g c still = (c.in_ok-clear.ensures.done (Rattle.std.proofs.Common.sym c.clear.ensures.honest ∙ still)).settled

pub rename-requires : goal.rename-requires
rename-requires g c still =
    let more = Rattle.std.proofs.Common.sym c.rewrite_from.ensures.honest ∙ still in
    let yet = Rattle.std.proofs.Common.sym c.clear.ensures.honest ∙ more in
    let honest = Rattle.std.proofs.Common.sym c.remove.ensures.honest ∙ yet in
    still_there (g.D.Disk.history c.args.disk.now) (g.D.Disk.history c.remove.new.self) (g.D.Disk.history c.clear.new.disk) c.args.entries.now _ (c.in_ok-remove.ensures.done honest) (c.in_ok-clear.ensures.done yet)
    (g.D.Disk.history c.rewrite_from.new.disk) (c.requires.there honest) (c.in_ok-rewrite_from.ensures.others more)

pub returns-in_err-remove-clause-moments : goal.returns-in_err-remove-clause-moments
returns-in_err-remove-clause-moments g c honest file holds image encoding is =
    let h = g.D.Disk.history c.args.disk.now in
    let one = g.D.Disk.history c.remove.new.self in
    let log : LogFile = record { min = c.args.header.now.min; max = c.args.header.now.max; encoding = encoding } in
    let es = c.args.entries.now in
    let change = file.change in
    let still = c.requires.settled honest in
    unmarks image log es change h still is _ one _ c.remove.ensures.ticks (c.in_err-remove.ensures.failed honest)

pub returns-in_err-clear-clause-moments : goal.returns-in_err-clear-clause-moments
returns-in_err-clear-clause-moments g c honest file holds image encoding is =
    let h = g.D.Disk.history c.args.disk.now in
    let one = g.D.Disk.history c.remove.new.self in
    let log : LogFile = record { min = c.args.header.now.min; max = c.args.header.now.max; encoding = encoding } in
    let es = c.args.entries.now in
    let change = file.change in
    let still = c.requires.settled honest in
    let two = g.D.Disk.history c.clear.new.disk in
    let yet = c.remove.ensures.honest ∙ honest in
    let gone = c.in_ok-remove.ensures.done honest in
    let first : EachMoment h one (IsInstalled image log) = unmarks image log es change h still is _ one _ c.remove.ensures.ticks (perhaps h one _ _ gone) in
    clears image log es change h still is one _ gone two first (c.clear.ensures.moments yet)

pub returns-in_err-rewrite_from-clause-moments : goal.returns-in_err-rewrite_from-clause-moments
returns-in_err-rewrite_from-clause-moments g c honest file holds image encoding is =
    let h = g.D.Disk.history c.args.disk.now in
    let one = g.D.Disk.history c.remove.new.self in
    let log : LogFile = record { min = c.args.header.now.min; max = c.args.header.now.max; encoding = encoding } in
    let es = c.args.entries.now in
    let change = file.change in
    let still = c.requires.settled honest in
    let two = g.D.Disk.history c.clear.new.disk in
    let yet = c.remove.ensures.honest ∙ honest in
    let gone = c.in_ok-remove.ensures.done honest in
    let three = g.D.Disk.history c.rewrite_from.new.disk in
    let more = c.clear.ensures.honest ∙ yet in
    let cleared = c.in_ok-clear.ensures.done yet in
    let first : EachMoment h one (IsInstalled image log) = unmarks image log es change h still is _ one _ c.remove.ensures.ticks (perhaps h one _ _ gone) in
    let second : EachMoment h two (IsInstalled image log) = clears image log es change h still is one _ gone two first (c.clear.ensures.moments yet) in
    writes image log es change h still is one _ gone two cleared three second (c.rewrite_from.ensures.moments more file (held_beside h one two es _ gone cleared c.args.header.now c.args.len file holds))

pub returns-in_err-rename-clause-moments : goal.returns-in_err-rename-clause-moments
returns-in_err-rename-clause-moments g c honest file holds image encoding is =
    let h = g.D.Disk.history c.args.disk.now in
    let one = g.D.Disk.history c.remove.new.self in
    let log : LogFile = record { min = c.args.header.now.min; max = c.args.header.now.max; encoding = encoding } in
    let es = c.args.entries.now in
    let change = file.change in
    let still = c.requires.settled honest in
    let two = g.D.Disk.history c.clear.new.disk in
    let yet = c.remove.ensures.honest ∙ honest in
    let gone = c.in_ok-remove.ensures.done honest in
    let three = g.D.Disk.history c.rewrite_from.new.disk in
    let more = c.clear.ensures.honest ∙ yet in
    let cleared = c.in_ok-clear.ensures.done yet in
    let first : EachMoment h one (IsInstalled image log) = unmarks image log es change h still is _ one _ c.remove.ensures.ticks (perhaps h one _ _ gone) in
    let second : EachMoment h two (IsInstalled image log) = clears image log es change h still is one _ gone two first (c.clear.ensures.moments yet) in
    let third : EachMoment h three (IsInstalled image log) = writes image log es change h still is one _ gone two cleared three second (c.rewrite_from.ensures.moments more file (held_beside h one two es _ gone cleared c.args.header.now c.args.len file holds)) in
    let new = g.D.Disk.history c.rename.new.self in
    let last = c.rewrite_from.ensures.honest ∙ more in
    let real : may_leave three (now three) = g.met.D.Disk.as_it_read c.rewrite_from.new.disk three.moment last (omega arith) in
    let is_written : IsWritten image encoding three = written image log es change h still is one _ gone two cleared three holds.valid.block.pages (c.rewrite_from.ensures.moments more file (held_beside h one two es _ gone cleared c.args.header.now c.args.len file holds)) real (c.in_ok-rewrite_from.ensures.done more file (held_beside h one two es _ gone cleared c.args.header.now c.args.len file holds)) in
    goes_on _ h three new (IsInstalled image log) third c.rename.ensures.ticks (renaming image log three new is_written _ (c.in_err-rename.ensures.failed last))

pub returns-clause-moments : goal.returns-clause-moments
returns-clause-moments g c honest file holds image encoding is =
    let h = g.D.Disk.history c.args.disk.now in
    let one = g.D.Disk.history c.remove.new.self in
    let log : LogFile = record { min = c.args.header.now.min; max = c.args.header.now.max; encoding = encoding } in
    let es = c.args.entries.now in
    let change = file.change in
    let still = c.requires.settled honest in
    let two = g.D.Disk.history c.clear.new.disk in
    let yet = c.remove.ensures.honest ∙ honest in
    let gone = c.in_ok-remove.ensures.done honest in
    let three = g.D.Disk.history c.rewrite_from.new.disk in
    let more = c.clear.ensures.honest ∙ yet in
    let cleared = c.in_ok-clear.ensures.done yet in
    let first : EachMoment h one (IsInstalled image log) = unmarks image log es change h still is _ one _ c.remove.ensures.ticks (perhaps h one _ _ gone) in
    let second : EachMoment h two (IsInstalled image log) = clears image log es change h still is one _ gone two first (c.clear.ensures.moments yet) in
    let third : EachMoment h three (IsInstalled image log) = writes image log es change h still is one _ gone two cleared three second (c.rewrite_from.ensures.moments more file (held_beside h one two es _ gone cleared c.args.header.now c.args.len file holds)) in
    let new = g.D.Disk.history c.rename.new.self in
    let last = c.rewrite_from.ensures.honest ∙ more in
    let real : may_leave three (now three) = g.met.D.Disk.as_it_read c.rewrite_from.new.disk three.moment last (omega arith) in
    let is_written : IsWritten image encoding three = written image log es change h still is one _ gone two cleared three holds.valid.block.pages (c.rewrite_from.ensures.moments more file (held_beside h one two es _ gone cleared c.args.header.now c.args.len file holds)) real (c.in_ok-rewrite_from.ensures.done more file (held_beside h one two es _ gone cleared c.args.header.now c.args.len file holds)) in
    goes_on _ h three new (IsInstalled image log) third c.rename.ensures.ticks (renaming image log three new is_written _ (perhaps three new _ _ (c.in_ok-rename.ensures.done last)))

pub returns-clause-done : goal.returns-clause-done
returns-clause-done g c honest file holds image encoding is =
    let h = g.D.Disk.history c.args.disk.now in
    let one = g.D.Disk.history c.remove.new.self in
    let log : LogFile = record { min = c.args.header.now.min; max = c.args.header.now.max; encoding = encoding } in
    let es = c.args.entries.now in
    let change = file.change in
    let still = c.requires.settled honest in
    let two = g.D.Disk.history c.clear.new.disk in
    let yet = c.remove.ensures.honest ∙ honest in
    let gone = c.in_ok-remove.ensures.done honest in
    let three = g.D.Disk.history c.rewrite_from.new.disk in
    let more = c.clear.ensures.honest ∙ yet in
    let cleared = c.in_ok-clear.ensures.done yet in
    let new = g.D.Disk.history c.rename.new.self in
    let last = c.rewrite_from.ensures.honest ∙ more in
    let real : may_leave three (now three) = g.met.D.Disk.as_it_read c.rewrite_from.new.disk three.moment last (omega arith) in
    let is_written : IsWritten image encoding three = written image log es change h still is one _ gone two cleared three holds.valid.block.pages (c.rewrite_from.ensures.moments more file (held_beside h one two es _ gone cleared c.args.header.now c.args.len file holds)) real (c.in_ok-rewrite_from.ensures.done more file (held_beside h one two es _ gone cleared c.args.header.now c.args.len file holds)) in
    at_rest image log three new is_written (c.in_ok-rename.ensures.done last)
