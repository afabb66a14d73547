use Rattle.std.proofs.Common.{length, [], refl}
use Rattle.std.proofs.KnownBytes.{Appends-nil}
use Rattle.lf_disk.specs.History.{now}
use Rattle.txn_log.proofs.PagesRead.{page_at-in}
use Rattle.snapshot.proofs.writing.copy_page.Goals as goal

-- nothing was written of the page
pub returns-in-Err-clause-written : goal.returns-in-Err-clause-written
returns-in-Err-clause-written g c honest commit last has =
    (_, page_at-in (length c.args.page.now) commit (now (g.D.Disk.history c.args.disk.now)) c.args.n c.requires.first last, ([], (_, refl), Appends-nil (g.K.Sink.taken c.args.sink.now)))
