use Rattle.std.proofs.Common.{◌≡◌, take}
use Rattle.txn_log.proofs.applying.copy_of.Given as goal

abbrev pub invariant-loop-page : goal.invariant-loop-page
invariant-loop-page l = l.copy ≡ record { page_size = l.change.page_size; commit = l.change.commit; pages = take l.page-index l.change.pages }
