use Rattle.lf_sqlite_pages.proofs.LockPages.{page_size-positive}
use Rattle.std.proofs.Common.{sym}
use Rattle.snapshot.proofs.ImportLemmas.{stated_size}
use Rattle.snapshot.proofs.importing.page_size_in.Goals as goal

pub nonzero_rem-bytes : goal.nonzero_rem-bytes
nonzero_rem-bytes c = page_size-positive c.in-Some.size (stated_size c.args.bytes.now c.in-Some.size (sym c.in-Some.ensures))
