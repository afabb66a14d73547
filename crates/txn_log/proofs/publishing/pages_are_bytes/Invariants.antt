use Rattle.std.proofs.Common.{take}
use Rattle.std.specs.List.{All}
use Rattle.lf_sqlite_pages.specs.declared.page_write.PageWrite.{PageWrite}
use Rattle.ltx_codec.specs.Fields.{AreBytes}
use Rattle.txn_log.proofs.publishing.pages_are_bytes.Given as goal

abbrev pub invariant-loop-page : goal.invariant-loop-page
invariant-loop-page l = All (λ (w : PageWrite). AreBytes w.bytes) (take l.page-index l.change.pages)
