use Rattle.std.proofs.Common.{◌≡◌, min}
use Rattle.lf_sqlite_pages.specs.Steps.{missing_page}
use Rattle.lf_sqlite_pages.specs.Writes.{writes_of}
use Rattle.lf_sqlite_pages.proofs.missing.missing_pages.Given as goal

abbrev pub invariant-loop-before : goal.invariant-loop-before
invariant-loop-before l = l.missing.items ≡ writes_of (missing_page l.change l.pages) (min l.before l.change.commit)
