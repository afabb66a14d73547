-- So far the change writes each data page past the image.
use Rattle.std.proofs.Common.{◌≡◌, ◌≤◌}
use Rattle.lf_sqlite_pages.specs.Change.{last_number}
use Rattle.database_file.specs.CommitParts.{WritesTo}
use Rattle.database_file.specs.WalCommit.{change_page}
use Rattle.database_file.proofs.database_file.DatabaseFile.push_new.Given as goal

abbrev pub invariant-loop-before : goal.invariant-loop-before
invariant-loop-before l = record {
  size : l.change.page_size ≡ l.fn.change.page_size;
  commit : l.change.commit ≡ l.fn.change.commit;
  last : last_number l.change.pages ≤ l.before;
  writes : WritesTo (change_page l.self l.news l.commit) l.before l.change.pages;
}
