-- So far the change writes what the log does.
use Rattle.std.proofs.Common.{◌≡◌, ◌≤◌, List, length}
use Rattle.lf_sqlite_pages.specs.Change.{last_number, written}
use Rattle.wal_watch.specs.File.{contents_of}
use Rattle.wal_watch.specs.Frames.{page_size_in}
use Rattle.database_file.specs.CommitParts.{WritesTo}
use Rattle.lf_sqlite_pages.specs.declared.page_write.PageWrite.{PageWrite}
use Rattle.database_under_log.specs.LogChangeParts.{joined_page}
use Rattle.database_under_log.proofs.news.push_past.Given as goal

abbrev pub invariant-loop-before : goal.invariant-loop-before
invariant-loop-before l = record {
  size : l.change.page_size ≡ l.fn.change.page_size;
  commit : l.change.commit ≡ l.fn.change.commit;
  last : last_number l.change.pages ≤ l.before;
  from : l.count ≤ l.before;
  whole : length l.page ≡ page_size_in (contents_of l.log);
  writes : (ws : List PageWrite) → WritesTo (written ws) l.count l.fn.change.pages → WritesTo (joined_page ws (contents_of l.log) l.count) l.before l.change.pages;
}
