-- So far the change writes what the other does within the first pages.
use Rattle.std.proofs.Common.{◌≡◌, ◌<◌, ◌≤◌, ℕ, take, length, get_or}
use Rattle.lf_sqlite_pages.specs.Change.{last_number, written}
use Rattle.lf_sqlite_pages.specs.declared.page_write.PageWrite.{PageWrite}
use Rattle.database_file.specs.CommitParts.{WritesTo}
use Rattle.database_file.proofs.within.push_within.Given as goal

abbrev pub invariant-loop-at : goal.invariant-loop-at
invariant-loop-at l = record {
  size : l.change.page_size ≡ l.fn.change.page_size;
  commit : l.change.commit ≡ l.fn.change.commit;
  last : last_number l.change.pages ≤ l.count;
  below : (k : ℕ) (d : PageWrite) → l.at ≤ k → k < length l.pages → last_number l.change.pages < (get_or l.pages k d).number;
  writes : WritesTo (written (take l.at l.pages)) l.count l.change.pages;
}
