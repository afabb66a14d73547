-- So far the change writes what is kept at the numbers so far.
use Rattle.std.proofs.Common.{◌≡◌, ◌<◌, ◌≤◌, ℕ, take, length, get_or}
use Rattle.lf_sqlite_pages.specs.Change.{last_number}
use Rattle.database_file.proofs.KeptLemmas.{WritesKept}
use Rattle.database_file.proofs.database_file.DatabaseFile.push_all.Given as goal

abbrev pub invariant-loop-at : goal.invariant-loop-at
invariant-loop-at l = record {
  size : l.change.page_size ≡ l.fn.change.page_size;
  commit : l.change.commit ≡ l.fn.change.commit;
  below : (k : ℕ) → l.at ≤ k → k < length l.numbers → last_number l.change.pages < get_or l.numbers k 0;
  writes : WritesKept l.self l.fn.change.commit (take l.at l.numbers) l.change.pages;
}
