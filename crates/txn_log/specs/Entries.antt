-- The entries of a log and its files.
use Rattle.std.specs.Prelude.{◌≡◌, ℕ, ◌<◌, List, length, get_or}
use Rattle.txn_log.specs.declared.entry.Entry.{Entry}
use Rattle.txn_log.specs.Kept.{LogFile}

-- these entries have the numbers of these files
pub record AreNamed (entries : List Entry) (files : List LogFile) : Type 0 where
  pub min : (k : ℕ) (e : Entry) (f : LogFile) → k < length entries → (get_or files k f).min ≡ (get_or entries k e).min
  pub max : (k : ℕ) (e : Entry) (f : LogFile) → k < length entries → (get_or files k f).max ≡ (get_or entries k e).max
