-- The steps in which the code makes a change. No public clause cites them.
use Rattle.std.specs.Prelude.{◌≡◌, if◌then◌else◌, ℕ, Bool, ◌==◌, ◌&&◌, length, nat_le, Option, Some, None, List, [], ◌∷◌}
use Rattle.std.specs.FinMap as pages
use Rattle.lf_sqlite_pages.specs.Change.{PageChange, written}
use Rattle.lf_sqlite_pages.specs.declared.page_write.PageWrite.{PageWrite}
use Rattle.database_file.specs.DatabaseFile.{DatabaseFile}

-- the write of page n, if there is a page
abbrev pub one_write : ℕ → Option (List ℕ) → List PageWrite
one_write n None = []
one_write n (Some page) = record { number = n; bytes = page } ∷ []

-- what is kept at page n, up to a count of pages
abbrev pub kept_to : DatabaseFile → ℕ → ℕ → Option (List ℕ)
kept_to file count n = pages.get (pages.retain_keys file.kept (λ k. nat_le k count)) n

-- whether a change changes nothing of an image of a count of pages, since it writes only what differs
abbrev pub changes_nothing : PageChange → ℕ → Bool
changes_nothing change commit = (change.commit == commit) && (length change.pages == 0)

-- up to a number some writes are what a function says, and there is none past it
abbrev pub WritesTo : (ℕ → Option (List ℕ)) → ℕ → List PageWrite → Type 0
WritesTo page count writes = (n : ℕ) → written writes n ≡ (if nat_le n count then page n else None)
