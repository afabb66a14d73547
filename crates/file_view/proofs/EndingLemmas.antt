-- What happens beside requests, over the committed image.
use Rattle.std.proofs.Common.{◌≡◌, ℕ, ◌<◌, List, [], Option, Some, None, refl, sym, subst}
use Rattle.std.specs.Prelude.{unwrap_or}
use Rattle.std.specs.Option.{option_map}
use Rattle.byte_locks.specs.declared.owner.Owner.{Owner}
use Rattle.byte_locks.specs.LockEntry.{of_session}
use Rattle.byte_locks.specs.LockList.{without}
use Rattle.database_file.specs.DatabaseFile.{clean, new_file}
use Rattle.database_under_log.proofs.KeepLemmas.{empty_none}
use Rattle.file_handles.specs.Handles.{without_session}
use Rattle.lf_sqlite_pages.specs.Image.{DatabaseImage}
use Rattle.lf_sqlite_pages.specs.PageSize.{IsPageSize}
use Rattle.wal_watch.specs.Frames.{committed_count}
use Rattle.file_view.specs.Endings.{dropped, ended, abandoned, applied}
use Rattle.file_view.specs.Overlay.{StandsOver}
use Rattle.file_view.specs.Served.{Served}
use Rattle.file_view.specs.Views.{new_view}
use Rattle.file_view.proofs.AwaitLemmas.{clean-stands}
use Rattle.file_view.proofs.StandLemmas.{stands-still, stands-dropped, stands-locked}

-- a new view, and one to which another image was applied
pub new-stands : (name : List ℕ) (told : Option DatabaseImage) (page_size commit : ℕ) → (0 < commit → IsPageSize page_size) → StandsOver told page_size commit (new_view name)
new-stands name told page_size commit sized = clean-stands told page_size commit (new_view name) new_file sized refl refl empty_none

emptied : (log : Option (List ℕ)) → committed_count (unwrap_or (option_map (λ _. []) log) []) ≡ 0
emptied None = empty_none
emptied (Some contents) = empty_none

pub applied-stands : (s : Served) (told : Option DatabaseImage) (page_size commit : ℕ) → (0 < commit → IsPageSize page_size) → StandsOver told page_size commit (applied s page_size commit)
applied-stands s told page_size commit sized = clean-stands told page_size commit (applied s page_size commit) s.database sized refl refl (emptied s.log)

-- uncommitted pages that are dropped; without a writer there are none
pub nothing-dropped : (s : Served) → s.writer ≡ None → dropped s ≡ s
nothing-dropped s none = rw none refl

pub dropped-stands : (s : Served) (told : Option DatabaseImage) (page_size commit : ℕ) → (0 < commit → IsPageSize page_size) → StandsOver told page_size commit s →
    StandsOver told page_size commit (dropped s)
dropped-stands s told page_size commit sized stands = by-writer s.writer refl where
  by-writer : (w : Option Owner) → s.writer ≡ w → StandsOver told page_size commit (dropped s)
  by-writer None none = subst (λ (f : Served). StandsOver told page_size commit f) (sym (nothing-dropped s none)) stands
  by-writer (Some owner) some =
      rw some
      (stands-dropped told page_size commit s (record s { database = clean s.database; writer = None; torn = Some owner }) owner sized some refl refl stands)

-- a session that ends, and a request that is given up
pub ended-stands : (s : Served) (session : ℕ) (told : Option DatabaseImage) (page_size commit : ℕ) → (0 < commit → IsPageSize page_size) → StandsOver told page_size commit s →
    StandsOver told page_size commit (ended s session)
ended-stands s session told page_size commit sized stands =
    let closed : Served = record s { handles = without_session s.handles session } in
    stands-locked told page_size commit closed (without (of_session session) s.locks) sized (stands-still told page_size commit s closed refl refl refl stands)

pub abandoned-stands : (s : Served) (told : Option DatabaseImage) (page_size commit : ℕ) → StandsOver told page_size commit s → StandsOver told page_size commit (abandoned s)
abandoned-stands s told page_size commit stands = stands-still told page_size commit s (abandoned s) refl refl refl stands
