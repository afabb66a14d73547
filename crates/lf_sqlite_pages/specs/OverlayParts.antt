-- What the parts of an overlay keep between its calls.
use Rattle.std.specs.Prelude.{◌≡◌, ◌≤◌, length, All, vec_len}
use Rattle.std.specs.HashMap.{spare}
use Rattle.lf_sqlite_pages.specs.Overlay.{PageOverlay}
use Rattle.lf_sqlite_pages.specs.Table.{map_of}
use Rattle.lf_sqlite_pages.specs.declared.overlay.Overlay.TheInside.{Inside}

-- the overlay that the parts stand for
abbrev pub overlay_of : Inside → PageOverlay
overlay_of o = record { pages = map_of o.pages.entries; spare = vec_len o.spare; size = o.size }

-- each spare page has the page size, and the table has room for all of them
pub record IsKept (o : Inside) : Type 0 where
  pub whole : All (λ page. length page ≡ o.size) o.spare.items
  pub room : vec_len o.spare ≤ spare o.pages
