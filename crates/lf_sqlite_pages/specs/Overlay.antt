-- Pages kept over those of a database: a finite map from page numbers to pages, with room reserved for more.
use Rattle.std.specs.Prelude.{ℕ, ◌-◌, ◌≤◌, ◌==◌, Bool, false, List, length, IsTrue, ◌⊎◌, if◌then◌else◌, max, nat_le, unwrap_or, refl}
use Rattle.std.specs.Option.{option_map}
use Rattle.std.specs.Ordering.{nat_cmp}
use Rattle.std.specs.FinMap as map
use Rattle.std.specs.Coded.{Coded, code_by, coded×, coded_ℕ, coded_list}

-- the pages by number, how many more can be put without memory, and the page size last reserved for
pub record PageOverlay : Type 0 where
  pub pages : map.FinMap nat_cmp (List ℕ)
  pub spare : ℕ
  pub size : ℕ

-- an overlay is stored as its three parts
abbrev pub overlay_code : Coded PageOverlay
overlay_code =
    code_by (map.FinMap nat_cmp (List ℕ) × (ℕ × ℕ)) (coded× (map.code coded_ℕ (coded_list coded_ℕ)) (coded× coded_ℕ coded_ℕ))
    (λ o. (o.pages, (o.spare, o.size))) (λ p. record { pages = p.0; spare = p.1.0; size = p.1.1 }) (λ _. refl)

-- no pages, and no room for any
abbrev pub empty_overlay : PageOverlay
empty_overlay = record { pages = map.empty; spare = 0; size = 0 }

-- room for at least a count of pages of a size; room for pages of another size is of no use
abbrev pub reserved : PageOverlay → ℕ → ℕ → PageOverlay
reserved o count page_size =
    record { pages = o.pages; spare = if o.size == page_size then max o.spare count else count; size = page_size }

-- whether page n stands there with as many bytes as the page size
abbrev pub stands_whole : PageOverlay → ℕ → Bool
stands_whole o n = unwrap_or (option_map (λ page. length page == o.size) (map.get o.pages n)) false

-- page n can be put without memory: over the page that stands there, or into the room
abbrev pub HasRoom : PageOverlay → ℕ → Type 0
HasRoom o n = IsTrue (stands_whole o n) ⊎ (1 ≤ o.spare)

-- the overlay with page n
abbrev pub with_page_at : PageOverlay → ℕ → List ℕ → PageOverlay
with_page_at o n page =
    record { pages = map.insert o.pages n page; spare = if stands_whole o n then o.spare else o.spare - 1; size = o.size }

-- the overlay without the pages past a count
abbrev pub cut_to : PageOverlay → ℕ → PageOverlay
cut_to o count = record { pages = map.retain_keys o.pages (λ n. nat_le n count); spare = o.spare; size = o.size }

-- the overlay without page n
abbrev pub without_page : PageOverlay → ℕ → PageOverlay
without_page o n = record { pages = map.remove o.pages n; spare = o.spare; size = o.size }

-- the overlay without its pages
abbrev pub cleared : PageOverlay → PageOverlay
cleared o = record { pages = map.empty; spare = o.spare; size = o.size }
