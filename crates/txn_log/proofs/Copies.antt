-- The pages of a change, one after another.
use Rattle.std.proofs.Common.{◌≡◌, ℕ, zero, suc, ◌<◌, List, [], ◌∷◌, length, take, fold, get_or, subst, sym, arith}
use Rattle.lf_sqlite_pages.specs.Change.{AscendsAbove, last_number}
use Rattle.lf_sqlite_pages.specs.declared.page_write.PageWrite.{PageWrite}

below-from : (number : ℕ) (ws : List PageWrite) → AscendsAbove number ws → (i : ℕ) (d : PageWrite) → i < length ws → fold (λ _ (w : PageWrite). w.number) number (take i ws) < (get_or ws i d).number
below-from number [] ascends i d within = absurd (omega arith)
below-from number (w ∷ ws) ascends zero d within = ascends.0
below-from number (w ∷ ws) ascends (suc i) d within = below-from w.number ws ascends.1 i d (omega arith)

-- the number of a page is above those before it
pub last-below : (ws : List PageWrite) → AscendsAbove 0 ws → (i : ℕ) (w : PageWrite) → i < length ws → w ≡ get_or ws i w → last_number (take i ws) < w.number
last-below ws ascends i w within is = subst (λ (v : PageWrite). last_number (take i ws) < v.number) (sym is) (below-from 0 ws ascends i w within)
