-- The numbers of the pages that are kept, in ascending order.
use Rattle.std.proofs.Common.{ℕ, suc, zero, ◌+◌, ◌<◌, ◌≤◌, List, [], ◌∷◌, arith, get_or, length}
use Rattle.lf_sqlite_pages.proofs.Numbers.{Ascends}

-- each number of an ascending list is at least the first bound, and below each later one
pub Ascends-each : (low : ℕ) (xs : List ℕ) → Ascends low xs → (k d : ℕ) → k < length xs → low ≤ get_or xs k d
Ascends-each low [] ascends k d inside = absurd (omega (arith, inside))
Ascends-each low (x ∷ xs) ascends zero d inside = ascends.0
Ascends-each low (x ∷ xs) ascends (suc k) d inside =
    let later : x + 1 ≤ get_or xs k d = Ascends-each (x + 1) xs ascends.1 k d (omega (arith, inside)) in
    omega (arith, later, ascends.0)

pub Ascends-later : (low : ℕ) (xs : List ℕ) → Ascends low xs → (i j d : ℕ) → i < j → j < length xs → get_or xs i d < get_or xs j d
Ascends-later low [] ascends i j d up inside = absurd (omega (arith, inside))
Ascends-later low (x ∷ xs) ascends i zero d up inside = absurd (omega (arith, up))
Ascends-later low (x ∷ xs) ascends zero (suc j) d up inside =
    let later : x + 1 ≤ get_or xs j d = Ascends-each (x + 1) xs ascends.1 j d (omega (arith, inside)) in
    omega (arith, later)
Ascends-later low (x ∷ xs) ascends (suc i) (suc j) d up inside = Ascends-later (x + 1) xs ascends.1 i j d (omega (arith, up)) (omega (arith, inside))
