-- Entries that are listed.
use Rattle.std.proofs.Common.{◌≡◌, inl, inr, ℕ, suc, ◌+◌, ◌*◌, ◌^◌, Bool, List, [], ◌∷◌, map, refl, arith}
use Rattle.std.specs.Prelude.{◌==◌, ◌&&◌}
use Rattle.std.specs.List.{Contains, IsDistinct}
use Rattle.std.specs.List.Sorted.{IsNonDecreasingBy}
use Rattle.lf_disk.specs.Listing as listing
use Rattle.txn_log.specs.declared.entry.Entry.{Entry}
use Rattle.node_recovery.specs.Listing.{numbers_of}

-- an entry with these numbers is there
abbrev pub Has : List Entry → ℕ → ℕ → Type 0
Has es a b = listing.Has (map numbers_of es) a b

-- where an entry's file stands in the order of minimum and then maximum
abbrev pub place_of : Entry → ℕ
place_of e = e.min * 2 ^ 64 + e.max

abbrev pub AreInOrder : List Entry → Type 0
AreInOrder es = IsNonDecreasingBy place_of es

-- whether two entries have the same numbers
abbrev pub same_numbers : Entry → Entry → Bool
same_numbers x y = x.min == y.min && x.max == y.max

abbrev pub AreOnce : List Entry → Type 0
AreOnce es = IsDistinct same_numbers es

-- an entry with these numbers
pub record Found (es : List Entry) (a b : ℕ) : Type 0 where
  pub entry : Entry
  pub there : Contains es entry
  pub min_is : entry.min ≡ a
  pub max_is : entry.max ≡ b

pub found : (es : List Entry) (a b : ℕ) → Has es a b → Found es a b
found [] a b has = elim has [ ]
found (e ∷ es) a b (inl is) = record { entry = e; there = (0, omega arith, refl); min_is = is.0; max_is = is.1 }
found (e ∷ es) a b (inr has) =
    let at = found es a b has in
    record { entry = at.entry; there = (suc at.there.0, omega (arith, at.there.1), at.there.2); min_is = at.min_is; max_is = at.max_is }
