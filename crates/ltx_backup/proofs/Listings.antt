-- Entries that are listed.
use Rattle.std.proofs.Common.{◌≡◌, ◌⊎◌, inl, inr, ℕ, zero, suc, ◌<◌, Bool, List, [], ◌∷◌, ◌++◌, length, get_or, refl, arith}
use Rattle.std.specs.Prelude.{◌==◌, ◌&&◌}
use Rattle.std.specs.List.{IsDistinct}
use Rattle.std.specs.List.Sorted.{IsNonDecreasingBy}
use Rattle.ltx_backup.specs.declared.entry.Entry.{Entry}
use Rattle.ltx_backup.specs.Entries.{Lists}

-- the entries stand by the first transaction
abbrev pub AreInOrder : List Entry → Type 0
AreInOrder es = IsNonDecreasingBy (λ e. e.min) es

-- whether two entries have the same numbers
abbrev pub same_numbers : Entry → Entry → Bool
same_numbers x y = x.min == y.min && x.max == y.max

abbrev pub AreOnce : List Entry → Type 0
AreOnce es = IsDistinct same_numbers es

pub lists_old : (es : List Entry) (e : Entry) (a b : ℕ) → Lists es a b → Lists (es ++ e ∷ []) a b
lists_old [] e a b lists = elim lists [ ]
lists_old (x ∷ es) e a b (inl is) = inl is
lists_old (x ∷ es) e a b (inr lists) = inr (lists_old es e a b lists)

pub lists_new : (es : List Entry) (e : Entry) → Lists (es ++ e ∷ []) e.min e.max
lists_new [] e = inl (refl, refl)
lists_new (x ∷ es) e = inr (lists_new es e)

pub lists_cases : (es : List Entry) (e : Entry) (a b : ℕ) → Lists (es ++ e ∷ []) a b → Lists es a b ⊎ ((e.min ≡ a) × (e.max ≡ b))
lists_cases [] e a b (inl is) = inr is
lists_cases [] e a b (inr lists) = absurd lists
lists_cases (x ∷ es) e a b (inl is) = inl (inl is)
lists_cases (x ∷ es) e a b (inr lists) = elim (lists_cases es e a b lists) [ inl old ↦ inl (inr old) | inr new ↦ inr new ]

pub lists_get : (es : List Entry) (k : ℕ) (d : Entry) → k < length es → Lists es (get_or es k d).min (get_or es k d).max
lists_get [] k d within = absurd (omega arith)
lists_get (e ∷ es) zero d within = inl (refl, refl)
lists_get (e ∷ es) (suc k) d within = inr (lists_get es k d (omega arith))
