-- The rules of a page number, by the header and the number before it, which is 0 before the first. A number of 0
-- ends the pages.
use Rattle.std.specs.Prelude.{◌≡◌, ◌≢◌, ℕ, ◌<◌, ◌≤◌, ◌⊎◌}
use Rattle.lf_sqlite_pages.specs.LockPage.{lock_page_of, IsDataPage, data_page_after}
use Rattle.ltx_codec.specs.declared.header.Header.{Header}
use Rattle.ltx_codec.specs.declared.fault.LtxFault.{LtxFault}
use Rattle.ltx_codec.specs.declared.fault.LtxFault.TheVariants as fault

-- the number is not above the one before
abbrev pub IsOutOfOrder : ℕ → ℕ → Type 0
IsOutOfOrder before number = (number ≢ 0) × (number ≤ before)

-- it is past the last page, or is that of the lock page
abbrev pub IsOutOfRange : Header → ℕ → ℕ → Type 0
IsOutOfRange header before number = (before < number) × ((header.commit < number) ⊎ (number ≡ lock_page_of header.page_size))

-- a data page comes, and it is not the next one
abbrev pub SkipsPage : Header → ℕ → ℕ → Type 0
SkipsPage header before number =
    (before < number) × (number ≤ header.commit) × IsDataPage header.page_size number × (number ≢ data_page_after header.page_size before)

-- the pages end, and a data page lies behind them
abbrev pub EndsEarly : Header → ℕ → ℕ → Type 0
EndsEarly header before number = (number ≡ 0) × (data_page_after header.page_size before ≤ header.commit)

-- a snapshot leaves a data page out
abbrev pub LeavesOut : Header → ℕ → ℕ → Type 0
LeavesOut header before number = (header.min ≡ 1) × (SkipsPage header before number ⊎ EndsEarly header before number)

-- the rule that the number breaks there
abbrev pub BreaksNumbering : Header → ℕ → ℕ → LtxFault → Type 0
BreaksNumbering header before number fault.PageOrder = IsOutOfOrder before number
BreaksNumbering header before number fault.PageRange = IsOutOfRange header before number
BreaksNumbering header before number fault.NotWhole = LeavesOut header before number
BreaksNumbering header before number _ = ⊥

-- the number may stand behind the one before: it breaks none
pub record MayFollow (header : Header) (before number : ℕ) : Type 0 where
  pub in_order : IsOutOfOrder before number → ⊥
  pub in_range : IsOutOfRange header before number → ⊥
  pub none_left_out : LeavesOut header before number → ⊥
