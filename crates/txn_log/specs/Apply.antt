-- Another's file is applied: what a store refuses, and what it publishes.
use Rattle.std.specs.Prelude.{◌≡◌, ◌≢◌, ℕ, Bool, true, false, List, Result, Ok, Err}
use Rattle.page_checksum.specs.Sums.{flagged, joined}
use Rattle.lf_base.specs.declared.pos.Pos.{Pos}
use Rattle.lf_sqlite_pages.specs.Change.{FitsOver}
use Rattle.lf_sqlite_pages.specs.Complete.{completed}
use Rattle.ltx_codec.specs.Positions.{before, after, IsNotNext}
use Rattle.ltx_codec.specs.declared.file.Ltx.{Ltx}
use Rattle.txn_log.specs.Draft.{sums_after}
pub use Rattle.world_laws.specs.Lineage.{whole_file}
use Rattle.txn_log.specs.declared.fault.StoreFault.{StoreFault}
use Rattle.txn_log.specs.declared.fault.StoreFault.TheVariants as fault

-- the sum of the pages after the file, from the table of their sums before
abbrev pub sum_behind : ℕ → List ℕ → Ltx → ℕ
sum_behind commit sums file = flagged (joined (sums_after sums (completed file.change commit)))

-- the file follows the store's position, fits its pages, and says the sum that it leads to
pub record IsTaken (position : Pos) (size commit : ℕ) (sums : List ℕ) (file : Ltx) : Type 0 where
  pub next : before file ≡ position
  pub fits : FitsOver size commit file.change
  pub sum : file.post ≡ sum_behind commit sums file

-- why a file is not applied, of these the first that holds
abbrev pub Refuses : Bool → Pos → ℕ → ℕ → List ℕ → Ltx → StoreFault → Type 0
Refuses broken position size commit sums file fault.Broken = broken ≡ true
Refuses broken position size commit sums file (fault.NotNext have want) = (broken ≡ false) × IsNotNext position file have want
Refuses broken position size commit sums file (fault.PageSize have want) =
    (broken ≡ false) × (before file ≡ position) × (FitsOver size commit file.change → ⊥) × (have ≡ size) × (want ≡ file.change.page_size)
Refuses broken position size commit sums file (fault.SumDiffers want got) =
    (broken ≡ false) × (before file ≡ position) × FitsOver size commit file.change × (want ≡ file.post) × (got ≡ sum_behind commit sums file) × (want ≢ got)
Refuses broken position size commit sums file fault.NoMemory = (broken ≡ false) × IsTaken position size commit sums file
Refuses broken position size commit sums file fault.Disk = (broken ≡ false) × IsTaken position size commit sums file
Refuses broken position size commit sums file fault.Limit = ⊥

-- what applying a file answers: the position behind it, or why not
abbrev pub Applies : Bool → Pos → ℕ → ℕ → List ℕ → Ltx → Result Pos StoreFault → Type 0
Applies broken position size commit sums file (Ok told) = (broken ≡ false) × IsTaken position size commit sums file × (told ≡ after file)
Applies broken position size commit sums file (Err why) = Refuses broken position size commit sums file why

-- whether a file is taken, which neither memory nor the disk decides
abbrev pub Judges : {T : Type 0} → Bool → Pos → ℕ → ℕ → List ℕ → Ltx → Result T StoreFault → Type 0
Judges broken position size commit sums file (Ok _) = (broken ≡ false) × IsTaken position size commit sums file
Judges broken position size commit sums file (Err fault.NoMemory) = ⊥
Judges broken position size commit sums file (Err fault.Disk) = ⊥
Judges broken position size commit sums file (Err why) = Refuses broken position size commit sums file why
