-- A file is published as the next of a store.
use Rattle.std.specs.Prelude.{◌≡◌, ℕ, List}
use Rattle.page_checksum.specs.Sums.{flagged, joined}
use Rattle.ltx_codec.specs.declared.file.Ltx.{Ltx}
use Rattle.ltx_codec.specs.Format.{IsFile}
use Rattle.ltx_codec.specs.Positions.{Joins}
use Rattle.world_laws.specs.Store.{StoreState, StoreCall, Commit, Apply, at}
use Rattle.txn_log.specs.declared.entry.Attempt.{Attempt}
use Rattle.txn_log.specs.declared.entry.Attempt.TheVariants as attempt
use Rattle.txn_log.specs.Draft.{sums_after}
use Rattle.txn_log.specs.Kept.{IsComplete}

-- what is tried is to publish a file of a single transaction, or any file
abbrev pub Publishes : Attempt → Ltx → Type 0
Publishes attempt.Commit file = file.header.max ≡ file.header.min
Publishes attempt.Apply file = Unit {0}
Publishes _ file = ⊥

-- the call that publishes a file, by what is tried
abbrev pub call_of : Attempt → Ltx → StoreCall
call_of attempt.Apply file = Apply file
call_of _ file = Commit file

-- the store can take the file, which writes each page past the image's end
pub record CanTake (store : StoreState) (file : Ltx) : Type 0 where
  pub is : IsFile file
  pub joins : Joins store.image (at store) file
  pub complete : IsComplete store.image file.change

-- the sum that the file leads to is that of the table of sums after it
abbrev pub IsSummedBy : List ℕ → Ltx → Type 0
IsSummedBy sums file = file.post ≡ flagged (joined (sums_after sums file.change))
