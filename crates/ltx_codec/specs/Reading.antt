-- Files read one after another from pieces.
use Rattle.std.specs.Prelude.{◌≡◌, ℕ, ◌≤◌, ◌⊎◌, List, [], ◌++◌, length, take, Option, Some, None, Result, Ok, Err}
use Rattle.ltx_codec.specs.Format.{IsLtx}
use Rattle.ltx_codec.specs.Places.{IsEarliest, IsFound}
use Rattle.ltx_codec.specs.Decoding.{HasFed}
use Rattle.ltx_codec.specs.WholePages.{HoldsWholePages, largest_page}
use Rattle.ltx_codec.specs.declared.file.Ltx.{Ltx}
use Rattle.ltx_codec.specs.declared.fault.LtxFault.{LtxFault}
use Rattle.ltx_codec.specs.declared.fault.LtxFault.TheVariants as fault
use Rattle.ltx_codec.specs.declared.file_reader.FileReader.{FileReader}

-- the reader stands in a file of which it has read exactly this encoding
pub record HasBegun (reader : FileReader) (encoding : List ℕ) : Type 0 where
  pub sound : reader.fault ≡ None
  pub fed : HasFed reader.decoder largest_page encoding
  pub pages : 100 ≤ length encoding → HoldsWholePages encoding reader.change

-- the reader found this fault, and answers it from then on
abbrev pub HasStopped : FileReader → LtxFault → Type 0
HasStopped reader f = reader.fault ≡ Some f

-- why an encoding was refused: memory ran out, or the fault is found and stands earliest in it
abbrev pub IsRefusedAt : List ℕ → LtxFault → Type 0
IsRefusedAt encoding f = (f ≡ fault.NoMemory) ⊎ IsFound f × IsEarliest encoding f

-- what reading a piece behind an encoding gives: nothing yet, or the file that ends in the piece and how many bytes were taken
abbrev pub Reads : FileReader → List ℕ → List ℕ → Result (Option (Ltx × ℕ)) LtxFault → Type 0
Reads reader encoding piece (Ok None) = HasBegun reader (encoding ++ piece)
Reads reader encoding piece (Ok (Some first)) =
    (1 ≤ first.1) × (first.1 ≤ length piece) × IsLtx (encoding ++ take first.1 piece) first.0 × HasBegun reader []
Reads reader encoding piece (Err f) = IsRefusedAt (encoding ++ piece) f
