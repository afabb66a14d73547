-- What applying LTX files, one after another, makes of a database.
use Rattle.std.specs.Prelude.{◌≡◌, ℕ, ◌<◌, List, length, ◌++◌, Result, Ok, Err, ◌⊎◌}
use Rattle.lf_sqlite_pages.specs.Image.{DatabaseImage, empty_image}
use Rattle.lf_sqlite_pages.specs.Apply.{apply}
use Rattle.ltx_codec.specs.Format.{IsLtx}
use Rattle.ltx_codec.specs.Places.{IsEarliest, StandsInside}
use Rattle.ltx_codec.specs.Positions.{nowhere, Joins, IsNotNext, IsMisfit, SumDiffers}
use Rattle.ltx_codec.specs.Positions as position
use Rattle.ltx_codec.specs.declared.fault.LtxFault.{LtxFault}
use Rattle.ltx_codec.specs.declared.file.Ltx.{Ltx}
use Rattle.litefs_tool.specs.declared.database.Database.{Database}
use Rattle.litefs_tool.specs.declared.refusal.Refusal.{Refusal}
use Rattle.litefs_tool.specs.declared.refusal.Refusal.TheVariants as refusal

-- a database that was never written
abbrev pub never_written : Database
never_written = record { image = empty_image; pos = nowhere }

-- the database after a file
abbrev pub after : Database → Ltx → Database
after database file = record { image = apply database.image file.change; pos = position.after file }

-- the file follows the database's position, fits its image, and says the sum that it leads to
abbrev pub JoinsTo : Database → Ltx → Type 0
JoinsTo database file = Joins database.image database.pos file

-- why a database refuses a file: of these reasons the first that holds
abbrev pub Refuses : Database → Ltx → Refusal → Type 0
Refuses database file (refusal.NotNext have want) = IsNotNext database.pos file have want
Refuses database file refusal.PageSize = IsMisfit database.image database.pos file
Refuses database file (refusal.SumDiffers want got) = SumDiffers database.image database.pos file want got
Refuses database file (refusal.Ltx broken) = ⊥
Refuses database file refusal.NoMemory = ⊥

-- What applying the files in some bytes to a database comes to. The files are taken in order; in each, first its
-- encoding is looked at, then whether it joins. The first fault is the answer, and else the image at the end of the bytes.
pub data Applies : Database → List ℕ → Result DatabaseImage Refusal → Type 0 where
  -- no file stands first, not even where there are no bytes
  broken : {database : Database} {bytes : List ℕ} {fault : LtxFault} →
      IsEarliest bytes fault → StandsInside fault → Applies database bytes (Err (refusal.Ltx fault))
  -- the first file does not join
  refused : {database : Database} {bytes : List ℕ} (encoding rest : List ℕ) {file : Ltx} {why : Refusal} →
      bytes ≡ encoding ++ rest → IsLtx encoding file → Refuses database file why → Applies database bytes (Err why)
  -- the first file is the last
  last : {database : Database} {bytes : List ℕ} {file : Ltx} →
      IsLtx bytes file → JoinsTo database file → Applies database bytes (Ok (apply database.image file.change))
  -- the first file is followed by others
  more : {database : Database} {bytes : List ℕ} (encoding rest : List ℕ) {file : Ltx} {answer : Result DatabaseImage Refusal} →
      bytes ≡ encoding ++ rest → IsLtx encoding file → JoinsTo database file → 0 < length rest →
      Applies (after database file) rest answer → Applies database bytes answer

-- what an input makes of a database that was never written; want of memory may stand in place of it
abbrev pub MakesOf : List ℕ → Result DatabaseImage Refusal → Type 0
MakesOf input answer = (answer ≡ Err refusal.NoMemory) ⊎ Applies never_written input answer
