-- The positions that an LTX file stands between, and whether it joins a database at a position.
use Rattle.std.specs.Prelude.{◌≡◌, ◌≢◌, ℕ, ◌-◌}
use Rattle.lf_base.specs.declared.pos.Pos.{Pos}
use Rattle.lf_sqlite_pages.specs.Image.{DatabaseImage}
use Rattle.lf_sqlite_pages.specs.Apply.{Fits, apply}
use Rattle.ltx_codec.specs.Sums.{image_sum}
use Rattle.ltx_codec.specs.declared.file.Ltx.{Ltx}

-- the position of a database that was never written
abbrev pub nowhere : Pos
nowhere = record { txid = 0; sum = 0 }

-- the position that a file follows
abbrev pub before : Ltx → Pos
before file = record { txid = file.header.min - 1; sum = file.header.pre }

-- the position that a file leads to
abbrev pub after : Ltx → Pos
after file = record { txid = file.header.max; sum = file.post }

-- the sum of an image after a file
abbrev pub sum_after : DatabaseImage → Ltx → ℕ
sum_after image file = image_sum (apply image file.change)

-- a file joins a database: it follows its position, fits its image, and says the sum that it leads to
pub record Joins (image : DatabaseImage) (position : Pos) (file : Ltx) : Type 0 where
  pub next : before file ≡ position
  pub fits : Fits image file.change
  pub sum : sum_after image file ≡ file.post

-- Why a database refuses a file: of these reasons the first that holds. The file follows another position,
abbrev pub IsNotNext : Pos → Ltx → Pos → Pos → Type 0
IsNotNext position file have want = (have ≡ position) × (want ≡ before file) × (want ≢ have)

-- it does not fit the image,
abbrev pub IsMisfit : DatabaseImage → Pos → Ltx → Type 0
IsMisfit image position file = (before file ≡ position) × (Fits image file.change → ⊥)

-- or the image after it has another sum than the file says
abbrev pub SumDiffers : DatabaseImage → Pos → Ltx → ℕ → ℕ → Type 0
SumDiffers image position file want got =
    (before file ≡ position) × Fits image file.change × (want ≡ file.post) × (got ≡ sum_after image file) × (want ≢ got)
