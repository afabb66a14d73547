-- What is reserved for a file that a source gives.
use Rattle.std.specs.Prelude.{ℕ, Option, None, Some}
use Rattle.txn_log.specs.declared.reserved.Reserved.{Reserved}

-- how many pages a file may have that is taken from a source without taking memory
abbrev pub spare_in : Option Reserved → ℕ
spare_in None = 0
spare_in (Some reserved) = reserved.pages
