-- Memory that a store holds for later calls.
use Rattle.std.specs.Prelude.{ℕ, ◌+◌, length}
use Rattle.page_checksum.specs.Table.{PageSums}

-- how many pages the store can have without taking memory: those that it has, and those that have room
abbrev pub spare_of : PageSums → ℕ
spare_of table = length table.sums + table.spare
