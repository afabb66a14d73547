-- The numbers of a store's faults.
use Rattle.std.specs.Prelude.{ℕ}
use Rattle.txn_log.specs.declared.fault.StoreFault.{StoreFault}
use Rattle.txn_log.specs.declared.fault.StoreFault.TheVariants as fault

abbrev pub number_of : StoreFault → ℕ
number_of fault.Disk = 1
number_of fault.Broken = 2
number_of (fault.NotNext have want) = 3
number_of (fault.SumDiffers want got) = 4
number_of fault.Limit = 5
number_of fault.NoMemory = 6
number_of (fault.PageSize have want) = 7
