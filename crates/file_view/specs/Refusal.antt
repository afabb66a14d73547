-- How the rules refuse: rows of a test and an error number. The first row whose test holds decides.
use Rattle.std.specs.Prelude.{◌≡◌, ℕ, Bool, Option, Some, None, List, [], ◌∷◌, if◌then◌else◌}
use Rattle.lf_base.specs.declared.errno.Errno.{Errno}
use Rattle.lf_base.specs.Faults.{Rose}
use Rattle.file_view.specs.declared.fault.ViewFault.{ViewFault}
use Rattle.file_view.specs.declared.fault.ViewFault.TheVariants as fault
use Rattle.file_view.specs.Needs.{Needs, ReadsPages, TakesMemory}

abbrev pub Row : Type 0
Row = Bool × Errno

-- the number of the first row whose test holds
abbrev pub first_refusal : List Row → Option Errno
first_refusal [] = None
first_refusal (row ∷ rows) = if row.0 then Some row.1 else first_refusal rows

-- no row's test holds
abbrev pub IsAllowed : List Row → Type 0
IsAllowed rows = first_refusal rows ≡ None

-- why a request that reads no page was refused: by the first row that holds; want of memory has no cause beside that it takes memory
abbrev pub HasCause : Needs → List Row → ViewFault → Type 0
HasCause needs rows (fault.Errno number) = first_refusal rows ≡ Some number
HasCause needs rows (fault.Page _) = ⊥
HasCause needs rows fault.NoMemory = TakesMemory needs

-- the same of any request, over the counts of a store's faults before and after: a page was not read where it reads pages and the
-- count rose
abbrev pub HasReadCause : Needs → List Row → ℕ → ℕ → ViewFault → Type 0
HasReadCause needs rows before after (fault.Errno number) = first_refusal rows ≡ Some number
HasReadCause needs rows before after (fault.Page _) = ReadsPages needs × Rose before after
HasReadCause needs rows before after fault.NoMemory = TakesMemory needs
