-- A source that tells just the encoding of a file, and the file itself.
use Rattle.std.specs.Prelude.{◌≡◌, ◌⊎◌, Result, Ok, Err}
use Rattle.lf_base.specs.declared.pos.Pos.{Pos}
use Rattle.txn_log.specs.From.{IsJudged}
use Rattle.txn_log.specs.declared.fault.StoreFault.{StoreFault}
use Rattle.txn_log.specs.declared.fault.FromFault.{FromFault}
use Rattle.txn_log.specs.declared.fault.FromFault.TheVariants as from

-- the answer for a file as the one for a source
abbrev pub from_answer : Result Pos StoreFault → Result Pos FromFault
from_answer (Ok told) = Ok told
from_answer (Err why) = Err (from.Store why)

-- neither memory nor the disk decided it
abbrev pub IsDecided : Result Pos StoreFault → Type 0
IsDecided (Ok told) = Unit {0}
IsDecided (Err why) = IsJudged why

-- the source failed, or the answer is one for the file
abbrev pub IsOfFile : Result Pos FromFault → Type 0
IsOfFile answer = (answer ≡ Err from.Source) ⊎ ((plain : Result Pos StoreFault) × (answer ≡ from_answer plain))
