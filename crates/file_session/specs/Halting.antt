-- A permit is asked for, and the position awaited that it came with.
use Rattle.std.specs.Prelude.{◌≡◌, ℕ, ◌<◌, nat_le, Bool, true, false, List, [], ◌∷◌, ◌++◌, length, Option, Some, None, Result, Ok, Err}
use Rattle.std.specs.List.{AllByRecursion}
use Rattle.turn_desk.specs.History.{entry}
use Rattle.http_exchange.specs.Exchange.{Asked}
use Rattle.http_exchange.specs.declared.told.Told.{Told}
use Rattle.http_exchange.specs.declared.told.Untold.{Untold}
use Rattle.stream_wire.specs.declared.pass_line.PassLine.{PassLine}
use Rattle.stream_wire.specs.NumberLines.{pass_line, ReadsPassLine}
use Rattle.halt_forward.specs.declared.halt_pass.HaltPass.{HaltPass}
use Rattle.node_core.specs.declared.ask.Ask.{Ask}
use Rattle.node_core.specs.declared.ask.Ask.TheVariants as ask
use Rattle.node_core.specs.declared.answer.Answer.{Answer}
use Rattle.node_core.specs.declared.answer.Answer.TheVariants as answer
use Rattle.file_session.specs.Asking.{FileEntry}
use Rattle.file_session.specs.Primary.{Exchanges, Phone}

-- the permit that an exchange gives: by a whole reply of 200 whose line reads
abbrev pub Permits : Result Told Untold → Option PassLine → Type 0
Permits (Ok told) (Some pass) = (told.status ≡ 200) × (told.body ≡ pass_line pass)
Permits (Ok told) None = told.status ≡ 200 → ReadsPassLine told.body None
Permits (Err why) (Some pass) = ⊥
Permits (Err why) None = Unit {0}

-- the permit of a line
abbrev pub pass_of : PassLine → HaltPass
pass_of line = record { number = line.number; until = line.until }

-- the node stands at this transaction, or behind it
abbrev pub is_reached : ℕ → Answer → Bool
is_reached txid (answer.At here) = nat_le txid here.pos.txid
is_reached txid _ = false

-- where does the node stand? Not there yet
pub record IsWait (caller txid : ℕ) (one : FileEntry) : Type 0 where
  pub by : one.caller ≡ caller
  pub asked : one.ask ≡ ask.Where
  pub short : is_reached txid one.answer ≡ false

-- it is asked so often where it stands, and is not there yet
pub record Waits (caller txid count : ℕ) (old new : List FileEntry) : Type 0 where
  pub waits : List FileEntry
  pub each : AllByRecursion (IsWait caller txid) waits
  pub number : length waits ≡ count
  pub all : new ≡ old ++ waits

-- the moment of a request
abbrev pub moment_of : Ask → ℕ
moment_of (ask.File now request) = now
moment_of _ = 0

-- an exchange tells this permit, or none
abbrev pub Tells : Type 0 → Asked → Phone → Phone → Option PassLine → Type 0
Tells tell asked old new pass = (told : Result Told Untold) × Exchanges tell asked old new told × Permits told pass

-- the node stands there, after fewer than 10,000 asks that found it short of it
pub record Reaches (caller txid : ℕ) (old new : List FileEntry) : Type 0 where
  pub count : ℕ
  pub most : count < 10000
  pub mid : List FileEntry
  pub waits : Waits caller txid count old mid
  pub there : Answer
  pub reached : is_reached txid there ≡ true
  pub all : new ≡ mid ++ entry caller ask.Where there ∷ []

abbrev pub WaitsFor : ℕ → ℕ → List FileEntry → List FileEntry → Bool → Type 0
WaitsFor caller txid old new true = Reaches caller txid old new
WaitsFor caller txid old new false = Waits caller txid 10000 old new

-- the node gets the permit, and the request is asked again
pub record AsksAgain (caller : ℕ) (asked : Ask) (pass : PassLine) (given : Answer) (old new : List FileEntry) : Type 0 where
  pub heard : Answer
  pub all : new ≡ old ++ entry caller (ask.HaltGot (moment_of asked) (pass_of pass)) heard ∷ entry caller asked given ∷ []

-- THE LOCK IS TAKEN: once the node stands at the permit's position it gets the permit, and the request is asked again
pub record TakesLock (caller : ℕ) (asked : Ask) (pass : PassLine) (given : Answer) (old new : List FileEntry) : Type 0 where
  pub mid : List FileEntry
  pub reaches : Reaches caller pass.pos.txid old mid
  pub again : AsksAgain caller asked pass given mid new

abbrev pub Took : ℕ → Ask → PassLine → List FileEntry → List FileEntry → Option Answer → Type 0
Took caller asked pass old new (Some given) = TakesLock caller asked pass given old new
Took caller asked pass old new None = Waits caller pass.pos.txid 10000 old new

-- what is asked to take a permit
abbrev pub is_taking : Ask → Bool
is_taking ask.Where = true
is_taking (ask.HaltGot now pass) = true
is_taking _ = false

pub record MayTake (one : FileEntry) : Type 0 where
  pub is : is_taking one.ask ≡ true

-- such asks were made
abbrev pub IsTaking : List FileEntry → List FileEntry → Type 0
IsTaking old new = (more : List FileEntry) × AllByRecursion MayTake more × (new ≡ old ++ more)
