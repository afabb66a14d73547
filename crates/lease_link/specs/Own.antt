-- One exchange with the lease service of another node.
use Rattle.std.specs.Prelude.{◌≡◌, ℕ, List, [], false, Result, Ok, Err}
use Rattle.serde_json.specs.Data.{object}
use Rattle.serde_json.specs.Written.{compact_text}
use Rattle.lease_core.specs.declared.lease_ask.LeaseAsk.{LeaseAsk}
use Rattle.lease_core.specs.Bodies.{ask_members}
use Rattle.stream_wire.specs.declared.call.Call.TheVariants as call
use Rattle.http_exchange.specs.declared.told.Told.{Told}
use Rattle.http_exchange.specs.declared.told.Untold.{Untold}
use Rattle.http_exchange.specs.declared.told.Untold.TheVariants as untold
use Rattle.http_exchange.specs.Exchange.{Asked, DialsOnce, FaultsBy}
use Rattle.http_exchange.specs.Writing.{request_text}
use Rattle.lease_link.specs.declared.learned.Learned.{Learned}
use Rattle.lease_link.specs.declared.learned.Learned.TheVariants as learned
use Rattle.lease_link.specs.declared.unlearned.Unlearned.{Unlearned}
use Rattle.lease_link.specs.declared.unlearned.Unlearned.TheVariants as unlearned
use Rattle.lease_link.specs.Asking.{DialStand}
use Rattle.lease_link.specs.Learning.{Tells}

-- a request to the service with this body, and that its reply has at most 65,536 bytes of body
abbrev pub request_with : List ℕ → List ℕ → Asked
request_with service body = record { text = request_text call.Lease service body []; terms = record { sized = false; limit = 65536 } }

-- the body of a request
abbrev pub ask_text : LeaseAsk → List ℕ
ask_text asked = compact_text (object (ask_members asked))

-- what is learned of an exchange: what a whole reply tells, and nothing of one that is none or after a fault; unless turns or memory ran out
abbrev pub Hears : LeaseAsk → Result Told Untold → Result Learned Unlearned → Type 0
Hears asked (Ok told) (Ok l) = Tells asked told.status told.body l
Hears asked (Ok told) (Err why) = why ≡ unlearned.NoMemory
Hears asked (Err untold.Turns) heard = heard ≡ Err unlearned.Turns
Hears asked (Err untold.NoMemory) heard = heard ≡ Err unlearned.NoMemory
Hears asked (Err why) heard = heard ≡ Ok learned.Nothing

-- THE SERVICE WAS ASKED: memory ran out over the request, and nothing was dialed; or one dial was made, for this request, and it ended so
pub data AsksOwn (tell : Type 0) (address : List ℕ) (asked : LeaseAsk) (old new : DialStand) (heard : Result Learned Unlearned) : Type 0 where
  unsaid : new ≡ old → heard ≡ Err unlearned.NoMemory → AsksOwn tell address asked old new heard
  exchanges : (told : Result Told Untold) → DialsOnce (request_with address (ask_text asked)) tell old.dials new.dials told → FaultsBy old.faults new.faults told
      → Hears asked told heard → AsksOwn tell address asked old new heard
