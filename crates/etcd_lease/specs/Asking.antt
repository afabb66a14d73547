-- How etcd is asked: an endpoint by one exchange, and one endpoint after another.
use Rattle.std.specs.Prelude.{◌≡◌, ◌≢◌, ◌⊎◌, ℕ, ◌+◌, false, codes, List, [], ◌∷◌, ◌++◌, drop, take, Option, Some, None, Result, Ok, Err}
use Rattle.http_exchange.specs.declared.told.Told.{Told}
use Rattle.http_exchange.specs.declared.told.Untold.{Untold}
use Rattle.http_exchange.specs.declared.told.Untold.TheVariants as untold
use Rattle.http_exchange.specs.Exchange.{Asked, DialsOnce, FaultsBy}
use Rattle.http_exchange.specs.Letters.{letter_text}
use Rattle.lease_link.specs.declared.unlearned.Unlearned.{Unlearned}
use Rattle.lease_link.specs.declared.unlearned.Unlearned.TheVariants as unlearned
use Rattle.lease_link.specs.Asking.{DialStand}
use Rattle.etcd_wire.specs.declared.call.Call.{Call}
use Rattle.etcd_lease.specs.declared.found.Found.{Found}
use Rattle.etcd_wire.specs.declared.said.Said.{Said}
use Rattle.etcd_wire.specs.Calls.{data_of, path_of}
use Rattle.etcd_wire.specs.Replies.{Reads}

-- a letter to an endpoint, and that its reply has at most 65,536 bytes of body
abbrev pub letter_to : List ℕ → List ℕ → List ℕ → Asked
letter_to address path body = record { text = letter_text (codes "POST") path address body; terms = record { sized = false; limit = 65536 } }

-- what is heard of an exchange: what a whole reply with status 200 says, and nothing of another, or of none; unless turns or memory ran out
abbrev pub Hears : Call → Result Told Untold → Result (Option Said) Unlearned → Type 0
Hears call (Ok told) (Ok read) = (told.status ≡ 200 → Reads call told.body read) × (told.status ≢ 200 → read ≡ None)
Hears call (Ok told) (Err why) = why ≡ unlearned.NoMemory
Hears call (Err untold.Turns) heard = heard ≡ Err unlearned.Turns
Hears call (Err untold.NoMemory) heard = heard ≡ Err unlearned.NoMemory
Hears call (Err why) heard = heard ≡ Ok None

-- AN ENDPOINT WAS ASKED, by one dial, with this body
pub record AsksAt (tell : Type 0) (call : Call) (body address : List ℕ) (old new : DialStand) (heard : Result (Option Said) Unlearned) : Type 0 where
  pub told : Result Told Untold
  pub dial : DialsOnce (letter_to address (path_of call) body) tell old.dials new.dials told
  pub fault : FaultsBy old.faults new.faults told
  pub hears : Hears call told heard

-- the first of some endpoints answered so
abbrev pub at_first : Result (Option Said) Unlearned → Result (Option Found) Unlearned
at_first (Ok None) = Ok None
at_first (Ok (Some said)) = Ok (Some (record { said = said; before = 0 }))
at_first (Err why) = Err why

-- one did behind one that did not
abbrev pub further : Result (Option Found) Unlearned → Result (Option Found) Unlearned
further (Ok None) = Ok None
further (Ok (Some found)) = Ok (Some (record { said = found.said; before = found.before + 1 }))
further (Err why) = Err why

-- THEY WERE ASKED IN TURN, until one answered
abbrev pub AsksEach : Type 0 → Call → List ℕ → List (List ℕ) → DialStand → DialStand → Result (Option Found) Unlearned → Type 0
AsksEach tell call body [] old new heard = (new ≡ old) × (heard ≡ Ok None)
AsksEach tell call body (address ∷ rest) old new heard =
    ((mid : DialStand) × (next : Result (Option Found) Unlearned) × AsksAt tell call body address old mid (Ok None) × AsksEach tell call body rest mid new next
    × (heard ≡ further next))
    ⊎ ((first : Result (Option Said) Unlearned) × AsksAt tell call body address old new first × (first ≢ Ok None) × (heard ≡ at_first first))

-- the next asking begins at the one that answered
abbrev pub begun_at : List (List ℕ) → Result (Option Found) Unlearned → List (List ℕ)
begun_at endpoints (Ok None) = endpoints
begun_at endpoints (Ok (Some found)) = drop found.before endpoints ++ take found.before endpoints
begun_at endpoints (Err why) = endpoints

abbrev pub said_by : Result (Option Found) Unlearned → Result (Option Said) Unlearned
said_by (Ok None) = Ok None
said_by (Ok (Some found)) = Ok (Some found.said)
said_by (Err why) = Err why
