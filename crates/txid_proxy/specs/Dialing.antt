-- One dial, by which a request is passed on and its reply read to the end of the link.
use Rattle.std.specs.Prelude.{◌≡◌, ℕ, ◌<◌, ◌≤◌, Bool, true, false, List, [], length, take, Option, Result, Ok, Err}
use Rattle.std.specs.Io.KnownBytes.{Appends, IsAtEnd}
use Rattle.lf_base.specs.Dials.{Dial, failed, hung_up, TellsMore}
use Rattle.lf_base.specs.declared.link.Link.{Ghosts as LinkGhosts}
use Rattle.http_exchange.specs.declared.told.Untold.{Untold}
use Rattle.http_exchange.specs.declared.told.Untold.TheVariants as untold
use Rattle.http_exchange.specs.Reading.{Gave}
use Rattle.txid_proxy.specs.Passing.{IsReply}

-- the most bytes of a reply
abbrev pub reply_max : ℕ
reply_max = 67108864

-- what became of a reply, by the bytes that came and whether the input was at its end. Unfit is one that begins with no head
abbrev pub Came : List ℕ → Type 0 → Result (List ℕ) Untold → Type 0
Came read ended (Ok reply) = (reply ≡ read) × ended × (length read ≤ reply_max) × IsReply read
Came read ended (Err untold.Unfit) = ended × (length read ≤ reply_max) × (IsReply read → ⊥)
Came read ended (Err untold.TooLong) = reply_max < length read
Came read ended (Err untold.Fault) = length read ≤ reply_max
Came read ended (Err untold.Turns) = length read ≤ reply_max
Came read ended (Err untold.NoMemory) = Unit {0}

-- what keeps a text from being written whole
abbrev pub StopsPassing : Result (List ℕ) Untold → Type 0
StopsPassing (Err untold.Fault) = Unit {0}
StopsPassing (Err untold.Turns) = Unit {0}
StopsPassing _ = ⊥

-- HOW A TEXT WAS PASSED ON, by the bytes that the link gave and took: a front of it was written that is not all, and nothing read; or
-- all of it and nothing else, and the reply came so
pub data EndsPassing (text read written : List ℕ) (ended : Type 0) (result : Result (List ℕ) Untold) : Type 0 where
  unsent : (n : ℕ) → n < length text → written ≡ take n text → read ≡ [] → StopsPassing result → EndsPassing text read written ended result
  sent : written ≡ text → Came read ended result → EndsPassing text read written ended result

-- the same on a link that may tell nothing of its bytes
pub record Passes (text : List ℕ) (given given_now taken taken_now left_now : Option (List ℕ)) (result : Result (List ℕ) Untold) : Type 0 where
  pub read : List ℕ
  pub written : List ℕ
  pub gave : Appends given given_now read
  pub took : Appends taken taken_now written
  pub ends : EndsPassing text read written (IsAtEnd left_now) result

-- the same of a reply alone
pub record ReadsReply {L : Type 0} (l : LinkGhosts L) (old new : L) (result : Result (List ℕ) Untold) : Type 0 where
  pub read : List ℕ
  pub gave : Gave l old new read
  pub came : Came read (IsAtEnd (l.left new)) result

-- whether the link has failed
abbrev pub fails : Result (List ℕ) Untold → Bool
fails (Err untold.Fault) = true
fails _ = false

-- THE ONE DIAL by which this text was passed on: it failed, which is a fault; or its link was hung up, which failed by a fault alone,
-- and where links tell their bytes they are those of such an end
abbrev pub IsPassingDial : List ℕ → Type 0 → Result (List ℕ) Untold → Dial → Type 0
IsPassingDial text tell result failed = result ≡ Err untold.Fault
IsPassingDial text tell result (hung_up read written rest rose) = (rose ≡ fails result) × (tell → EndsPassing text read written (rest ≡ []) result)

-- one dial more is told, and it is that one
pub record PassesOnce (text : List ℕ) (tell : Type 0) (old new : Option (List Dial)) (result : Result (List ℕ) Untold) : Type 0 where
  pub told : TellsMore (IsPassingDial text tell result) old new
