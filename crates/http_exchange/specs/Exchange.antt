-- One exchange: a request and its reply, by one dial.
use Rattle.std.specs.Prelude.{◌≡◌, ℕ, ◌<◌, ◌≤◌, Bool, true, false, List, [], ◌++◌, length, take, Option, None, Result, Ok, Err}
use Rattle.std.specs.Io.KnownBytes.{Appends, IsAtEnd}
use Rattle.lf_base.specs.Dials.{Dial, failed, hung_up, TellsMore}
use Rattle.lf_base.specs.Faults.{Rose}
use Rattle.lf_base.specs.declared.link.Link.{Ghosts as LinkGhosts}
use Rattle.lf_base.specs.declared.session_end.SessionEnd.{SessionEnd}
use Rattle.lf_base.specs.declared.session_end.SessionEnd.TheVariants as ends
use Rattle.http_exchange.specs.declared.told.Told.{Told}
use Rattle.http_exchange.specs.declared.told.Untold.{Untold}
use Rattle.http_exchange.specs.declared.told.Untold.TheVariants as untold
use Rattle.http_exchange.specs.Reading.{Gave, GaveSome}
use Rattle.http_exchange.specs.Reply.{Terms, IsReplyPart, IsTooLong, IsUnfit, IsWholeReply}

-- the bytes of a request, and what of a reply is taken
pub record Asked : Type 0 where
  pub text : List ℕ
  pub terms : Terms

-- why no reply was told, by the bytes that came and whether the input was at its end
abbrev pub Untells : Terms → List ℕ → Type 0 → Untold → Type 0
Untells terms read ended untold.Unfit = IsUnfit terms read ended
Untells terms read ended untold.TooLong = IsTooLong terms read
Untells terms read ended untold.Fault = IsReplyPart terms read
Untells terms read ended untold.Turns = IsReplyPart terms read
Untells terms read ended untold.NoMemory = Unit {0}

-- a reply was told, or why none was
abbrev pub Tells : Terms → List ℕ → Type 0 → Result Told Untold → Type 0
Tells terms read ended (Ok told) = IsWholeReply terms read ended told.status told.body
Tells terms read ended (Err why) = Untells terms read ended why

-- what keeps a request from being written whole: a fault, or want of a turn or of memory
abbrev pub StopsWriting : Result Told Untold → Type 0
StopsWriting (Err untold.Fault) = Unit {0}
StopsWriting (Err untold.Turns) = Unit {0}
StopsWriting (Err untold.NoMemory) = Unit {0}
StopsWriting _ = ⊥

-- HOW AN EXCHANGE ENDED, by the bytes that its link gave and took: a front of the request was written that is not all, and nothing read; or all of it, and the reply ended so
pub data EndsTalk (asked : Asked) (read written : List ℕ) (ended : Type 0) (result : Result Told Untold) : Type 0 where
  unsent : (n : ℕ) → n < length asked.text → written ≡ take n asked.text → read ≡ [] → StopsWriting result → EndsTalk asked read written ended result
  sent : written ≡ asked.text → Tells asked.terms read ended result → EndsTalk asked read written ended result

-- the same on a link that may tell nothing of its bytes
pub record Talks (asked : Asked) (given given_now taken taken_now left_now : Option (List ℕ)) (result : Result Told Untold) : Type 0 where
  pub read : List ℕ
  pub written : List ℕ
  pub gave : Appends given given_now read
  pub took : Appends taken taken_now written
  pub ends : EndsTalk asked read written (IsAtEnd left_now) result

-- the same of a reply alone
pub record ReadsReply {L : Type 0} (l : LinkGhosts L) (terms : Terms) (old new : L) (result : Result Told Untold) : Type 0 where
  pub read : List ℕ
  pub gave : Gave l old new read
  pub tells : Tells terms read (IsAtEnd (l.left new)) result

-- a head was read, and behind it no reply was told
pub record ReadsNone {L : Type 0} (l : LinkGhosts L) (terms : Terms) (head : List ℕ) (old new : L) (why : Untold) : Type 0 where
  pub more : List ℕ
  pub gave : Gave l old new more
  pub why_is : Untells terms (head ++ more) (IsAtEnd (l.left new)) why

-- a head was read, and behind it the rest of a whole reply
pub record ReadsRest {L : Type 0} (l : LinkGhosts L) (terms : Terms) (head : List ℕ) (old new : L) (status : ℕ) (body : List ℕ) : Type 0 where
  pub more : List ℕ
  pub gave : Gave l old new more
  pub whole : IsWholeReply terms (head ++ more) (IsAtEnd (l.left new)) status body

-- the count rose by a fault alone
abbrev pub FaultsBy : {T : Type 0} → ℕ → ℕ → Result T Untold → Type 0
FaultsBy before now (Err untold.Fault) = Rose before now
FaultsBy before now _ = now ≡ before

-- no turn comes back, and none is left where they ran out
abbrev pub TurnsBy : {T : Type 0} → ℕ → ℕ → Result T Untold → Type 0
TurnsBy before now (Err untold.Turns) = now ≡ 0
TurnsBy before now _ = now ≤ before

-- why a body that ends with the input was not read: more came than so many; or no more, and the link failed, or no turn was left; or memory ran out
abbrev pub EndsUnending : {L T : Type 0} → LinkGhosts L → L → L → List ℕ → ℕ → Result T Untold → Type 0
EndsUnending l old new held limit (Ok _) = Unit {0}
EndsUnending l old new held limit (Err untold.TooLong) = (more : List ℕ) × Gave l old new more × (limit < length (held ++ more))
EndsUnending l old new held limit (Err untold.Fault) = (more : List ℕ) × Gave l old new more × (length (held ++ more) ≤ limit)
EndsUnending l old new held limit (Err untold.Turns) = (more : List ℕ) × Gave l old new more × (length (held ++ more) ≤ limit)
EndsUnending l old new held limit (Err untold.NoMemory) = GaveSome l old new
EndsUnending l old new held limit (Err untold.Unfit) = ⊥

-- what a session's end is to an exchange
abbrev pub untold_by : SessionEnd → Untold
untold_by ends.Closed = untold.Unfit
untold_by ends.BadMessage = untold.Unfit
untold_by ends.ReadFault = untold.Fault
untold_by ends.WriteFault = untold.Fault
untold_by ends.Turns = untold.Turns
untold_by ends.Worn = untold.NoMemory
untold_by ends.NoMemory = untold.NoMemory

-- and what it is to a body that ends with the input
abbrev pub at_end : SessionEnd → Result (Unit {0}) Untold
at_end ends.Closed = Ok tt
at_end end = Err (untold_by end)

-- whether the link of an exchange that ended so has failed
abbrev pub failed_by : Result Told Untold → Bool
failed_by (Err untold.Fault) = true
failed_by _ = false

-- links of this kind tell which bytes they gave and took
abbrev pub LinksTell : {L : Type 0} → (L → Option (List ℕ)) → (L → Option (List ℕ)) → Type 0
LinksTell {L} given taken = (link : L) → (given link ≡ None → ⊥) × (taken link ≡ None → ⊥)

-- THE ONE DIAL of an exchange that ended so: it failed, which is a fault; or its link was hung up, which failed by a fault alone, and where links tell their bytes they are those of such an end
abbrev pub IsDialOf : Asked → Type 0 → Result Told Untold → Dial → Type 0
IsDialOf asked tell result failed = result ≡ Err untold.Fault
IsDialOf asked tell result (hung_up read written rest rose) = (rose ≡ failed_by result) × (tell → EndsTalk asked read written (rest ≡ []) result)

-- ONE DIAL MORE is told, and it is that of an exchange that ended so
pub record DialsOnce (asked : Asked) (tell : Type 0) (old new : Option (List Dial)) (result : Result Told Untold) : Type 0 where
  pub told : TellsMore (IsDialOf asked tell result) old new
