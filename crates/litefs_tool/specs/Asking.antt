-- The commands that ask a node over HTTP: what each asks, what the answer comes to, and what came back to the maker.
use Rattle.std.specs.Prelude.{◌≡◌, ◌≢◌, ◌⊎◌, ℕ, ◌<◌, List, [], ◌∷◌, ◌++◌, length, codes, true, Option, Result, Ok, Err}
use Rattle.std.specs.Io.KnownBytes.{IsAtEnd}
use Rattle.http_exchange.specs.Exchange.{Asked, DialsOnce}
use Rattle.http_exchange.specs.Reply.{Terms}
use Rattle.http_exchange.specs.Writing.{request_text}
use Rattle.http_exchange.specs.declared.told.Told.{Told}
use Rattle.http_exchange.specs.declared.told.Untold.{Untold}
use Rattle.http_exchange.specs.declared.told.Untold.TheVariants as untold
use Rattle.lf_base.specs.Dials.{Dial}
use Rattle.lf_base.specs.Position.{position_text}
use Rattle.lf_base.specs.declared.pos.Pos.{Pos}
use Rattle.lf_base.specs.declared.status.Status.{Status}
use Rattle.lf_base.specs.declared.status.Status.TheVariants as status
use Rattle.node_objects.specs.Making.{NetworkRose, TakesBack}
use Rattle.node_objects.specs.declared.counts.Counts.{Counts}
use Rattle.node_objects.specs.declared.returned.Returned.{Returned}
use Rattle.node_objects.specs.declared.returned.Returned.TheVariants as returned
use Rattle.stream_wire.specs.StreamLine.{FitsPosition}
use Rattle.stream_wire.specs.declared.call.Call.{Call}
use Rattle.stream_wire.specs.declared.call.Call.TheVariants as call
use Rattle.litefs_tool.specs.Output.{IsPrefix}
use Rattle.litefs_tool.specs.Streams.{Gives, HasCause, IsWithin, Stream, Takes, input_limit}
use Rattle.litefs_tool.specs.declared.command.Command.{Command}
use Rattle.litefs_tool.specs.declared.command.Command.TheVariants.{Export, Import}

-- ---- what is asked

-- a reply is taken that says its length, and has a body of at most so many bytes
abbrev pub sized : Terms
sized = record { sized = true; limit = input_limit }

-- a call of the node at this address, with this body
abbrev pub asked_at : Call → List ℕ → List ℕ → Asked
asked_at asks address body = record { text = request_text asks address body []; terms = sized }

-- WHAT A COMMAND ASKS, and what it has read of its input before: `export` nothing, `import` all of it
abbrev pub Asks : Command → Stream → List ℕ → Asked → Type 0
Asks (Export remote) input read asked = (read ≡ []) × (asked ≡ asked_at (call.Export remote.name) remote.address [])
Asks (Import remote) input read asked = IsAtEnd input.bytes_after × IsWithin read × (asked ≡ asked_at (call.Import remote.name) remote.address read)
Asks command input read asked = ⊥

-- ---- what the answer comes to

-- a position in print, and a newline
abbrev pub IsPositionLine : List ℕ → Type 0
IsPositionLine line = (pos : Pos) × FitsPosition pos × (line ≡ position_text pos ++ 10 ∷ [])

-- what a command writes for the body of a reply of status 200
abbrev pub Prints : Command → List ℕ → List ℕ → Type 0
Prints (Export remote) body bytes = bytes ≡ body
Prints (Import remote) body bytes = IsPositionLine body × (bytes ≡ codes "imported " ++ body)
Prints command body bytes = ⊥

-- a whole reply of status 200 with this body
abbrev pub success : List ℕ → Result Told Untold
success body = Ok (record { status = 200; body = body })

-- WHY A REPLY IS REFUSED, by its name: it has another status; or it is unfit, or its body is none that such a command takes
abbrev pub RefusesReply : Command → Result Told Untold → List ℕ → Type 0
RefusesReply command (Ok told) name =
    (told.status ≢ 200) × (name ≡ codes "Reply")
    ⊎ (told.status ≡ 200) × ((bytes : List ℕ) → Prints command told.body bytes → ⊥) × (name ≡ codes "BadReply")
RefusesReply command (Err untold.Unfit) name = name ≡ codes "BadReply"
RefusesReply command (Err why) name = ⊥

-- the reply has a longer body than is taken, or takes more reads and writes than there are
abbrev pub IsPastLimit : Result Told Untold → Type 0
IsPastLimit end = (end ≡ Err untold.TooLong) ⊎ (end ≡ Err untold.Turns)

-- What an answer comes to: the status, the bytes that were written, and the name of what is refused.
abbrev pub AnswerOutcome : Command → Result Told Untold → Status → List ℕ → List ℕ → Type 0
AnswerOutcome command end status.Ok written name = (body : List ℕ) × (end ≡ success body) × Prints command body written
AnswerOutcome command end status.WriteFault written name =
    (body : List ℕ) × (bytes : List ℕ) × (end ≡ success body) × Prints command body bytes × IsPrefix written bytes
AnswerOutcome command end status.InputRefused written name = RefusesReply command end name × (written ≡ [])
AnswerOutcome command end status.Limit written name = IsPastLimit end × (written ≡ [])
AnswerOutcome command end status.NetworkFault written name = (end ≡ Err untold.Fault) × (written ≡ [])
AnswerOutcome command end status.NoMemory written name = (end ≡ Err untold.NoMemory) × (written ≡ [])
AnswerOutcome command end status.ReadFault written name = ⊥
AnswerOutcome command end status.WordsRefused written name = ⊥
AnswerOutcome command end status.DiskFault written name = ⊥
AnswerOutcome command end status.NoThread written name = ⊥
AnswerOutcome command end (status.Program number) written name = ⊥
AnswerOutcome command end status.NotStarted written name = ⊥
AnswerOutcome command end status.LockRefused written name = ⊥

-- ---- how a command asks

-- of the input that `import` did not read whole
abbrev pub EndsReading : Command → List ℕ → Status → Type 0
EndsReading (Import remote) read status.ReadFault = Unit {0}
EndsReading (Import remote) read status.Limit = input_limit < length read
EndsReading (Import remote) read status.NoMemory = Unit {0}
EndsReading command read ended = ⊥

-- what came back to the maker: by what was asked, and how that ended; or nothing
pub record AskBacks : Type 1 where
  pub asked : Asked → Result Told Untold → Type 0
  pub nothing : Type 0

-- the dialer came back, which has dialed once more, and that ended so
pub record DialerBack {D F H T S : Type 0} (dials : T → Option (List Dial)) (tell : Type 0) (old new : Option (List (Returned D F H T S)))
    (asked : Asked) (end : Result Told Untold) : Type 0 where
  pub before : T
  pub dialer : T
  pub back : TakesBack (returned.Dialer dialer) old new
  pub dialed : DialsOnce asked tell (dials before) (dials dialer) end

-- the input was not read whole, and no node is asked; or one is asked, once
pub data AskCourse (backs : AskBacks) (command : Command) (input : Stream) (read : List ℕ) (status : Status) (written name : List ℕ) : Type 0 where
  unasked : EndsReading command read status → written ≡ [] → backs.nothing → AskCourse backs command input read status written name
  asked : (asks : Asked) (end : Result Told Untold) → Asks command input read asks → backs.asked asks end → AnswerOutcome command end status written name
      → AskCourse backs command input read status written name

-- the maker's count of the network rose with NetworkFault alone, and the others stayed
abbrev pub CountsNetwork : Counts → Counts → Status → Type 0
CountsNetwork old new status.NetworkFault = NetworkRose old new
CountsNetwork old new other = new ≡ old

-- WHAT A COMMAND THAT ASKS COMES TO
pub record AskOutcome (backs : AskBacks) (command : Command) (input output : Stream) (counts counts_after : Counts) (status : Status)
    (name : List ℕ) : Type 0 where
  pub read : List ℕ
  pub written : List ℕ
  pub reads : Gives input read
  pub writes : Takes output written
  pub cause : HasCause input output status
  pub network : CountsNetwork counts counts_after status
  pub went : AskCourse backs command input read status written name
