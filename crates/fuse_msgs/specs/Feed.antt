-- A stream of messages that comes in pieces.
use Rattle.std.specs.Prelude.{◌≡◌, ℕ, ◌-◌, ◌<◌, ◌≤◌, nat_lt, nat_le, Bool, true, false, List, [], ◌∷◌, ◌++◌, length, take, drop, Result, Ok, Err, if◌then◌else◌}
use Rattle.std.specs.List.{flat_map, AllByRecursion}
use Rattle.fuse_msgs.specs.declared.feed.Fed.{Fed}
use Rattle.fuse_msgs.specs.declared.feed.Fed.TheVariants as fed
use Rattle.fuse_msgs.specs.declared.fault.BadMessage.{BadMessage}
use Rattle.fuse_msgs.specs.declared.fault.BadMessage.TheVariants as bad
use Rattle.fuse_msgs.specs.Message.{len_of, is_length}

-- what a stream begins with: less than a message, a message of this length, or a length field that no message has
pub data Beginning : Type 0 where
  part : Beginning
  whole broken : ℕ → Beginning

-- a length field decides as soon as its four bytes are there
unfoldable pub beginning_of : List ℕ → Beginning
beginning_of stream =
    if nat_lt (length stream) 4 then part else
    if is_length (len_of stream) then (if nat_le (len_of stream) (length stream) then whole (len_of stream) else part) else
    broken (len_of stream)

-- whether a message is whole
abbrev pub is_whole_beginning : Beginning → Bool
is_whole_beginning (whole len) = true
is_whole_beginning _ = false

abbrev pub is_whole : List ℕ → Bool
is_whole stream = is_whole_beginning (beginning_of stream)

-- the bytes of the unfinished message
abbrev pub unfinished : List ℕ → List ℕ
unfinished held = if is_whole held then [] else held

-- what feeding answers where the stream begins so, with so many bytes of it held before
abbrev pub answer_at : ℕ → Beginning → Result Fed BadMessage
answer_at before part = Ok fed.More
answer_at before (whole len) = Ok (fed.Whole (len - before))
answer_at before (broken len) = Err (bad.Length len)

-- how many bytes of a piece of this length are taken then: to the end of the message, or of the length field
abbrev pub taken_at : ℕ → ℕ → Beginning → ℕ
taken_at before more part = more
taken_at before more (whole len) = len - before
taken_at before more (broken len) = 4 - before

-- what feeding a piece answers behind what is held
abbrev pub feed_answer : List ℕ → List ℕ → Result Fed BadMessage
feed_answer held piece = answer_at (length held) (beginning_of (held ++ piece))

-- what is held after feeding a piece
abbrev pub fed_on : List ℕ → List ℕ → List ℕ
fed_on held piece = held ++ take (taken_at (length held) (length piece) (beginning_of (held ++ piece))) piece

-- whether an answer says that a message is whole
abbrev pub says_whole : Result Fed BadMessage → Bool
says_whole (Ok (fed.Whole used)) = true
says_whole _ = false

-- where a message is whole, some of the piece's bytes were used, and at most all
abbrev pub UsesSome : Result Fed BadMessage → ℕ → Type 0
UsesSome (Ok (fed.Whole used)) more = (0 < used) × (used ≤ more)
UsesSome _ more = Unit {0}

-- what is held then and what was not taken of the piece are the stream
abbrev pub TakesAll : List ℕ → List ℕ → List ℕ → Fed → Type 0
TakesAll old piece new fed.More = new ≡ old ++ piece
TakesAll old piece new (fed.Whole used) = new ++ drop used piece ≡ old ++ piece

-- the stream begins with a length field that no message has, and that is the fault
pub record BeginsRefused (stream : List ℕ) (fault : BadMessage) : Type 0 where
  pub field : 4 ≤ length stream
  pub refused : is_length (len_of stream) ≡ false
  pub fault_is : fault ≡ bad.Length (len_of stream)

-- ---- a whole run

-- the message that is held, where it is whole
abbrev pub finished : List ℕ → List (List ℕ)
finished held = if is_whole held then held ∷ [] else []

-- the bytes that feeding a piece takes
abbrev pub taken_of : List ℕ → List ℕ → List ℕ
taken_of held piece = take (taken_at (length held) (length piece) (beginning_of (held ++ piece))) piece

-- the bytes that feeding the pieces takes, where each whole message is cleared before the next piece
abbrev pub bytes_taken : List ℕ → List (List ℕ) → List ℕ
bytes_taken held [] = []
bytes_taken held (piece ∷ pieces) = taken_of held piece ++ bytes_taken (unfinished (fed_on held piece)) pieces

-- the messages that it gives
abbrev pub messages_of : List ℕ → List (List ℕ) → List (List ℕ)
messages_of held [] = []
messages_of held (piece ∷ pieces) = finished (fed_on held piece) ++ messages_of (unfinished (fed_on held piece)) pieces

-- what it leaves
abbrev pub left_of : List ℕ → List (List ℕ) → List ℕ
left_of held [] = held
left_of held (piece ∷ pieces) = left_of (unfinished (fed_on held piece)) pieces

-- a whole message and no more
abbrev pub IsWholeMessage : List ℕ → Type 0
IsWholeMessage stream = beginning_of stream ≡ whole (length stream)

-- a stream is these messages one after another, and a rest that begins with no whole message
pub record Splits (stream : List ℕ) (messages : List (List ℕ)) (rest : List ℕ) : Type 0 where
  pub stream_is : stream ≡ flat_map (λ message. message) messages ++ rest
  pub each : AllByRecursion IsWholeMessage messages
  pub partial : is_whole rest ≡ false
