-- The head of a reply, read byte by byte.
use Rattle.std.specs.Prelude.{◌≡◌, ◌⊎◌, ℕ, List, [], ◌∷◌, ◌++◌, length, Option}
use Rattle.std.specs.Io.KnownBytes.{IsAtEnd}
use Rattle.httparse.specs.Grammar.{HasNoResponse}
use Rattle.lf_base.specs.declared.link.Link.{Ghosts as LinkGhosts}
use Rattle.http_exchange.specs.Reading.{Gave}
use Rattle.http_exchange.specs.declared.told.Untold.{Untold}
use Rattle.http_exchange.specs.declared.told.Untold.TheVariants as untold
use Rattle.stream_wire.specs.Head.{IsResponse, NeverTakesResponse}

-- the bytes are a head of this status, and no more
abbrev pub IsWhole : ℕ → List ℕ → Type 0
IsWhole status head = (len : Option ℕ) × IsResponse head (length head) status len

-- why no head was read, by the bytes that came and whether the input was at its end
abbrev pub UntellsHead : List ℕ → Type 0 → Untold → Type 0
UntellsHead bytes ended untold.Unfit = NeverTakesResponse bytes ⊎ HasNoResponse bytes × ended
UntellsHead bytes ended untold.Fault = HasNoResponse bytes
UntellsHead bytes ended untold.Turns = HasNoResponse bytes
UntellsHead bytes ended untold.NoMemory = Unit {0}
UntellsHead bytes ended untold.TooLong = ⊥

-- one byte more was read; these were read ahead before, and these are now
pub record GaveByte {L : Type 0} (l : LinkGhosts L) (old new : L) (ahead ahead_now : List ℕ) (byte : ℕ) : Type 0 where
  pub more : List ℕ
  pub gave : Gave l old new more
  pub next : ahead ++ more ≡ byte ∷ ahead_now

-- no byte more came, at the input's end, by a fault, or for want of a turn
abbrev pub IsNoByte : Type 0 → Untold → Type 0
IsNoByte ended untold.Unfit = ended
IsNoByte ended untold.Fault = Unit {0}
IsNoByte ended untold.Turns = Unit {0}
IsNoByte ended _ = ⊥

pub record GaveNone {L : Type 0} (l : LinkGhosts L) (old new : L) (ahead : List ℕ) (why : Untold) : Type 0 where
  pub gave : Gave l old new []
  pub empty : ahead ≡ []
  pub why_is : IsNoByte (IsAtEnd (l.left new)) why

-- a head of this status was read, and some bytes ahead
pub record GaveHead {L : Type 0} (l : LinkGhosts L) (old new : L) (ahead : List ℕ) (status : ℕ) : Type 0 where
  pub head : List ℕ
  pub gave : Gave l old new (head ++ ahead)
  pub whole : IsWhole status head

-- no head was read
pub record GaveNoHead {L : Type 0} (l : LinkGhosts L) (old new : L) (why : Untold) : Type 0 where
  pub bytes : List ℕ
  pub gave : Gave l old new bytes
  pub why_is : UntellsHead bytes (IsAtEnd (l.left new)) why
