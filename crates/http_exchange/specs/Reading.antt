-- Bytes that a link gave.
use Rattle.std.specs.Prelude.{◌≡◌, ℕ, ◌<◌, ◌≤◌, List, [], ◌++◌, length, take, Result, Ok, Err}
use Rattle.std.specs.Io.KnownBytes.{Appends, Consumes, IsAtEnd, Keeps}
use Rattle.lf_base.specs.Faults.{Rose}
use Rattle.lf_base.specs.declared.link.Link.{Ghosts as LinkGhosts}
use Rattle.lf_base.specs.declared.session_end.SessionEnd.{SessionEnd}
use Rattle.lf_base.specs.declared.session_end.SessionEnd.TheVariants as ends

-- the link gave these bytes, and took none
pub record Gave {L : Type 0} (l : LinkGhosts L) (old new : L) (bytes : List ℕ) : Type 0 where
  pub left : Consumes (l.left old) (l.left new) bytes
  pub given : Appends (l.given old) (l.given new) bytes
  pub taken : Keeps (l.taken old) (l.taken new)

-- bytes came behind those that are held
pub record GaveMore {L : Type 0} (l : LinkGhosts L) (old new : L) (held held_now : List ℕ) : Type 0 where
  pub more : List ℕ
  pub gave : Gave l old new more
  pub behind : held_now ≡ held ++ more

-- some bytes came
abbrev pub GaveSome : {L : Type 0} → LinkGhosts L → L → L → Type 0
GaveSome l old new = (bytes : List ℕ) × Gave l old new bytes

-- what became of reading on: more came; or none did, at the input's end, after a fault, without a turn; or memory ran out
abbrev pub EndsMore : {L T : Type 0} → LinkGhosts L → L → L → List ℕ → List ℕ → ℕ → Result T SessionEnd → Type 0
EndsMore l old new held held_now turns (Ok _) = GaveMore l old new held held_now × (l.faults new ≡ l.faults old)
EndsMore l old new held held_now turns (Err ends.Closed) = Gave l old new [] × IsAtEnd (l.left new) × (l.faults new ≡ l.faults old)
EndsMore l old new held held_now turns (Err ends.ReadFault) = Gave l old new [] × Rose (l.faults old) (l.faults new)
EndsMore l old new held held_now turns (Err ends.Turns) = Gave l old new [] × (turns ≡ 0) × (l.faults new ≡ l.faults old)
EndsMore l old new held held_now turns (Err ends.NoMemory) = GaveSome l old new × (l.faults new ≡ l.faults old)
EndsMore l old new held held_now turns (Err _) = ⊥

-- bytes came behind those that are held, and all of them are at least so many
pub record GaveEnough {L : Type 0} (l : LinkGhosts L) (old new : L) (held : List ℕ) (len : ℕ) : Type 0 where
  pub more : List ℕ
  pub gave : Gave l old new more
  pub enough : len ≤ length (held ++ more)

-- the same, and so many of them are kept
abbrev pub KeepsEnough : {L : Type 0} → LinkGhosts L → L → L → List ℕ → ℕ → List ℕ → Type 0
KeepsEnough l old new held len kept = (gave : GaveEnough l old new held len) × (kept ≡ take len (held ++ gave.more))

-- they are fewer
pub record GaveFewer {L : Type 0} (l : LinkGhosts L) (old new : L) (held : List ℕ) (len : ℕ) : Type 0 where
  pub more : List ℕ
  pub gave : Gave l old new more
  pub fewer : length (held ++ more) < len

-- why they are fewer; and what became of the count of faults
abbrev pub EndsFewer : {L T : Type 0} → LinkGhosts L → L → L → List ℕ → ℕ → ℕ → Result T SessionEnd → Type 0
EndsFewer l old new held len turns (Ok _) = l.faults new ≡ l.faults old
EndsFewer l old new held len turns (Err ends.BadMessage) = GaveFewer l old new held len × IsAtEnd (l.left new) × (l.faults new ≡ l.faults old)
EndsFewer l old new held len turns (Err ends.ReadFault) = GaveFewer l old new held len × Rose (l.faults old) (l.faults new)
EndsFewer l old new held len turns (Err ends.Turns) = GaveFewer l old new held len × (turns ≡ 0) × (l.faults new ≡ l.faults old)
EndsFewer l old new held len turns (Err ends.NoMemory) = GaveSome l old new × (l.faults new ≡ l.faults old)
EndsFewer l old new held len turns (Err _) = ⊥

-- the end where the input ends inside a message
abbrev pub inside : SessionEnd → SessionEnd
inside ends.Closed = ends.BadMessage
inside end = end
