-- The frames of a stream, read one behind another.
use Rattle.std.specs.Prelude.{◌≡◌, ◌⊎◌, ℕ, List, ◌++◌}
use Rattle.std.specs.Io.KnownBytes.{IsAtEnd}
use Rattle.lf_base.specs.declared.link.Link.{Ghosts as LinkGhosts}
use Rattle.http_exchange.specs.Reading.{Gave}
use Rattle.http_exchange.specs.declared.told.Untold.{Untold}
use Rattle.http_exchange.specs.declared.told.Untold.TheVariants as untold
use Rattle.stream_wire.specs.Frame.{frame_text}
use Rattle.stream_wire.specs.Front.{part, broken, BeginsWith}
use Rattle.stream_wire.specs.declared.frame.Frame.{Frame}
use Rattle.stream_wire.specs.declared.wire_fault.WireFault.{WireFault}
use Rattle.backup_link.specs.Endings.{untold_of}

-- the most bytes of a frame's body: 2 GiB
abbrev pub frame_limit : ℕ
frame_limit = 2147483648

-- the bytes begin no frame, for this reason
pub record Breaks (bytes : List ℕ) (why : Untold) : Type 0 where
  pub fault : WireFault
  pub begins : BeginsWith frame_limit bytes (broken fault)
  pub why_is : why ≡ untold_of fault

-- why no frame was read, by the bytes that came and whether the input was at its end
abbrev pub UntellsFrame : List ℕ → Type 0 → Untold → Type 0
UntellsFrame bytes ended untold.Unfit = Breaks bytes untold.Unfit ⊎ BeginsWith frame_limit bytes part × ended
UntellsFrame bytes ended untold.TooLong = Breaks bytes untold.TooLong
UntellsFrame bytes ended untold.Fault = BeginsWith frame_limit bytes part
UntellsFrame bytes ended untold.Turns = Unit {0}
UntellsFrame bytes ended untold.NoMemory = Unit {0}

-- a frame was read; these bytes were read ahead before, and these are now
pub record GaveFrame {L : Type 0} (l : LinkGhosts L) (old new : L) (ahead ahead_now : List ℕ) (frame : Frame) : Type 0 where
  pub more : List ℕ
  pub gave : Gave l old new more
  pub next : ahead ++ more ≡ frame_text frame ++ ahead_now

-- no frame was read
pub record GaveNoFrame {L : Type 0} (l : LinkGhosts L) (old new : L) (ahead : List ℕ) (why : Untold) : Type 0 where
  pub more : List ℕ
  pub gave : Gave l old new more
  pub why_is : UntellsFrame (ahead ++ more) (IsAtEnd (l.left new)) why
