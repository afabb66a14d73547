-- Frames from bytes that come in pieces.
use Rattle.std.specs.Prelude.{◌≡◌, ℕ, ◌+◌, ◌≤◌, List, [], ◌++◌, length, take, Option, Some, None, Result, Ok, Err}
use Rattle.stream_wire.specs.declared.frame.Frame.{Frame}
use Rattle.stream_wire.specs.declared.feed.Fed.{Fed}
use Rattle.stream_wire.specs.declared.feed.Fed.TheVariants.{More, Whole}
use Rattle.stream_wire.specs.declared.wire_fault.WireFault.{WireFault}
use Rattle.stream_wire.specs.declared.wire_fault.WireFault.TheVariants.{NoMemory}
use Rattle.stream_wire.specs.Frame.{frame_text}
use Rattle.stream_wire.specs.Front.{part, whole, broken, BeginsWith}

-- the most bytes of a body, the bytes of the unfinished frame, the frame that the last piece ended, and the fault that was met
pub record Feeding : Type 0 where
  pub limit : ℕ
  pub held : List ℕ
  pub ready : Option Frame
  pub met : Option WireFault

abbrev pub holding : ℕ → List ℕ → Feeding
holding limit bytes = record { limit = limit; held = bytes; ready = None; met = None }

abbrev pub giving : ℕ → Frame → Feeding
giving limit frame = record { limit = limit; held = []; ready = Some frame; met = None }

abbrev pub refusing : ℕ → WireFault → Feeding
refusing limit fault = record { limit = limit; held = []; ready = None; met = Some fault }

-- the first bytes of a piece end this frame
pub record EndsFrame (limit : ℕ) (held piece : List ℕ) (count : ℕ) (frame : Frame) : Type 0 where
  pub within : count ≤ length piece
  pub ends : BeginsWith limit (held ++ piece) (whole (length held + count))
  pub text : frame_text frame ≡ held ++ take count piece

-- the bytes held after a refusal: as before where memory ran out, else none
abbrev pub LeavesBehind : ℕ → List ℕ → List ℕ → List ℕ → WireFault → Type 0
LeavesBehind limit held piece left NoMemory = left ≡ held
LeavesBehind limit held piece left f = BeginsWith limit (held ++ piece) (broken f) × (left ≡ [])

-- what feeding a piece answers and leaves, by all bytes of the frame so far. After want of memory the bytes held are as before
abbrev pub Feeds : Feeding → List ℕ → Result Fed WireFault → Feeding → Type 0
Feeds old piece (Ok More) new =
    BeginsWith old.limit (old.held ++ piece) part × (new ≡ holding old.limit (old.held ++ piece))
Feeds old piece (Ok (Whole used)) new =
    (frame : Frame) × EndsFrame old.limit old.held piece used frame × (new ≡ giving old.limit frame)
Feeds old piece (Err NoMemory) new = new ≡ holding old.limit old.held
Feeds old piece (Err fault) new =
    BeginsWith old.limit (old.held ++ piece) (broken fault) × (new ≡ refusing old.limit fault)
