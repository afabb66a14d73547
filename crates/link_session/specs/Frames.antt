-- Frames of a stream as a feed.
use Rattle.std.specs.Prelude.{◌≡◌, ℕ, List, [], ◌++◌, length, Option, Some, None}
use Rattle.stream_wire.specs.declared.frame.Frame.{Frame}
use Rattle.stream_wire.specs.declared.wire_fault.WireFault.{WireFault}
use Rattle.stream_wire.specs.Frame.{frame_text}
use Rattle.stream_wire.specs.Front.{part, whole, broken, BeginsWith}
use Rattle.stream_wire.specs.Feeding.{Feeding}
use Rattle.link_session.specs.declared.stage.Stage.{Stage}
use Rattle.link_session.specs.declared.stage.Stage.TheVariants as stages

-- the bytes of the frame that is whole, else those of the unfinished one
abbrev pub bytes_of : Option Frame → List ℕ → List ℕ
bytes_of (Some frame) held = frame_text frame
bytes_of None held = held

abbrev pub held_by : Feeding → List ℕ
held_by feed = bytes_of feed.ready feed.held

-- by the fault that was met, the frame that is whole, and the bytes of an unfinished one
abbrev pub frame_stage : Option WireFault → Option Frame → List ℕ → Stage
frame_stage None None held = stages.Open
frame_stage None (Some frame) [] = stages.Whole
frame_stage _ _ _ = stages.Refused

-- the bytes of a frame: what began a stream, up to its end
pub record IsFrame (limit : ℕ) (text : List ℕ) : Type 0 where
  pub more : List ℕ
  pub begins : BeginsWith limit (text ++ more) (whole (length text))
  pub frame : Frame
  pub bytes : frame_text frame ≡ text

abbrev pub IsFramePart : ℕ → List ℕ → Type 0
IsFramePart limit text = BeginsWith limit text part

abbrev pub IsBrokenFrame : ℕ → List ℕ → Type 0
IsBrokenFrame limit text = (fault : WireFault) × BeginsWith limit text (broken fault)
