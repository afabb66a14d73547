-- What a frame takes of the bytes within reach.
use Rattle.std.proofs.Common.{ℕ, ◌<◌, List, length, arith}
use Rattle.link_session.specs.Frames.{IsFrame}

-- a frame has bytes
pub frame_has_bytes : (limit : ℕ) (text : List ℕ) → IsFrame limit text → 0 < length text
frame_has_bytes limit text f = omega (arith, f.begins.4)
