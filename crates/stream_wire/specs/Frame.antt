-- Frames of a stream (layout of this project): kind 4, name length 4, body length 8, all big-endian; the name; the body.
use Rattle.std.specs.Prelude.{ℕ, ◌^◌, ◌<◌, List, [], ◌++◌, length}
use Rattle.std.specs.Int.{w32, w64, to_be_bytes}
use Rattle.lf_base.specs.Name.{IsName}
use Rattle.lf_base.specs.declared.pos.Pos.{Pos}
use Rattle.stream_wire.specs.declared.frame.Frame.{Frame}
use Rattle.stream_wire.specs.declared.frame.Frame.TheVariants as frame

-- a number of four bytes, and one of eight, big-endian
unfoldable pub be32 : ℕ → List ℕ
be32 n = to_be_bytes w32 n

unfoldable pub be64 : ℕ → List ℕ
be64 n = to_be_bytes w64 n

-- the bytes of a frame of this kind, name and body
unfoldable pub frame_of : ℕ → List ℕ → List ℕ → List ℕ
frame_of kind name body = be32 kind ++ be32 (length name) ++ be64 (length body) ++ name ++ body

-- all of it but the body, which has so many bytes
unfoldable pub front_of : ℕ → List ℕ → ℕ → List ℕ
front_of kind name count = be32 kind ++ be32 (length name) ++ be64 count ++ name

abbrev pub kind_of : Frame → ℕ
kind_of (frame.Ltx name bytes) = 1
kind_of (frame.Ready name pos) = 2
kind_of frame.End = 3
kind_of (frame.Drop name) = 4

abbrev pub name_of : Frame → List ℕ
name_of (frame.Ltx name bytes) = name
name_of (frame.Ready name pos) = name
name_of frame.End = []
name_of (frame.Drop name) = name

-- a position as a body
unfoldable pub pos_body : Pos → List ℕ
pos_body pos = be64 pos.txid ++ be64 pos.sum

abbrev pub body_of : Frame → List ℕ
body_of (frame.Ltx name bytes) = bytes
body_of (frame.Ready name pos) = pos_body pos
body_of frame.End = []
body_of (frame.Drop name) = []

-- the bytes of a frame
abbrev pub frame_text : Frame → List ℕ
frame_text f = frame_of (kind_of f) (name_of f) (body_of f)

-- the parts of a frame: names of databases, and numbers of 64 bits
abbrev pub FitsFrame : Frame → Type 0
FitsFrame (frame.Ltx name bytes) = IsName name × (length bytes < 2 ^ 64)
FitsFrame (frame.Ready name pos) = IsName name × (pos.txid < 2 ^ 64) × (pos.sum < 2 ^ 64)
FitsFrame frame.End = Unit {0}
FitsFrame (frame.Drop name) = IsName name
