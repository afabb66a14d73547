-- The bodies of requests are short.
use Rattle.std.proofs.Common.{ℕ, ◌+◌, ◌≤◌, length, arith}
use Rattle.std.proofs.lemmas.List.{length-append}
use Rattle.fuse_msgs.specs.declared.request.Request.{Request}
use Rattle.fuse_msgs.specs.Opcodes.{number_of, opcode_of}
use Rattle.fuse_msgs.specs.Message.{IsMessage}
use Rattle.fuse_msgs.specs.Encoding.{body_bytes, in_header, request_bytes}

-- a message has a length that fits its field, and so has its body
pub body_short : (r : Request) → IsMessage (request_bytes r) r → length (body_bytes r.op) ≤ 135168
body_short r m = omega (arith, m.limit, length-append (in_header (40 + length (body_bytes r.op)) (number_of (opcode_of r.op)) r.unique r.node r.pid) (body_bytes r.op))
