-- Replies.
use Rattle.std.proofs.Common.{ℕ, ◌<◌, length, arith}
use Rattle.fuse_msgs.specs.declared.reply.Reply.{Reply}
use Rattle.lf_base.specs.Endian.{le32, le64}
use Rattle.fuse_msgs.specs.Reply.{reply_bytes}

pub some_bytes : (r : Reply) (unique : ℕ) → 0 < length (reply_bytes r unique)
unfolding reply_bytes le32 le64
some_bytes r unique = omega arith
