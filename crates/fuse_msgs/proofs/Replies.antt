-- The fixed bodies of replies.
use Rattle.std.proofs.Common.{◌≤◌, length, lit≤}
use Rattle.fuse_msgs.specs.declared.reply.Reply.{Reply}
use Rattle.fuse_msgs.specs.declared.reply.Reply.TheVariants as reply
use Rattle.lf_base.specs.Endian.{le16, le32, le64}
use Rattle.fuse_msgs.specs.Fields.{zeros}
use Rattle.fuse_msgs.specs.Reply.{reply_body, HasFixedBody}

-- a fixed body has a length that fits its field
pub fixed_body_short : (r : Reply) → HasFixedBody r → length (reply_body r) ≤ 4294967279
unfolding le16 le32 le64 zeros
fixed_body_short (reply.Entry node size) h = lit≤ tt
fixed_body_short (reply.Attr node size) h = lit≤ tt
fixed_body_short (reply.Opened fh) h = lit≤ tt
fixed_body_short (reply.Bytes bytes) h = absurd h
fixed_body_short (reply.Written size) h = lit≤ tt
fixed_body_short reply.Init h = lit≤ tt
fixed_body_short (reply.Lock start end kind) h = lit≤ tt
fixed_body_short (reply.Created node size fh) h = lit≤ tt
fixed_body_short reply.Empty h = lit≤ tt
fixed_body_short (reply.Error errno) h = absurd h
