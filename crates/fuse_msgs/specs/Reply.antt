-- The bytes of a reply.
use Rattle.std.specs.Prelude.{ℕ, ◌+◌, ◌-◌, ◌/◌, ◌^◌, ◌≤◌, ◌==◌, List, [], ◌++◌, length, if◌then◌else◌}
use Rattle.fuse_msgs.specs.declared.reply.Reply.{Reply}
use Rattle.fuse_msgs.specs.declared.reply.Reply.TheVariants as reply
use Rattle.fuse_msgs.specs.declared.request.LockWish.{LockWish}
use Rattle.lf_base.specs.Endian.{le16, le32, le64}
use Rattle.fuse_msgs.specs.Fields.{zeros}
use Rattle.fuse_msgs.specs.Locks.{lock_type}

-- a file has mode 0100644, the root 040755
abbrev pub mode_of : ℕ → ℕ
mode_of node = if node == 1 then 0x41ED else 0x81A4

-- `fuse_attr`: ino, size, blocks of 512 bytes, three times 8 each; three nanosecond fields, mode, nlink, uid, gid,
-- rdev, blksize, padding 4 each. The times, uid, gid and rdev are 0.
abbrev pub attr : ℕ → ℕ → List ℕ
attr node size =
    le64 node ++ le64 size ++ le64 ((size + 511) / 512) ++ zeros 36 ++ le32 (mode_of node) ++ le32 1
    ++ zeros 12 ++ le32 4096 ++ zeros 4

-- `fuse_entry_out`: nodeid, generation, entry_valid, attr_valid 8 each; two nanosecond fields 4 each, attr. All validity is 0.
abbrev pub entry_out : ℕ → ℕ → List ℕ
entry_out node size = le64 node ++ zeros 32 ++ attr node size

-- `fuse_attr_out`: attr_valid 8, attr_valid_nsec 4, dummy 4, attr
abbrev pub attr_out : ℕ → ℕ → List ℕ
attr_out node size = zeros 16 ++ attr node size

-- `fuse_open_out`: fh 8, open_flags 4, padding 4. The flag is `FOPEN_DIRECT_IO`.
abbrev pub open_out : ℕ → List ℕ
open_out fh = le64 fh ++ le32 1 ++ zeros 4

-- `fuse_write_out`: size 4, padding 4
abbrev pub write_out : ℕ → List ℕ
write_out size = le32 size ++ zeros 4

-- `fuse_init_out` of this version: major, minor, max_readahead, flags 4 each; max_background, congestion_threshold 2 each;
-- max_write, time_gran 4 each; 36 zero bytes. The flag is `FUSE_POSIX_LOCKS`.
abbrev pub init_out : List ℕ
init_out =
    le32 7 ++ le32 31 ++ le32 0 ++ le32 2 ++ le16 16 ++ le16 12 ++ le32 131072 ++ le32 1 ++ zeros 36

-- `fuse_lk_out`: start 8, end 8 (the last byte), type 4, pid 4, which is 0
abbrev pub lk_out : ℕ → ℕ → LockWish → List ℕ
lk_out start end kind = le64 start ++ le64 end ++ le32 (lock_type kind) ++ zeros 4

-- what follows the header
abbrev pub reply_body : Reply → List ℕ
reply_body (reply.Entry node size) = entry_out node size
reply_body (reply.Attr node size) = attr_out node size
reply_body (reply.Opened fh) = open_out fh
reply_body (reply.Bytes bytes) = bytes
reply_body (reply.Written size) = write_out size
reply_body reply.Init = init_out
reply_body (reply.Lock start end kind) = lk_out start end kind
reply_body (reply.Created node size fh) = entry_out node size ++ open_out fh
reply_body reply.Empty = []
reply_body (reply.Error errno) = []

-- 0, or the negated number of an error as a signed number of four bytes
abbrev pub error_field : Reply → ℕ
error_field (reply.Error errno) = 2 ^ 32 - errno.0
error_field _ = 0

-- a `fuse_out_header`, of len 4, error 4, unique 8, and what follows it
abbrev pub out_message : ℕ → ℕ → List ℕ → List ℕ
out_message error unique body = le32 (16 + length body) ++ le32 error ++ le64 unique ++ body

-- the reply to the request of this number
unfoldable pub reply_bytes : Reply → ℕ → List ℕ
reply_bytes answer unique = out_message (error_field answer) unique (reply_body answer)

-- what has bytes: a length that fits its field, and an error number of Linux
abbrev pub IsReply : Reply → Type 0
IsReply (reply.Bytes bytes) = length bytes ≤ 2 ^ 32 - 17
IsReply (reply.Error errno) = (1 ≤ errno.0) × (errno.0 ≤ 4095)
IsReply _ = Unit {0}

-- a reply whose body has a fixed size, and that is no refusal
abbrev pub HasFixedBody : Reply → Type 0
HasFixedBody (reply.Bytes bytes) = ⊥
HasFixedBody (reply.Error errno) = ⊥
HasFixedBody _ = Unit {0}
