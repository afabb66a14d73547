-- What the bytes of a reply say in answer to an operation.
use Rattle.std.specs.Prelude.{ℕ, ◌+◌, ◌-◌, ◌^◌, ◌==◌, ◌&&◌, not, nat_lt, nat_le, Bool, List, length, drop, Option, Some, None, Result, Ok, Err, if◌then◌else◌}
use Rattle.fuse_msgs.specs.declared.request.Op.{Op}
use Rattle.fuse_msgs.specs.declared.request.Op.TheVariants as op
use Rattle.fuse_msgs.specs.declared.request.LockWish.{LockWish}
use Rattle.fuse_msgs.specs.declared.request.LockWish.TheVariants as wish
use Rattle.fuse_msgs.specs.declared.reply.Reply.{Reply}
use Rattle.fuse_msgs.specs.declared.reply.Reply.TheVariants as reply
use Rattle.lf_base.specs.Endian.{le32_at, le64_at}
use Rattle.run_child.specs.declared.replies.BadReply.{BadReply}
use Rattle.run_child.specs.declared.replies.BadReply.TheVariants as bad

-- the fields of a `fuse_out_header`: len 4, error 4, unique 8; and what follows it
abbrev pub len_of : List ℕ → ℕ
len_of bytes = le32_at 0 bytes

abbrev pub error_of : List ℕ → ℕ
error_of bytes = le32_at 4 bytes

abbrev pub unique_of : List ℕ → ℕ
unique_of bytes = le64_at 8 bytes

abbrev pub body_of : List ℕ → List ℕ
body_of bytes = drop 16 bytes

-- how many bytes the body of the reply to each operation has; of a READ at most
abbrev pub body_size : Op → ℕ
body_size (op.Lookup name) = 128
body_size op.Getattr = 104
body_size (op.Setattr size owner) = 104
body_size op.Open = 16
body_size (op.Read fh at size owner) = size
body_size (op.Write fh at owner bytes) = 8
body_size (op.Init major minor) = 64
body_size (op.Getlk fh owner start end kind) = 24
body_size (op.Create name) = 144
body_size _ = 0

-- the answer, of a body that has this size
abbrev pub sized : ℕ → List ℕ → Reply → Result Reply BadReply
sized size body answer = if length body == size then Ok answer else Err bad.Body

-- a lock's type
abbrev pub wish_named : ℕ → Option LockWish
wish_named number =
    if number == 0 then Some wish.Read else
    if number == 1 then Some wish.Write else
    if number == 2 then Some wish.Unlock else None

-- the lock of a `fuse_lk_out`, of a type that there is
abbrev pub lock_said : ℕ → ℕ → Option LockWish → Result Reply BadReply
lock_said start end (Some kind) = Ok (reply.Lock start end kind)
lock_said start end None = Err bad.Body

-- what a body says. A FORGET has no reply
abbrev pub said : Op → List ℕ → Result Reply BadReply
said (op.Lookup name) body = sized 128 body (reply.Entry (le64_at 0 body) (le64_at 48 body))
said op.Forget body = Err bad.Body
said op.Getattr body = sized 104 body (reply.Attr (le64_at 16 body) (le64_at 24 body))
said (op.Setattr size owner) body = sized 104 body (reply.Attr (le64_at 16 body) (le64_at 24 body))
said (op.Unlink name) body = sized 0 body reply.Empty
said op.Open body = sized 16 body (reply.Opened (le64_at 0 body))
said (op.Read fh at size owner) body = if nat_le (length body) size then Ok (reply.Bytes body) else Err bad.Body
said (op.Write fh at owner bytes) body = sized 8 body (reply.Written (le32_at 0 body))
said (op.Release fh owner) body = sized 0 body reply.Empty
said (op.Fsync fh) body = sized 0 body reply.Empty
said (op.Flush fh owner) body = sized 0 body reply.Empty
said (op.Init major minor) body = sized 64 body reply.Init
said (op.Getlk fh owner start end kind) body =
    if length body == 24 then lock_said (le64_at 0 body) (le64_at 8 body) (wish_named (le32_at 16 body)) else Err bad.Body
said (op.Setlk fh owner start end kind) body = sized 0 body reply.Empty
said (op.Setlkw fh owner start end kind) body = sized 0 body reply.Empty
said (op.Create name) body = sized 144 body (reply.Created (le64_at 0 body) (le64_at 48 body) (le64_at 128 body))
said op.Destroy body = sized 0 body reply.Empty

-- whether a field is a negated error number, 1 to 4,095
abbrev pub is_errno : ℕ → Bool
is_errno field = nat_le 4294963201 field

-- the error of a field, behind which no body stands
abbrev pub refused : ℕ → List ℕ → Result Reply BadReply
refused field body =
    if is_errno field && (length body == 0) then Ok (reply.Error (record { 0 = 4294967296 - field })) else Err bad.Body

-- what all the bytes say to a request that has a reply
abbrev pub answered : Op → List ℕ → Result Reply BadReply
answered asked bytes = if error_of bytes == 0 then said asked (body_of bytes) else refused (error_of bytes) (body_of bytes)

-- what bytes say in answer to an operation, or the first thing that is wrong with them
unfoldable pub reading : Op → List ℕ → Result Reply BadReply
reading asked bytes =
    if nat_lt (length bytes) 16 then Err bad.Short else
    if not (len_of bytes == length bytes) then Err bad.Length else
    answered asked bytes

-- how many bytes a reply has that begins so: its head alone, until that says that a body follows
abbrev pub awaited : Op → List ℕ → ℕ
awaited asked bytes =
    if nat_lt (length bytes) 16 then 16 else
    if len_of bytes == 16 + body_size asked then 16 + body_size asked else 16

-- whether reading the reply may take memory
abbrev pub TakesBytes : Op → Type 0
TakesBytes (op.Read fh at size owner) = Unit {0}
TakesBytes _ = ⊥
