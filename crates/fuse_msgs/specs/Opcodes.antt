-- The opcodes of fuse.h's `enum fuse_opcode` that are served.
use Rattle.std.specs.Prelude.{ℕ, Option, Some, None, ◌==◌, if◌then◌else◌}
use Rattle.fuse_msgs.specs.declared.opcode.Opcode.{Opcode}
use Rattle.fuse_msgs.specs.declared.opcode.Opcode.TheVariants as opcode
use Rattle.fuse_msgs.specs.declared.request.Op.{Op}
use Rattle.fuse_msgs.specs.declared.request.Op.TheVariants as op

-- the number of each opcode
abbrev pub number_of : Opcode → ℕ
number_of opcode.Lookup = 1
number_of opcode.Forget = 2
number_of opcode.Getattr = 3
number_of opcode.Setattr = 4
number_of opcode.Unlink = 10
number_of opcode.Open = 14
number_of opcode.Read = 15
number_of opcode.Write = 16
number_of opcode.Release = 18
number_of opcode.Fsync = 20
number_of opcode.Flush = 25
number_of opcode.Init = 26
number_of opcode.Getlk = 31
number_of opcode.Setlk = 32
number_of opcode.Setlkw = 33
number_of opcode.Create = 35
number_of opcode.Destroy = 38

-- the opcode of a number, if it is served
abbrev pub opcode_named : ℕ → Option Opcode
opcode_named number =
    if number == 1 then Some opcode.Lookup else
    if number == 2 then Some opcode.Forget else
    if number == 3 then Some opcode.Getattr else
    if number == 4 then Some opcode.Setattr else
    if number == 10 then Some opcode.Unlink else
    if number == 14 then Some opcode.Open else
    if number == 15 then Some opcode.Read else
    if number == 16 then Some opcode.Write else
    if number == 18 then Some opcode.Release else
    if number == 20 then Some opcode.Fsync else
    if number == 25 then Some opcode.Flush else
    if number == 26 then Some opcode.Init else
    if number == 31 then Some opcode.Getlk else
    if number == 32 then Some opcode.Setlk else
    if number == 33 then Some opcode.Setlkw else
    if number == 35 then Some opcode.Create else
    if number == 38 then Some opcode.Destroy else None

-- the opcode of an operation
abbrev pub opcode_of : Op → Opcode
opcode_of (op.Lookup name) = opcode.Lookup
opcode_of op.Forget = opcode.Forget
opcode_of op.Getattr = opcode.Getattr
opcode_of (op.Setattr size owner) = opcode.Setattr
opcode_of (op.Unlink name) = opcode.Unlink
opcode_of op.Open = opcode.Open
opcode_of (op.Read fh at size owner) = opcode.Read
opcode_of (op.Write fh at owner bytes) = opcode.Write
opcode_of (op.Release fh owner) = opcode.Release
opcode_of (op.Fsync fh) = opcode.Fsync
opcode_of (op.Flush fh owner) = opcode.Flush
opcode_of (op.Init major minor) = opcode.Init
opcode_of (op.Getlk fh owner start end kind) = opcode.Getlk
opcode_of (op.Setlk fh owner start end kind) = opcode.Setlk
opcode_of (op.Setlkw fh owner start end kind) = opcode.Setlkw
opcode_of (op.Create name) = opcode.Create
opcode_of op.Destroy = opcode.Destroy
