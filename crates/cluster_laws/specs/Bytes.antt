-- What a READ of the database file is answered with.
use Rattle.std.specs.Prelude.{◌≡◌, ℕ, List, Option, Some}
use Rattle.byte_locks.specs.declared.lock_bytes.FileKind.{FileKind}
use Rattle.byte_locks.specs.declared.lock_bytes.FileKind.TheVariants as file
use Rattle.database_file.specs.DatabaseFile.{bytes_from}
use Rattle.file_handles.specs.Nodes.{file_at}
use Rattle.fuse_msgs.specs.declared.reply.Reply.{Reply}
use Rattle.fuse_msgs.specs.declared.reply.Reply.TheVariants as reply
use Rattle.fuse_msgs.specs.declared.request.Op.{Op}
use Rattle.fuse_msgs.specs.declared.request.Op.TheVariants as op
use Rattle.node_core.specs.declared.answer.Answer.{Answer}
use Rattle.node_core.specs.declared.answer.Answer.TheVariants as answers
use Rattle.node_core.specs.declared.ask.Ask.{Ask}
use Rattle.node_core.specs.declared.ask.Ask.TheVariants as asks

-- a READ of the database file that is replied to with bytes gives these contents, from its place on and at most its size
abbrev pub ReadGives : List ℕ → Option FileKind → Op → Reply → Type 0
ReadGives contents (Some file.Database) (op.Read fh place size owner) (reply.Bytes bytes) = bytes ≡ bytes_from contents place size
ReadGives contents kind operation answer = Unit {0}

abbrev pub GivesBytes : List ℕ → Ask → Answer → Type 0
GivesBytes contents (asks.File now request) (answers.Done answer) = ReadGives contents (file_at request.node) request.op answer
GivesBytes contents ask answer = Unit {0}
