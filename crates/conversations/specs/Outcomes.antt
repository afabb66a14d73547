-- What becomes of a request.
use Rattle.std.specs.Prelude.{Option, Some, None}
use Rattle.fuse_msgs.specs.declared.reply.Reply.{Reply}
use Rattle.fuse_msgs.specs.declared.reply.Reply.TheVariants as reply
use Rattle.lf_base.specs.declared.errno.Errno.{Errno}
use Rattle.file_view.specs.declared.fault.ViewFault.{ViewFault}
use Rattle.file_view.specs.declared.fault.ViewFault.TheVariants as fault
use Rattle.conversations.specs.declared.outcome.Outcome.{Outcome}

-- the error number of a refusal: EIO for a page that was not read, ENOMEM for want of memory
abbrev pub number_of : ViewFault → Errno
number_of (fault.Errno number) = number
number_of (fault.Page _) = record { 0 = 5 }
number_of fault.NoMemory = record { 0 = 12 }

-- a request that committed nothing
abbrev pub without_commit : Option Reply → Outcome
without_commit reply = record { reply = reply; change = None }

-- a request that was refused
abbrev pub refused : ViewFault → Outcome
refused fault = without_commit (Some (reply.Error (number_of fault)))
