-- The plan of a request that may commit. No public clause cites it.
use Rattle.std.specs.Prelude.{Option, Some, None}
use Rattle.fuse_msgs.specs.declared.reply.Reply.{Reply}
use Rattle.lf_sqlite_pages.specs.Change.{PageChange}
use Rattle.file_view.specs.declared.requests.Plan.{Plan}
use Rattle.file_view.specs.declared.requests.Plan.TheVariants as plan

abbrev pub planned : Reply → Option PageChange → Plan
planned reply None = plan.Reply reply
planned reply (Some change) = plan.Commit reply change
