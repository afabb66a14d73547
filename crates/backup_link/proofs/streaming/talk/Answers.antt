use Rattle.std.proofs.Common.{[]}
use Rattle.backup_link.proofs.Keeps.{keeps_none}
use Rattle.backup_link.proofs.Talking.{talk_sent, talk_unsent}
use Rattle.backup_link.proofs.streaming.talk.Goals as goal

pub returns-in-Err-clause-talks : goal.returns-in-Err-clause-talks
returns-in-Err-clause-talks g c = (
  [],
  keeps_none _ _,
  talk_unsent g.L.Link _ _ c.args.link.now c.send_request.new.link c.in-Err.why c.send_request.ensures.given c.in-Err.ensures.front c.in-Err.ensures.stops,
)

pub returns-clause-talks : goal.returns-clause-talks
returns-clause-talks g c =
    let replies = c.read_reply.ensures.replies in (
      replies.files,
      replies.kept,
      talk_sent g.L.Link _ _ c.args.link.now c.send_request.new.link c.read_reply.new.link _ c.read_reply.result c.send_request.ensures.given c.in-Ok.ensures.whole replies,
    )
