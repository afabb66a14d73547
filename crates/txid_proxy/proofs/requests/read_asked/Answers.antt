use Rattle.std.proofs.Common.{subst}
use Rattle.txid_proxy.specs.declared.asked.Asked.{Asked}
use Rattle.txid_proxy.specs.Requests.{BeginsNone, IsPart}
use Rattle.txid_proxy.proofs.Judged.{asked_ends, none_in}
use Rattle.txid_proxy.proofs.requests.read_asked.Goals as goal

pub returns-in-Err-Broken-clause-cause : goal.returns-in-Err-Broken-clause-cause
returns-in-Err-Broken-clause-cause g c = (
  none_in (g.L.Link.left c.args.link.now) (g.L.Link.left c.reads.link) c.reads.held.items c.reads.invariant.gave.left
      (subst BeginsNone c.as_slice.ensures.value (rw c.in-Err-Broken.field-0-is at c.in-Err-Broken.ensures)),
  c.reads.invariant.count,
)

pub returns-in-Err-read_more-clause-cause : goal.returns-in-Err-read_more-clause-cause
returns-in-Err-read_more-clause-cause g c = rw (c.unread_by.ensures, c.in-Err-read_more.ensures.kept)
    (asked_ends Asked g.L.Link c.args.link.now c.reads.link c.read_more.new.link c.reads.held.items c.read_more.new.held.items c.read_more.new.turns
    c.in-Err-read_more.end
    c.reads.invariant.gave c.reads.invariant.count (subst IsPart c.as_slice.ensures.value
    (rw c.in-Ok-Part.field-0-is at c.in-Ok-Part.ensures)) c.in-Err-read_more.ensures.end)
