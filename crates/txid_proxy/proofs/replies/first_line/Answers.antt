use Rattle.std.proofs.Common.{refl}
use Rattle.stream_wire.specs.Writing.{blank, end_line, status_digits, status_line, version}
use Rattle.txid_proxy.proofs.replies.first_line.Goals as goal

pub returns-in-NotPrimary : goal.returns-in-NotPrimary
unfolding status_line version blank status_digits end_line
returns-in-NotPrimary c = rw c.in-NotPrimary.is refl

pub returns-in-Behind : goal.returns-in-Behind
unfolding status_line version blank status_digits end_line
returns-in-Behind c = rw c.in-Behind.is refl
