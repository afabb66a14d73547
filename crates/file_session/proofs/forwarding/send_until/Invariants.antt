use Rattle.std.proofs.Common.{◌≤◌, ◌-◌}
use Rattle.stream_wire.specs.declared.call.Call.TheVariants as call
use Rattle.http_exchange.specs.Exchange.{LinksTell}
use Rattle.file_session.specs.Forwarding.{AreHeldBack}
use Rattle.file_session.specs.Primary.{phone, request}
use Rattle.file_session.proofs.forwarding.send_until.Given as goal

abbrev pub invariant-tries : goal.invariant-tries
invariant-tries g l = record {
  most : l.held_back ≤ 99;
  before : AreHeldBack (LinksTell g.T.L.Link.given g.T.L.Link.taken) (request call.Tx l.line l.file) (phone (g.T.Dialer.dials l.initial.dialer) (g.T.Dialer.faults l.initial.dialer))
      l.held_back (phone (g.T.Dialer.dials l.dialer) (g.T.Dialer.faults l.dialer));
}

abbrev pub decreases-tries : goal.decreases-tries
decreases-tries g l = 99 - l.held_back
