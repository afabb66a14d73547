use Rattle.std.proofs.Common.{refl}
use Rattle.std.proofs.KnownBytes.{Keeps-refl}
use Rattle.stream_primary.specs.WatchCalls.{info_wanting, informing}
use Rattle.stream_primary.proofs.watch_call.serve_info.Goals as goal

pub returns-in-Ok-clause-serves : goal.returns-in-Ok-clause-serves
returns-in-Ok-clause-serves g c = informing c.in-Ok.figures c.inform.ensures.tells

pub returns-in-Err-clause-serves : goal.returns-in-Err-clause-serves
returns-in-Err-clause-serves g c = info_wanting refl (record { written = Keeps-refl (g.L.Link.taken c.args.session.now.link.now); asked = refl }) refl
