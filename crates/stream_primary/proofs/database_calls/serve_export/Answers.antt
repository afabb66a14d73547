use Rattle.std.proofs.Common.{refl}
use Rattle.stream_primary.specs.DatabaseCalls.{export_elsewhere, exporting}
use Rattle.stream_primary.proofs.database_calls.serve_export.Goals as goal

pub returns-then-is_same-clause-serves : goal.returns-then-is_same-clause-serves
returns-then-is_same-clause-serves g c = exporting c.if-is_same.ensures c.ask_once.ensures.serves

pub returns-else-is_same-clause-serves : goal.returns-else-is_same-clause-serves
returns-else-is_same-clause-serves g c = export_elsewhere c.if-is_same.ensures (record { written = c.refuse.ensures.end; unasked = refl })
