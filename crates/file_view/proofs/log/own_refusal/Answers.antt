-- Nothing stands against it.
use Rattle.wal_watch.specs.File.{contents_of}
use Rattle.file_view.proofs.LogWriteLemmas.{sound-rows}
use Rattle.file_view.proofs.log.own_refusal.Goals as goal

pub returns-in-Ok-clause-value : goal.returns-in-Ok-clause-value
returns-in-Ok-clause-value c = sound-rows (contents_of c.args.log.now) c.args.page_size c.args.at c.args.bytes.now c.in-Ok.ensures.sound
