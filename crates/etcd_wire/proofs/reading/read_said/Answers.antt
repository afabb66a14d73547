use Rattle.serde_json.specs.View.{view}
use Rattle.etcd_wire.proofs.ReadingLemmas.{reads_json}
use Rattle.etcd_wire.proofs.reading.read_said.Goals as goal

pub returns-in-Ok : goal.returns-in-Ok
returns-in-Ok c = reads_json c.args.call.now c.args.body.now (view c.in-Ok.value) c.said.result c.in-Ok.ensures.ok c.said.ensures
