-- A reply that is JSON.
use Rattle.std.proofs.Common.{◌≡◌, List, ℕ, Option, Result, Ok, Err, IfOk}
use Rattle.lease_core.specs.Bodies.{IsJson}
use Rattle.serde_json.specs.Data.{Data}
use Rattle.etcd_wire.specs.declared.call.Call.{Call}
use Rattle.etcd_wire.specs.declared.said.Said.{Said}
use Rattle.etcd_wire.specs.Replies.{Reads, json, said_in}

-- what its JSON says is what its body says
pub reads_json : {E : Type 0} (asked : Call) (body : List ℕ) (d : Data) (r : Result (Option Said) E) → IsJson body d → IfOk r (λ said. said ≡ said_in asked d)
    → IfOk r (Reads asked body)
reads_json asked body d (Ok said) is_json is = json d is_json is
reads_json asked body d (Err why) is_json is = tt
