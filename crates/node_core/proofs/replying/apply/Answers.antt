use Rattle.std.proofs.Common.{subst}
use Rattle.lf_base.specs.declared.pos.Pos.{Pos}
use Rattle.txn_log.specs.Calls.{Went}
use Rattle.world_laws.specs.Store.{StoreCall}
use Rattle.node_core.specs.Stores.{failed, fields_of, history_of, state}
use Rattle.node_core.proofs.Replied.{call-applied}
use Rattle.node_core.proofs.replying.apply.Goals as goal

pub returns-clause-went : goal.returns-clause-went
returns-clause-went g c honest =
    let s = c.args.store.now in
    let t = c.apply.new.self in
    let h = history_of s in
    let end = history_of t in
    subst (λ (call : StoreCall). Went {T = Pos} (state h (fields_of s)) (failed h (fields_of s)) h call c.apply.result (state end (fields_of t)) (failed end (fields_of t)) end)
    (call-applied h (fields_of s) c.args.file.now) (c.apply.ensures.went honest)
