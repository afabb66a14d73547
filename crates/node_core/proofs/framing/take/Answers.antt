use Rattle.std.proofs.Common.{◌≢◌, subst, sym}
use Rattle.lf_base.specs.declared.pos.Pos.{Pos}
use Rattle.ltx_codec.specs.declared.file.Ltx.{Ltx}
use Rattle.txn_log.specs.Calls.{Went}
use Rattle.world_laws.specs.Answers.{call_of}
use Rattle.world_laws.specs.Store.{StoreCall}
use Rattle.node_core.specs.Stores.{failed, fields_of, history_of, state}
use Rattle.node_core.proofs.Framed.{call-apply}
use Rattle.node_core.proofs.framing.take.Goals as goal

pub returns-in-Some-clause-went : goal.returns-in-Some-clause-went
returns-in-Some-clause-went g c honest =
    let s = c.args.store.now in
    let t = c.apply.new.self in
    let h = history_of s in
    let end = history_of t in
    let some = c.in-Some.ensures.some in
    let other = c.in-Some.other.now in
    subst (λ (file : Ltx). Went {T = Pos} (state h (fields_of s)) (failed h (fields_of s)) h (call_of (state h (fields_of s)) file) c.apply.result (state end (fields_of t)) (failed end (fields_of t)) end) some.0
    (subst (λ (call : StoreCall). Went {T = Pos} (state h (fields_of s)) (failed h (fields_of s)) h call c.apply.result (state end (fields_of t)) (failed end (fields_of t)) end)
    (call-apply h (fields_of s) other (subst (λ (file : Ltx). file.header.min ≢ 1) (sym some.0) some.1)) (c.apply.ensures.went honest))
