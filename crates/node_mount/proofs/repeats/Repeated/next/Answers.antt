use Rattle.std.proofs.Common.{inl}
use Rattle.std.proofs.lemmas.Result.{IfOk-weaker}
use Rattle.node_mount.proofs.NoteLemmas.{told_by}
use Rattle.node_mount.proofs.repeats.Repeated.next.Goals as goal

pub returns-in-Some : goal.returns-in-Some
returns-in-Some c = IfOk-weaker c.next.result _ _ (λ told next. inl (
    told_by c.args.self.now.each.items c.args.note.kind c.args.note.line c.args.now c.in-Some.place c.index_mut.result.now told c.next.new.self
    c.in-Some.ensures c.index_mut.ensures.value next
    )) c.next.ensures
