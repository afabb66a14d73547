use Rattle.std.proofs.Common.{Bool, false, Err, sym, subst}
use Rattle.lf_disk.specs.History.{now}
use Rattle.ltx_codec.specs.Format.{IsFile}
use Rattle.ltx_codec.specs.declared.file.Ltx.{Ltx}
use Rattle.lf_base.specs.declared.pos.Pos.{Pos}
use Rattle.txn_log.specs.declared.fault.StoreFault.{StoreFault}
use Rattle.txn_log.specs.Draft.{drafted, Drafts}
use Rattle.txn_log.specs.Publishing.{CanTake}
use Rattle.txn_log.specs.Store.{IsStore, state_in, state_of, end_of_entries}
use Rattle.txn_log.proofs.Moves.{went-none}
use Rattle.txn_log.proofs.Taking.{can_take}
use Rattle.txn_log.proofs.store.Store.commit.Goals as goal

pub publish-requires-clause-can : goal.publish-requires-clause-can
publish-requires-clause-can g c honest =
    let s = c.args.self.now in
    let h = g.D.Disk.history s.disk in
    let drafts = c.in-Ok.ensures.ok in
    let file : Ltx = drafted (end_of_entries s.entries.items) s.commit s.sums.sums c.args.change c.args.stamp c.args.node in
    let kept : IsStore h s.page_size s.commit s.entries.items s.dropped s.sums.sums false s.whole s.tried =
    subst (λ (b : Bool). IsStore h s.page_size s.commit s.entries.items s.dropped s.sums.sums b s.whole s.tried) drafts.0 (s.kept honest) in
    let is : IsFile file = subst (λ (f : Ltx). IsFile f) drafts.3 c.in-Ok.ensures.valid in
    let can : CanTake (state_in s.page_size s.commit s.entries.items s.dropped (now h)) file =
    can_take h s.page_size s.commit s.entries.items s.dropped s.sums.sums s.whole s.tried kept c.args.change c.in-Ok.ensures.change drafts.1 c.args.stamp c.args.node is in
    subst (λ (f : Ltx). CanTake (state_of h s.page_size s.commit s.entries.items s.dropped s.broken s.whole) f) (sym drafts.3)
    (subst (λ (b : Bool). CanTake (state_of h s.page_size s.commit s.entries.items s.dropped b s.whole) file) (sym drafts.0) can)

pub returns-in-Err-clause-went : goal.returns-in-Err-clause-went
returns-in-Err-clause-went g c honest =
    let s = c.args.self.now in
    went-none Pos _ _ _ _ c.in-Err.fault
    (λ same. subst (λ (w : StoreFault). Drafts s.broken (end_of_entries s.entries.items) s.page_size s.commit s.sums.sums c.args.change c.args.stamp c.args.node (Err w)) same c.in-Err.ensures.err)
    (s.left honest)
