use Rattle.std.proofs.Common.{Err, subst}
use Rattle.lf_base.specs.declared.pos.Pos.{Pos}
use Rattle.txn_log.specs.Apply.{Judges}
use Rattle.txn_log.specs.Store.{end_of_entries}
use Rattle.txn_log.specs.declared.fault.StoreFault.{StoreFault}
use Rattle.txn_log.proofs.Moves.{went-none}
use Rattle.txn_log.proofs.store.Store.accept.Goals as goal

pub returns-in-Err-clause-went : goal.returns-in-Err-clause-went
returns-in-Err-clause-went g c honest =
    let s = c.args.self.now in
    went-none Pos _ _ _ _ c.in-Err.why
    (λ same. subst (λ (w : StoreFault). Judges {T = Pos} s.broken (end_of_entries s.entries.items) s.page_size s.commit s.sums.sums c.args.file.now (Err w)) same c.in-Err.ensures)
    (s.left honest)
