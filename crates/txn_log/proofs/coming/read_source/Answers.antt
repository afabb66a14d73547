use Rattle.std.proofs.Common.{List, ℕ, sym, subst}
use Rattle.std.specs.Io.KnownBytes.{Consumes}
use Rattle.txn_log.proofs.Comings.{read_fault}
use Rattle.txn_log.proofs.coming.read_source.Goals as goal

pub returns-in-Err-take_all-clause-reads : goal.returns-in-Err-take_all-clause-reads
returns-in-Err-take_all-clause-reads g c =
    let left = g.S.Source.left c.pieces.source in
    let left_now = g.S.Source.left c.read.new.self in
    let consumes : Consumes left left_now c.split_at.result.0.now = subst (λ (l : List ℕ). Consumes left left_now l) (sym c.split_at.ensures.front) c.in-Ok.ensures.bytes.0 in
    read_fault c.pieces.coming (g.S.Source.left c.args.source.now) left left_now c.split_at.result.0.now c.in-Err-take_all.fault c.pieces.invariant.some consumes c.in-Err-take_all.ensures.takes
