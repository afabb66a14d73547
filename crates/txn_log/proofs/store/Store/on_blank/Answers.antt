use Rattle.std.proofs.Common.{[], false, refl, arith}
use Rattle.txn_log.proofs.Blank.{blank, shaped as shaped_blank}
use Rattle.txn_log.proofs.Moves.{rests}
use Rattle.txn_log.proofs.store.Store.on_blank.Goals as goal

pub invariant_of-result-clause-shaped : goal.invariant_of-result-clause-shaped
invariant_of-result-clause-shaped g c = rw (c.new.ensures.items, c.new-2.ensures) shaped_blank

pub invariant_of-result-clause-kept : goal.invariant_of-result-clause-kept
invariant_of-result-clause-kept g c = rw (c.new.ensures.items, c.new-2.ensures) (λ honest. blank (g.D.Disk.history c.args.disk) (c.requires honest))

pub invariant_of-result-clause-left : goal.invariant_of-result-clause-left
invariant_of-result-clause-left g c =
    rw (c.new.ensures.items) (λ honest. rests (g.D.Disk.history c.args.disk) 0 0 [] false [] 0 0 shaped_blank (blank (g.D.Disk.history c.args.disk) (c.requires honest)))

pub invariant_of-result-clause-mode : goal.invariant_of-result-clause-mode
invariant_of-result-clause-mode g c honest = refl

pub invariant_of-result-clause-sized : goal.invariant_of-result-clause-sized
invariant_of-result-clause-sized g c = record { sized = λ some. absurd (omega (arith, some)); pages = λ some. absurd (omega (arith, some)) }
