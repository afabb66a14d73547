use Rattle.std.proofs.Common.{◌≡◌, rules, sym, ◌∙◌}
use Rattle.byte_locks.specs.LockList.{IsLockList, kind_held}
use Rattle.byte_locks.proofs.Exclusion.{writer_alone}
use Rattle.byte_locks.proofs.lock_table.LockTable.holds.Goals as goal

pub returns-clause-alone : goal.returns-clause-alone
returns-clause-alone c = λ writes other held.
    let value : c.kind_held.result ≡ kind_held c.args.self.now c.args.owner c.args.lock = search rules in
    let list : IsLockList c.args.self.now = rw (← c.self.view_is) c.self.invariant in
    writer_alone c.args.self.now c.args.owner other c.args.lock list (sym value ∙ writes) held
