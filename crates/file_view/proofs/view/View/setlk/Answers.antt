-- By the owner and the locks that are asked for; the rows of the handle come first.
use Rattle.std.proofs.Common.{◌≡◌, Bool, true, false, not, List, [], ◌∷◌, Option, Some, None, Result, Ok, Err, IfErr, rules}
use Rattle.std.specs.Prelude.{if◌then◌else◌}
use Rattle.byte_locks.specs.declared.lock_kind.LockKind.TheVariants as kind
use Rattle.lf_base.specs.declared.errno.Errno.{Errno}
use Rattle.file_view.specs.declared.fault.ViewFault.{ViewFault}
use Rattle.file_view.specs.declared.fault.ViewFault.TheVariants as fault
use Rattle.file_view.specs.Errno.{ENOENT, EBADF}
use Rattle.file_view.specs.HandleRules.{is_served, is_open_at}
use Rattle.file_view.specs.LockRules.{grant_rows}
use Rattle.file_view.specs.Needs.{Needs, Memory}
use Rattle.file_view.specs.Refusal.{Row, first_refusal, HasCause}
use Rattle.file_view.proofs.view.View.setlk.Goals as goal

-- a cause behind two rows that don't hold
behind : {A : Type 0} (r : Result A ViewFault) (needs : Needs) (a b : Bool) (m n : Errno) (rest : List Row) → first_refusal ((a, m) ∷ (b, n) ∷ []) ≡ None → IfErr r (HasCause needs rest) →
    IfErr r (HasCause needs ((a, m) ∷ (b, n) ∷ rest))
behind (Ok x) needs a b m n rest none h = tt
behind (Err (fault.Errno number)) needs a b m n rest none h = tested a b none where
  tested : (a b : Bool) → (if a then Some m else (if b then Some n else None)) ≡ None → (if a then Some m else (if b then Some n else first_refusal rest)) ≡ Some number
  tested true b none = absurd cc
  tested false true none = absurd cc
  tested false false none = h
behind (Err (fault.Page failed)) needs a b m n rest none h = h
behind (Err fault.NoMemory) needs a b m n rest none h = h

pub returns-in-Read-clause-cause : goal.returns-in-Read-clause-cause
returns-in-Read-clause-cause c =
    rw (← c.owner-owner.ensures, ← c.locks_at-locks.ensures, c.in-Read.is)
    (behind c.grant.result Memory (not (is_served c.args.self.now c.args.scene.now c.args.lock.node)) (not (is_open_at c.args.self.now c.args.scene.now c.args.lock.node c.args.lock.fh)) ENOENT EBADF
    (grant_rows c.args.self.now c.args.scene.now c.owner-owner.result c.locks_at-locks.result kind.Read) c.in_ok-lock_handle.ensures.allowed c.grant.ensures.cause)

pub returns-in-Write-clause-cause : goal.returns-in-Write-clause-cause
returns-in-Write-clause-cause c =
    rw (← c.owner-owner.ensures, ← c.locks_at-locks.ensures, c.in-Write.is)
    (behind c.grant-in-Write.result Memory (not (is_served c.args.self.now c.args.scene.now c.args.lock.node)) (not (is_open_at c.args.self.now c.args.scene.now c.args.lock.node c.args.lock.fh)) ENOENT EBADF
    (grant_rows c.args.self.now c.args.scene.now c.owner-owner.result c.locks_at-locks.result kind.Write) c.in_ok-lock_handle.ensures.allowed c.grant-in-Write.ensures.cause)

pub returns-in-Unlock-clause-done : goal.returns-in-Unlock-clause-done
returns-in-Unlock-clause-done c = rw (← c.owner-owner.ensures, ← c.locks_at-locks.ensures) (search rules)
