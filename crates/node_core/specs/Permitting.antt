-- Write permits: the primary gives one out at a time (HALT ASK) and takes it back (HALT BACK); a replica is given one (HALT GOT) and
-- loses it (HALT LOST). None of these takes memory.
use Rattle.std.specs.Prelude.{◌≡◌, ◌≢◌, ℕ, ◌==◌, List, [], ◌∷◌, Option, Some, None, find, if◌then◌else◌}
use Rattle.byte_locks.specs.declared.lock_id.LockId.{LockId}
use Rattle.byte_locks.specs.declared.lock_id.LockId.TheVariants as lock
use Rattle.byte_locks.specs.LockList.{is_held}
use Rattle.file_view.specs.declared.view.Role.{Role}
use Rattle.file_view.specs.declared.view.Role.TheVariants as role
use Rattle.file_view.specs.Served.{Served}
use Rattle.halt_forward.specs.declared.halt_fault.HaltFault.{HaltFault}
use Rattle.halt_forward.specs.declared.halt_fault.HaltFault.TheVariants as fault
use Rattle.halt_forward.specs.declared.halt_pass.HaltPass.{HaltPass}
use Rattle.halt_forward.specs.Permits.{Permits, grant_refusal, next_pass, pass_out, use_refusal, with_next, without_pass}
use Rattle.lf_disk.specs.History.{History}
use Rattle.node_core.specs.declared.answer.Answer.{Answer}
use Rattle.node_core.specs.declared.answer.Answer.TheVariants as answers
use Rattle.node_core.specs.declared.refusal.Refusal.{Refusal}
use Rattle.node_core.specs.declared.refusal.Refusal.TheVariants as refusals
use Rattle.node_core.specs.Dropping.{IsUntouched}
use Rattle.node_core.specs.Nodes.{NodeParts, role_in, stands}
use Rattle.node_core.specs.Roles.{permits_of}
use Rattle.node_core.specs.Stores.{OnlyRead}

-- the first lock of a writer that anybody holds
abbrev pub writing_lock : Served → Option LockId
writing_lock files = find (is_held files.locks) (lock.Reserved ∷ lock.Write ∷ [])

-- the node with this table of permits. Nothing else of it changes
abbrev pub with_permits : Permits → NodeParts → NodeParts
with_permits permits n = record n { standing = record n.standing { permits = permits } }

-- why no permit is given out, in this order: the node is not the primary; a permit is out, whoever has it; a lock of a writer is held
-- (Held, below); a number would pass its limit
abbrev pub RefusesPermit : NodeParts → Refusal → Type 0
RefusesPermit old refusals.NotPrimary = role_in old ≢ role.Primary
RefusesPermit old (refusals.Halt (fault.HaltHeld number until)) =
    (role_in old ≡ role.Primary) × (pass_out (permits_of old.standing) ≡ Some (record { number = number; until = until }))
RefusesPermit old (refusals.Halt fault.Limit) =
    (role_in old ≡ role.Primary) × (writing_lock old.files ≡ None) × (grant_refusal (permits_of old.standing) ≡ Some fault.Limit)
RefusesPermit old why = ⊥

-- what it answers when it is asked for a permit
abbrev pub AnswersHaltAsk : History → NodeParts → Answer → History → NodeParts → Type 0
AnswersHaltAsk start old (answers.Pass pass) end new =
    (role_in old ≡ role.Primary) × (writing_lock old.files ≡ None) × (grant_refusal (permits_of old.standing) ≡ None)
    × (pass ≡ next_pass (permits_of old.standing)) × (new ≡ with_permits (with_next (permits_of old.standing)) old) × OnlyRead start end
AnswersHaltAsk start old (answers.Held which) end new =
    (role_in old ≡ role.Primary) × (pass_out (permits_of old.standing) ≡ None) × (writing_lock old.files ≡ Some which) × IsUntouched start old end new
AnswersHaltAsk start old (answers.Refused why) end new = RefusesPermit old why × IsUntouched start old end new
AnswersHaltAsk start old answer end new = ⊥

-- why a permit is not taken back: the node is not the primary; or that number is not out
abbrev pub RefusesBack : NodeParts → ℕ → Refusal → Type 0
RefusesBack old number refusals.NotPrimary = role_in old ≢ role.Primary
RefusesBack old number (refusals.Halt why) = (role_in old ≡ role.Primary) × (use_refusal (permits_of old.standing) number ≡ Some why)
RefusesBack old number why = ⊥

-- what it answers when a permit is given back
abbrev pub AnswersHaltBack : History → NodeParts → ℕ → Answer → History → NodeParts → Type 0
AnswersHaltBack start old number answers.Quiet end new =
    (role_in old ≡ role.Primary) × (use_refusal (permits_of old.standing) number ≡ None)
    × (new ≡ with_permits (without_pass (permits_of old.standing)) old) × OnlyRead start end
AnswersHaltBack start old number (answers.Refused why) end new = RefusesBack old number why × IsUntouched start old end new
AnswersHaltBack start old number answer end new = ⊥

-- the node with a permit that it got. Only a replica is changed by one: a primary needs none, and a halted node has its own
abbrev pub given_by : Role → HaltPass → NodeParts → NodeParts
given_by role.Replica pass n = stands (record n.standing { pass = Some pass }) n
given_by role.Primary pass n = n
given_by role.Halted pass n = n

pub record GetsPermit (start : History) (old : NodeParts) (pass : HaltPass) (answer : Answer) (end : History) (new : NodeParts) : Type 0 where
  pub quiet : answer ≡ answers.Quiet
  pub same : new ≡ given_by (role_in old) pass old
  pub rests : OnlyRead start end

-- without the permit of this number
abbrev pub unless_number : ℕ → Option HaltPass → Option HaltPass
unless_number number None = None
unless_number number (Some pass) = if pass.number == number then None else Some pass

-- the permit of that number is gone; where the node is a replica then, its uncommitted pages go
pub record LosesPermit (start : History) (old : NodeParts) (number : ℕ) (answer : Answer) (end : History) (new : NodeParts) : Type 0 where
  pub quiet : answer ≡ answers.Quiet
  pub same : new ≡ stands (record old.standing { pass = unless_number number old.standing.pass }) old
  pub rests : OnlyRead start end
