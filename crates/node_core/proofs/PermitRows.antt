-- Worked rows of write permits. A table gives permits out for 1,000 ms; permit 1 was given out at 200.
use Rattle.std.proofs.Common.{◌≡◌, ℕ, None, Some, refl}
use Rattle.file_view.specs.declared.view.Role.TheVariants as role
use Rattle.file_view.specs.Errno.{EAGAIN, EROFS}
use Rattle.halt_forward.specs.declared.halt_fault.HaltFault.TheVariants as fault
use Rattle.halt_forward.specs.declared.halt_pass.HaltPass.{HaltPass}
use Rattle.halt_forward.specs.Permits.{Permits, grant_refusal, next_pass, use_refusal}
use Rattle.lease_core.specs.Belief.{LeaseBelief, lasting, no_belief}
use Rattle.node_core.specs.declared.standing.Standing.{Standing}
use Rattle.node_core.specs.Locking.{commit_refusal}
use Rattle.node_core.specs.Permitting.{unless_number}
use Rattle.node_core.specs.Roles.{in_force, permit_out, permits_of, role_of}

abbrev permit : HaltPass
permit = record { number = 1; until = 1200 }

abbrev given : Permits
given = record { ttl = 1000; moment = 200; given = 1; last = Some permit }

-- a node that gave it out, at this moment
abbrev gave : LeaseBelief → ℕ → Standing
gave belief moment = record { belief = belief; moment = moment; pass = None; permits = given }

-- a node that got it, at this moment
abbrev got : LeaseBelief → ℕ → Standing
got belief moment = record { belief = belief; moment = moment; pass = Some permit; permits = record { ttl = 1000; moment = 0; given = 0; last = None } }

-- it is out until its end, and the next may be given out then
out : permit_out (gave lasting 1199) ≡ Some permit
out = refl

ended : permit_out (gave lasting 1200) ≡ None
ended = refl

held : grant_refusal (permits_of (gave lasting 1199)) ≡ Some (fault.HaltHeld 1 1200)
held = refl

next : next_pass (permits_of (gave lasting 1200)) ≡ record { number = 2; until = 2200 }
next = refl

gone : use_refusal (permits_of (gave lasting 1199)) 2 ≡ Some (fault.HaltGone 2)
gone = refl

-- meanwhile a primary commits nothing
refused : commit_refusal (gave lasting 1199) ≡ Some EAGAIN
refused = refl

free : commit_refusal (gave lasting 1200) ≡ None
free = refl

-- a node that isn't the primary any more has none out, and commits nothing
elsewhere : permit_out (gave no_belief 1199) ≡ None
elsewhere = refl

-- who got it is halted until its end, commits nothing of its own, and has it no more behind a lease
halted : role_of (got no_belief 1199) ≡ role.Halted
halted = refl

replica : role_of (got no_belief 1200) ≡ role.Replica
replica = refl

no_commit : commit_refusal (got no_belief 1199) ≡ Some EROFS
no_commit = refl

leads : role_of (got lasting 1199) ≡ role.Primary
leads = refl

behind : (in_force (got lasting 1199)).pass ≡ None
behind = refl

-- one of another number is not lost
another : unless_number 2 (Some permit) ≡ Some permit
another = refl

lost : unless_number 1 (Some permit) ≡ None
lost = refl
