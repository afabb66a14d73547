-- Worked rows of who is kept out, whatever the mode of the image: a frame is first held back at moment 1000.
use Rattle.std.proofs.Common.{◌≡◌, ℕ, true, false, Some, None, refl}
use Rattle.byte_locks.specs.declared.lock_id.LockId.TheVariants as lock
use Rattle.lf_base.specs.declared.pos.Pos.{Pos}
use Rattle.node_core.specs.declared.answer.Answer.TheVariants as answers
use Rattle.node_core.specs.declared.held_back.HeldBack.{HeldBack}
use Rattle.node_core.specs.HoldingBack.{held_by, keeps_out}

-- held back since 1000, which counts up to this moment
abbrev until : ℕ → HeldBack
until last = record { since = 1000; until = last }

first : held_by (answers.Held lock.Shared) 1000 None ≡ Some (until 2000)
first = refl

again : held_by (answers.Held lock.Shared) 1700 (Some (until 2000)) ≡ Some (until 2700)
again = refl

again_last : held_by (answers.Held lock.Shared) 2000 (Some (until 2000)) ≡ Some (until 3000)
again_last = refl

anew : held_by (answers.Held lock.Shared) 2001 (Some (until 2000)) ≡ Some (record { since = 2001; until = 3001 })
anew = refl

at_the_end : held_by (answers.Held lock.Shared) 18446744073709551610 None ≡ Some (record { since = 18446744073709551610; until = 18446744073709551615 })
at_the_end = refl

-- one is applied, and others wait behind it
through : (here : Pos) → held_by (answers.Applied here) 1030 (Some (until 2000)) ≡ Some (until 1040)
through here = refl

through_behind : (here : Pos) → held_by (answers.Applied here) 1040 (Some (until 1040)) ≡ Some (until 1050)
through_behind here = refl

behind : held_by (answers.Held lock.Shared) 1040 (Some (until 1040)) ≡ Some (until 2040)
behind = refl

through_late : (here : Pos) → held_by (answers.Applied here) 1041 (Some (until 1040)) ≡ None
through_late here = refl

unheld : (here : Pos) → held_by (answers.Applied here) 1030 None ≡ None
unheld here = refl

applied : keeps_out (Some (until 1040)) 1040 ≡ true
applied = refl

applied_over : keeps_out (Some (until 1040)) 1041 ≡ false
applied_over = refl

nothing : keeps_out None 1030 ≡ false
nothing = refl

-- one is held back again and again
early : keeps_out (Some (until 2009)) 1009 ≡ false
early = refl

shut : keeps_out (Some (until 2010)) 1010 ≡ true
shut = refl

shut_last : keeps_out (Some (until 2309)) 1309 ≡ true
shut_last = refl

let_in : keeps_out (Some (until 2310)) 1310 ≡ false
let_in = refl

let_in_last : keeps_out (Some (until 2459)) 1459 ≡ false
let_in_last = refl

shut_again : keeps_out (Some (until 2460)) 1460 ≡ true
shut_again = refl

shut_again_last : keeps_out (Some (until 2759)) 1759 ≡ true
shut_again_last = refl

let_in_again : keeps_out (Some (until 2760)) 1760 ≡ false
let_in_again = refl

-- it counts up to 2050
shut_to_the_end : keeps_out (Some (until 2050)) 2050 ≡ true
shut_to_the_end = refl

over : keeps_out (Some (until 2050)) 2051 ≡ false
over = refl
