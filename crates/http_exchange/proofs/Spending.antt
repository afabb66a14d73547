-- The budget of turns, over one read behind another.
use Rattle.std.proofs.Common.{◌≡◌, ℕ, ◌+◌, ◌<◌, ◌≤◌, Result, Ok, Err, refl, arith}
use Rattle.lf_base.specs.declared.session_end.SessionEnd.{SessionEnd}
use Rattle.lf_base.specs.declared.session_end.SessionEnd.TheVariants as ends
use Rattle.link_session.specs.Spending.{Moved, Moves, MovesFor}
use Rattle.link_session.proofs.Spending.{one_move}
use Rattle.http_exchange.specs.Reading.{inside}

-- nothing was spent yet
pub no_move : (turns moves : ℕ) → Moves turns moves turns moves
no_move turns moves = λ below. (omega arith, refl)

-- one turn, for a call that moved bytes
pub first_move : (turns moves turns_now moves_now n : ℕ) → turns ≡ turns_now + 1 → 0 < n → Moved moves moves_now n → Moves turns moves turns_now moves_now
first_move turns moves turns_now moves_now n t some moved = one_move turns moves turns moves turns_now moves_now n (no_move turns moves) t some moved

pub moves_on : (turns moves turns_mid moves_mid turns_now moves_now : ℕ) → Moves turns moves turns_mid moves_mid → Moves turns_mid moves_mid turns_now moves_now
    → Moves turns moves turns_now moves_now
moves_on turns moves turns_mid moves_mid turns_now moves_now m n below =
    let last : (moves_mid ≤ moves_now) × (turns_now + moves_now ≡ turns_mid + moves_mid) = n below in
    let mid : moves_mid < 18446744073709551615 = omega (arith, below, last.0) in
    let front : (moves ≤ moves_mid) × (turns_mid + moves_mid ≡ turns + moves) = m mid in
    (omega (arith, last.0, front.0), omega (arith, last.1, front.1))

-- what a call spent, behind what was spent before
pub spent_on : {T : Type 0} (r : Result T SessionEnd) (turns moves turns_mid moves_mid turns_now moves_now : ℕ) → turns_mid ≤ turns → Moves turns moves turns_mid moves_mid
    → MovesFor r turns_mid moves_mid turns_now moves_now → MovesFor r turns moves turns_now moves_now
spent_on (Ok x) turns moves turns_mid moves_mid turns_now moves_now less m f =
    (omega (arith, less, f.0), moves_on turns moves turns_mid moves_mid turns_now moves_now m f.1)
spent_on (Err ends.Turns) turns moves turns_mid moves_mid turns_now moves_now less m f =
    (omega (arith, less, f.0), moves_on turns moves turns_mid moves_mid turns_now moves_now m f.1)
spent_on (Err ends.Closed) turns moves turns_mid moves_mid turns_now moves_now less m f = omega (arith, less, f)
spent_on (Err ends.BadMessage) turns moves turns_mid moves_mid turns_now moves_now less m f = omega (arith, less, f)
spent_on (Err ends.ReadFault) turns moves turns_mid moves_mid turns_now moves_now less m f = omega (arith, less, f)
spent_on (Err ends.WriteFault) turns moves turns_mid moves_mid turns_now moves_now less m f = omega (arith, less, f)
spent_on (Err ends.Worn) turns moves turns_mid moves_mid turns_now moves_now less m f = omega (arith, less, f)
spent_on (Err ends.NoMemory) turns moves turns_mid moves_mid turns_now moves_now less m f = omega (arith, less, f)

-- a call that ended so ended an outer one, inside a message
pub spent_inside : (T U : Type 0) (end : SessionEnd) (turns moves turns_now moves_now : ℕ) → MovesFor {T = T} (Err end) turns moves turns_now moves_now
    → MovesFor {T = U} (Err (inside end)) turns moves turns_now moves_now
spent_inside T U ends.Turns turns moves turns_now moves_now f = f
spent_inside T U ends.Closed turns moves turns_now moves_now f = f
spent_inside T U ends.BadMessage turns moves turns_now moves_now f = f
spent_inside T U ends.ReadFault turns moves turns_now moves_now f = f
spent_inside T U ends.WriteFault turns moves turns_now moves_now f = f
spent_inside T U ends.Worn turns moves turns_now moves_now f = f
spent_inside T U ends.NoMemory turns moves turns_now moves_now f = f

-- a call that ended without a further turn
pub spent_so_far : {T : Type 0} (r : Result T SessionEnd) (turns moves turns_now moves_now : ℕ) → turns_now ≤ turns → Moves turns moves turns_now moves_now
    → MovesFor r turns moves turns_now moves_now
spent_so_far (Ok x) turns moves turns_now moves_now less m = (less, m)
spent_so_far (Err ends.Turns) turns moves turns_now moves_now less m = (less, m)
spent_so_far (Err ends.Closed) turns moves turns_now moves_now less m = less
spent_so_far (Err ends.BadMessage) turns moves turns_now moves_now less m = less
spent_so_far (Err ends.ReadFault) turns moves turns_now moves_now less m = less
spent_so_far (Err ends.WriteFault) turns moves turns_now moves_now less m = less
spent_so_far (Err ends.Worn) turns moves turns_now moves_now less m = less
spent_so_far (Err ends.NoMemory) turns moves turns_now moves_now less m = less
