-- The budget of turns.
use Rattle.std.proofs.Common.{◌≡◌, ℕ, ◌+◌, ◌<◌, arith}
use Rattle.link_session.specs.Spending.{Moves, Moved}

-- one turn more, for a call that moved bytes
pub one_move : (turns moves turns_mid moves_mid turns_now moves_now n : ℕ) → Moves turns moves turns_mid moves_mid → turns_mid ≡ turns_now + 1
    → 0 < n → Moved moves_mid moves_now n → Moves turns moves turns_now moves_now
one_move turns moves turns_mid moves_mid turns_now moves_now n m t some moved h =
    let below : moves_mid < 18446744073709551615 = omega (arith, h, moved, some) in
    (omega (arith, h, moved, some, (m below).0), omega (arith, h, moved, some, t, (m below).1))
