-- Asks that got no answer.
use Rattle.std.proofs.Common.{ℕ, Err}
use Rattle.lf_base.specs.declared.session_end.SessionEnd.{SessionEnd}
use Rattle.lf_base.specs.declared.session_end.SessionEnd.TheVariants as ends
use Rattle.link_session.specs.Asking.{EndsAsking}

-- why, whatever is known of one that is worn
pub ended_asking : (T U worn : Type 0) (turns : ℕ) (end : SessionEnd) → EndsAsking {T = T} worn turns (Err end) → EndsAsking {T = U} (Unit {0}) turns (Err end)
ended_asking T U worn turns ends.Turns e = e
ended_asking T U worn turns ends.Worn e = tt
ended_asking T U worn turns ends.Closed e = absurd e
ended_asking T U worn turns ends.ReadFault e = absurd e
ended_asking T U worn turns ends.WriteFault e = absurd e
ended_asking T U worn turns ends.BadMessage e = absurd e
ended_asking T U worn turns ends.NoMemory e = absurd e
