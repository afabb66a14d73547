-- The turns of a session.
use Rattle.std.proofs.Common.{◌≡◌, ℕ, ◌+◌, ◌<◌, ◌≤◌, Bool, length, Result, Ok, Err, ap, ◌∙◌, arith}
use Rattle.lf_base.specs.declared.session_end.SessionEnd.{SessionEnd}
use Rattle.lf_base.specs.declared.session_end.SessionEnd.TheVariants as ends
use Rattle.link_session.specs.Spending.{AsksFor, Moves, MovesFor}
use Rattle.link_session.specs.Stands.{Asker, Spent, Spends, Stand}

abbrev ask_by : ℕ → (ℕ → Bool) → Asker
ask_by caller may = record { caller = caller; may = may }

-- the same caller, and a clock of the same test
pub same_asker : (caller caller_now : ℕ) (may may_now : ℕ → Bool) → caller_now ≡ caller → may_now ≡ may
    → ask_by caller_now may_now ≡ ask_by caller may
same_asker caller caller_now may may_now c m = ap (λ (n : ℕ). ask_by n may_now) c ∙ ap (λ (t : ℕ → Bool). ask_by caller t) m

-- the turns of one call and then of another
pub spent_on : {E : Type 0} (t0 t1 t2 : ℕ) (s0 s1 s2 : Stand E) → Spent t0 s0 t1 s1 → Spent t1 s1 t2 s2 → Spent t0 s0 t2 s2
spent_on t0 t1 t2 s0 s1 s2 a b =
    λ below. omega (arith, below, (b below).0, (b below).1, (a (omega (arith, below, (b below).0))).0, (a (omega (arith, below, (b below).0))).1)

-- what makes no entry
pub spent_moving : {E : Type 0} (t0 t1 : ℕ) (s0 s1 : Stand E) → Moves t0 s0.moves t1 s1.moves → s1.place.entries ≡ s0.place.entries → Spent t0 s0 t1 s1
spent_moving t0 t1 s0 s1 m same = λ below. ((m below).0, omega (arith, (m below).1, ap length same))

-- asking moves no bytes
pub spent_asking : {E : Type 0} (t0 t1 : ℕ) (s0 s1 : Stand E) → t1 + length s1.place.entries ≡ t0 + length s0.place.entries → s1.moves ≡ s0.moves → Spent t0 s0 t1 s1
spent_asking t0 t1 s0 s1 asks same = λ below. (omega (arith, same), omega (arith, asks, same))

-- a call behind another
pub spends_on : {E T : Type 0} (t0 t1 t2 : ℕ) (s0 s1 s2 : Stand E) (r : Result T SessionEnd) → t1 ≤ t0 → Spent t0 s0 t1 s1 → Spends t1 s1 t2 s2 r → Spends t0 s0 t2 s2 r
spends_on t0 t1 t2 s0 s1 s2 (Ok x) less a b = (omega (arith, less, b.0), spent_on t0 t1 t2 s0 s1 s2 a b.1)
spends_on t0 t1 t2 s0 s1 s2 (Err ends.Turns) less a b = spent_on t0 t1 t2 s0 s1 s2 a b
spends_on t0 t1 t2 s0 s1 s2 (Err ends.Closed) less a b = tt
spends_on t0 t1 t2 s0 s1 s2 (Err ends.ReadFault) less a b = tt
spends_on t0 t1 t2 s0 s1 s2 (Err ends.WriteFault) less a b = tt
spends_on t0 t1 t2 s0 s1 s2 (Err ends.BadMessage) less a b = tt
spends_on t0 t1 t2 s0 s1 s2 (Err ends.Worn) less a b = tt
spends_on t0 t1 t2 s0 s1 s2 (Err ends.NoMemory) less a b = tt

-- what moves bytes alone, and is at its end
pub ends_moving : {E : Type 0} (T U : Type 0) (t0 t1 : ℕ) (s0 s1 : Stand E) (end : SessionEnd) → MovesFor {T = T} (Err end) t0 s0.moves t1 s1.moves
    → s1.place.entries ≡ s0.place.entries → Spends {T = U} t0 s0 t1 s1 (Err end)
ends_moving T U t0 t1 s0 s1 ends.Turns m same = spent_moving t0 t1 s0 s1 m.1 same
ends_moving T U t0 t1 s0 s1 ends.Closed m same = tt
ends_moving T U t0 t1 s0 s1 ends.ReadFault m same = tt
ends_moving T U t0 t1 s0 s1 ends.WriteFault m same = tt
ends_moving T U t0 t1 s0 s1 ends.BadMessage m same = tt
ends_moving T U t0 t1 s0 s1 ends.Worn m same = tt
ends_moving T U t0 t1 s0 s1 ends.NoMemory m same = tt

-- an ask that ended without an answer
pub ends_asking : {E : Type 0} (T U : Type 0) (t0 t1 : ℕ) (s0 s1 : Stand E) (end : SessionEnd) → AsksFor {T = T} (Err end) t0 (length s0.place.entries) t1 (length s1.place.entries)
    → s1.moves ≡ s0.moves → Spends {T = U} t0 s0 t1 s1 (Err end)
ends_asking T U t0 t1 s0 s1 ends.Turns a same = spent_asking t0 t1 s0 s1 a same
ends_asking T U t0 t1 s0 s1 ends.Closed a same = tt
ends_asking T U t0 t1 s0 s1 ends.ReadFault a same = tt
ends_asking T U t0 t1 s0 s1 ends.WriteFault a same = tt
ends_asking T U t0 t1 s0 s1 ends.BadMessage a same = tt
ends_asking T U t0 t1 s0 s1 ends.Worn a same = tt
ends_asking T U t0 t1 s0 s1 ends.NoMemory a same = tt

-- an ask that was answered, and then what moves bytes
pub asked_then_moves : {E T : Type 0} (t0 t1 t2 : ℕ) (s0 s2 : Stand E) (asks : ℕ) (r : Result T SessionEnd)
    → (t1 < t0) × (t1 + asks ≡ t0 + length s0.place.entries) → MovesFor r t1 s0.moves t2 s2.moves → length s2.place.entries ≡ asks → Spends t0 s0 t2 s2 r
asked_then_moves t0 t1 t2 s0 s2 asks (Ok x) a m same = (omega (arith, a.0, m.0), λ below. ((m.1 below).0, omega (arith, (m.1 below).1, a.1, same)))
asked_then_moves t0 t1 t2 s0 s2 asks (Err ends.Turns) a m same = λ below. ((m.1 below).0, omega (arith, (m.1 below).1, a.1, same))
asked_then_moves t0 t1 t2 s0 s2 asks (Err ends.Closed) a m same = tt
asked_then_moves t0 t1 t2 s0 s2 asks (Err ends.ReadFault) a m same = tt
asked_then_moves t0 t1 t2 s0 s2 asks (Err ends.WriteFault) a m same = tt
asked_then_moves t0 t1 t2 s0 s2 asks (Err ends.BadMessage) a m same = tt
asked_then_moves t0 t1 t2 s0 s2 asks (Err ends.Worn) a m same = tt
asked_then_moves t0 t1 t2 s0 s2 asks (Err ends.NoMemory) a m same = tt
