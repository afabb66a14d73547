-- How reading on ends, by the ends of a session.
use Rattle.std.proofs.Common.{◌≡◌, ℕ, ◌<◌, ◌≤◌, List, [], ◌++◌, length, Result, Ok, Err, OnOk, sym, subst, ◌∙◌, arith}
use Rattle.std.specs.Io.KnownBytes.{IsAtEnd}
use Rattle.lf_base.specs.Faults.{Rose}
use Rattle.lf_base.specs.declared.link.Link.{Ghosts as LinkGhosts}
use Rattle.lf_base.specs.declared.session_end.SessionEnd.{SessionEnd}
use Rattle.lf_base.specs.declared.session_end.SessionEnd.TheVariants as ends
use Rattle.http_exchange.specs.declared.told.Untold.{Untold}
use Rattle.http_exchange.specs.declared.told.Untold.TheVariants as untold
use Rattle.http_exchange.specs.Exchange.{at_end, untold_by, EndsUnending, FaultsBy, ReadsNone, TurnsBy}
use Rattle.http_exchange.specs.Reading.{inside, EndsFewer, EndsMore, Gave, GaveFewer, GaveMore}
use Rattle.http_exchange.specs.Reply.{cut, short, IsShort, Terms}
use Rattle.http_exchange.proofs.Giving.{gave_on, gave_no_more}

-- the count rose by a fault alone
pub faults_by : {L : Type 0} (l : LinkGhosts L) (a b c : L) (held now : List ℕ) (turns : ℕ) (end : SessionEnd) → l.faults b ≡ l.faults a
    → EndsMore {T = Unit {0}} l b c held now turns (Err end) → FaultsBy {T = Unit {0}} (l.faults a) (l.faults c) (Err (untold_by end))
faults_by l a b c held now turns ends.Closed same e = e.2 ∙ same
faults_by l a b c held now turns ends.ReadFault same e = subst (λ (n : ℕ). Rose n (l.faults c)) same e.1
faults_by l a b c held now turns ends.Turns same e = e.2 ∙ same
faults_by l a b c held now turns ends.NoMemory same e = e.1 ∙ same
faults_by l a b c held now turns ends.WriteFault same e = absurd e
faults_by l a b c held now turns ends.BadMessage same e = absurd e
faults_by l a b c held now turns ends.Worn same e = absurd e

-- no turn comes back
pub turns_by : {L : Type 0} (l : LinkGhosts L) (b c : L) (held now : List ℕ) (old turns : ℕ) (end : SessionEnd) → turns ≤ old
    → EndsMore {T = Unit {0}} l b c held now turns (Err end) → TurnsBy {T = Unit {0}} old turns (Err (untold_by end))
turns_by l b c held now old turns ends.Closed less e = less
turns_by l b c held now old turns ends.ReadFault less e = less
turns_by l b c held now old turns ends.Turns less e = e.1
turns_by l b c held now old turns ends.NoMemory less e = less
turns_by l b c held now old turns ends.WriteFault less e = less
turns_by l b c held now old turns ends.BadMessage less e = less
turns_by l b c held now old turns ends.Worn less e = less

-- ---- a head

-- it could not be read on
pub head_untold : {L : Type 0} (l : LinkGhosts L) (terms : Terms) (a b c : L) (held now : List ℕ) (turns : ℕ) (end : SessionEnd) → Gave l a b held → IsShort terms held
    → EndsMore {T = Unit {0}} l b c held now turns (Err end) → ReadsNone l terms [] a c (untold_by end)
head_untold l terms a b c held now turns ends.Closed g part e = record { more = held; gave = gave_no_more l a b c held g e.0; why_is = cut part e.1 }
head_untold l terms a b c held now turns ends.ReadFault g part e = record { more = held; gave = gave_no_more l a b c held g e.0; why_is = short part }
head_untold l terms a b c held now turns ends.Turns g part e = record { more = held; gave = gave_no_more l a b c held g e.0; why_is = short part }
head_untold l terms a b c held now turns ends.NoMemory g part e = record { more = held ++ e.0.0; gave = gave_on l a b c held e.0.0 g e.0.1; why_is = tt }
head_untold l terms a b c held now turns ends.WriteFault g part e = absurd e
head_untold l terms a b c held now turns ends.BadMessage g part e = absurd e
head_untold l terms a b c held now turns ends.Worn g part e = absurd e

-- ---- a body

-- the bytes that came are fewer than so many
still_fewer : {L : Type 0} (l : LinkGhosts L) (a b c : L) (held mid : List ℕ) (len : ℕ) → GaveMore l a b held mid → length mid < len → Gave l b c [] → GaveFewer l a c held len
still_fewer l a b c held mid len m less g = record {
  more = m.more;
  gave = gave_no_more l a b c m.more m.gave g;
  fewer = subst (λ (bytes : List ℕ). length bytes < len) m.behind less;
}

pub fewer_ends : {L : Type 0} (l : LinkGhosts L) (a b c : L) (held mid now : List ℕ) (len turns : ℕ) (end : SessionEnd) → GaveMore l a b held mid → l.faults b ≡ l.faults a
    → length mid < len → EndsMore {T = Unit {0}} l b c mid now turns (Err end) → EndsFewer {T = Unit {0}} l a c held len turns (Err (inside end))
fewer_ends l a b c held mid now len turns ends.Closed m same less e = (still_fewer l a b c held mid len m less e.0, e.1, e.2 ∙ same)
fewer_ends l a b c held mid now len turns ends.ReadFault m same less e = (still_fewer l a b c held mid len m less e.0, subst (λ (n : ℕ). Rose n (l.faults c)) same e.1)
fewer_ends l a b c held mid now len turns ends.Turns m same less e = (still_fewer l a b c held mid len m less e.0, e.1, e.2 ∙ same)
fewer_ends l a b c held mid now len turns ends.NoMemory m same less e = ((m.more ++ e.0.0, gave_on l a b c m.more e.0.0 m.gave e.0.1), e.1 ∙ same)
fewer_ends l a b c held mid now len turns ends.WriteFault m same less e = absurd e
fewer_ends l a b c held mid now len turns ends.BadMessage m same less e = absurd e
fewer_ends l a b c held mid now len turns ends.Worn m same less e = absurd e

-- ---- a body that ends with the input

-- it is whole at the input's end
pub end_whole : {L : Type 0} (l : LinkGhosts L) (a b c : L) (held mid now : List ℕ) (limit turns : ℕ) (end : SessionEnd) → GaveMore l a b held mid → length mid ≤ limit → now ≡ mid
    → EndsMore {T = Unit {0}} l b c mid now turns (Err end) → OnOk (at_end end) (GaveMore l a c held now × IsAtEnd (l.left c) × (length now ≤ limit))
end_whole l a b c held mid now limit turns ends.Closed m less same e = (
  record { more = m.more; gave = gave_no_more l a b c m.more m.gave e.0; behind = same ∙ m.behind },
  e.1,
  subst (λ (bytes : List ℕ). length bytes ≤ limit) (sym same) less,
)
end_whole l a b c held mid now limit turns ends.ReadFault m less same e = tt
end_whole l a b c held mid now limit turns ends.Turns m less same e = tt
end_whole l a b c held mid now limit turns ends.NoMemory m less same e = tt
end_whole l a b c held mid now limit turns ends.WriteFault m less same e = tt
end_whole l a b c held mid now limit turns ends.BadMessage m less same e = tt
end_whole l a b c held mid now limit turns ends.Worn m less same e = tt

pub end_cause : {L : Type 0} (l : LinkGhosts L) (a b c : L) (held mid now : List ℕ) (limit turns : ℕ) (end : SessionEnd) → GaveMore l a b held mid → length mid ≤ limit
    → EndsMore {T = Unit {0}} l b c mid now turns (Err end) → EndsUnending {T = Unit {0}} l a c held limit (at_end end)
end_cause l a b c held mid now limit turns ends.Closed m less e = tt
end_cause l a b c held mid now limit turns ends.ReadFault m less e =
    (m.more, gave_no_more l a b c m.more m.gave e.0, subst (λ (bytes : List ℕ). length bytes ≤ limit) m.behind less)
end_cause l a b c held mid now limit turns ends.Turns m less e =
    (m.more, gave_no_more l a b c m.more m.gave e.0, subst (λ (bytes : List ℕ). length bytes ≤ limit) m.behind less)
end_cause l a b c held mid now limit turns ends.NoMemory m less e = (m.more ++ e.0.0, gave_on l a b c m.more e.0.0 m.gave e.0.1)
end_cause l a b c held mid now limit turns ends.WriteFault m less e = absurd e
end_cause l a b c held mid now limit turns ends.BadMessage m less e = absurd e
end_cause l a b c held mid now limit turns ends.Worn m less e = absurd e

pub end_faults : {L : Type 0} (l : LinkGhosts L) (a b c : L) (mid now : List ℕ) (turns : ℕ) (end : SessionEnd) → l.faults b ≡ l.faults a
    → EndsMore {T = Unit {0}} l b c mid now turns (Err end) → FaultsBy {T = Unit {0}} (l.faults a) (l.faults c) (at_end end)
end_faults l a b c mid now turns ends.Closed same e = e.2 ∙ same
end_faults l a b c mid now turns ends.ReadFault same e = subst (λ (n : ℕ). Rose n (l.faults c)) same e.1
end_faults l a b c mid now turns ends.Turns same e = e.2 ∙ same
end_faults l a b c mid now turns ends.NoMemory same e = e.1 ∙ same
end_faults l a b c mid now turns ends.WriteFault same e = absurd e
end_faults l a b c mid now turns ends.BadMessage same e = absurd e
end_faults l a b c mid now turns ends.Worn same e = absurd e

pub end_turns : {L : Type 0} (l : LinkGhosts L) (b c : L) (mid now : List ℕ) (old turns : ℕ) (end : SessionEnd) → turns ≤ old
    → EndsMore {T = Unit {0}} l b c mid now turns (Err end) → TurnsBy {T = Unit {0}} old turns (at_end end)
end_turns l b c mid now old turns ends.Turns less e = e.1
end_turns l b c mid now old turns ends.Closed less e = less
end_turns l b c mid now old turns ends.ReadFault less e = less
end_turns l b c mid now old turns ends.NoMemory less e = less
end_turns l b c mid now old turns ends.WriteFault less e = less
end_turns l b c mid now old turns ends.BadMessage less e = less
end_turns l b c mid now old turns ends.Worn less e = less

-- ---- a body of a length, as an exchange has it

pub fewer_faults : {L : Type 0} (l : LinkGhosts L) (a c : L) (held : List ℕ) (len turns : ℕ) (end : SessionEnd) → EndsFewer {T = Unit {0}} l a c held len turns (Err end)
    → FaultsBy {T = Unit {0}} (l.faults a) (l.faults c) (Err (untold_by end))
fewer_faults l a c held len turns ends.BadMessage e = e.2
fewer_faults l a c held len turns ends.ReadFault e = e.1
fewer_faults l a c held len turns ends.Turns e = e.2
fewer_faults l a c held len turns ends.NoMemory e = e.1
fewer_faults l a c held len turns ends.Closed e = absurd e
fewer_faults l a c held len turns ends.WriteFault e = absurd e
fewer_faults l a c held len turns ends.Worn e = absurd e

pub fewer_turns : {L : Type 0} (l : LinkGhosts L) (a c : L) (held : List ℕ) (len old turns : ℕ) (end : SessionEnd) → turns ≤ old
    → EndsFewer {T = Unit {0}} l a c held len turns (Err end) → TurnsBy {T = Unit {0}} old turns (Err (untold_by end))
fewer_turns l a c held len old turns ends.Turns less e = e.1
fewer_turns l a c held len old turns ends.BadMessage less e = less
fewer_turns l a c held len old turns ends.ReadFault less e = less
fewer_turns l a c held len old turns ends.NoMemory less e = less
fewer_turns l a c held len old turns ends.Closed less e = less
fewer_turns l a c held len old turns ends.WriteFault less e = less
fewer_turns l a c held len old turns ends.Worn less e = less

-- no turn comes back of two calls
pub turns_on : {T : Type 0} (old mid now : ℕ) (r : Result T Untold) → mid ≤ old → TurnsBy mid now r → TurnsBy old now r
turns_on old mid now (Ok x) less t = omega (arith, less, t)
turns_on old mid now (Err untold.Turns) less t = t
turns_on old mid now (Err untold.Fault) less t = omega (arith, less, t)
turns_on old mid now (Err untold.Unfit) less t = omega (arith, less, t)
turns_on old mid now (Err untold.TooLong) less t = omega (arith, less, t)
turns_on old mid now (Err untold.NoMemory) less t = omega (arith, less, t)

-- the count stays where it was
pub faults_on : {T : Type 0} (before mid now : ℕ) (r : Result T Untold) → mid ≡ before → FaultsBy mid now r → FaultsBy before now r
faults_on before mid now r same f = subst (λ (n : ℕ). FaultsBy n now r) same f
