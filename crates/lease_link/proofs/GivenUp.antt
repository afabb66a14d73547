-- A lease given up, put together of what its calls did.
use Rattle.std.proofs.Common.{◌≡◌, ◌≢◌, ℕ, List, ◌++◌, ap}
use Rattle.turn_desk.specs.declared.history.Entry.{Entry}
use Rattle.link_session.specs.Stands.{Asker}
use Rattle.lease_core.specs.declared.grant.Grant.{Grant}
use Rattle.lease_link.specs.declared.bringing.Bringing.{Ghosts as BringingGhosts}
use Rattle.lease_link.specs.declared.service.Service.{Ghosts as ServiceGhosts}
use Rattle.lease_link.specs.Keeping.{AreNews, GivesUp, KeepStand, Releases, lost, released}

-- behind the loss the service was asked to end the term
pub given_back : {B Q A V : Type 0} (b : BringingGhosts B Q) (s : ServiceGhosts V) (who : Asker) (tell : Type 0) (own : Grant) (budget : ℕ) (worn : Type 0)
    (old new : KeepStand (Entry Q A) V) (news : List (Entry Q A)) (starves : Type 0) → AreNews who b.lost_at news → own.term ≢ 0 → new.entries ≡ old.entries ++ news
    → Releases s tell own old.dialed new.dialed old.service new.service starves → GivesUp b s who tell own budget worn old new starves
given_back b s who tell own budget worn old new news starves are some more back = released news back.0 are some back.1 more back.2

-- a node without a term told the loss alone
pub given_lost : {B Q A V : Type 0} (b : BringingGhosts B Q) (s : ServiceGhosts V) (who : Asker) (tell : Type 0) (own : Grant) (budget : ℕ) (worn : Type 0)
    (old : KeepStand (Entry Q A) V) (entries news : List (Entry Q A)) (starves : Type 0) → AreNews who b.lost_at news → own.term ≡ 0 → entries ≡ old.entries ++ news
    → GivesUp b s who tell own budget worn old (record old { entries = entries }) starves
given_lost {Q = Q} {A = A} b s who tell own budget worn old entries news starves are none more =
    lost news are none (ap (λ (l : List (Entry Q A)). record old { entries = l }) more)
