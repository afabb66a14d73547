-- A round of a node with its lease: news of its asking, the asking of the service, and news of what is learned.
use Rattle.std.specs.Prelude.{◌≡◌, ◌≢◌, ◌⊎◌, ℕ, IsTrue, List, [], ◌∷◌, ◌++◌, Option, None, Some, Result, Ok, Err, false}
use Rattle.lease_core.specs.declared.grant.Grant.{Grant}
use Rattle.lease_core.specs.declared.lease_ask.LeaseAsk.{LeaseAsk}
use Rattle.lease_core.specs.declared.lease_ask.LeaseAsk.TheVariants as ask
use Rattle.turn_desk.specs.declared.history.Entry.{Entry}
use Rattle.turn_desk.specs.History.{entry}
use Rattle.link_session.specs.Stands.{Asker}
use Rattle.lease_link.specs.declared.bringing.Bringing.{Ghosts as BringingGhosts}
use Rattle.lease_link.specs.declared.keep_end.KeepEnd.{KeepEnd}
use Rattle.lease_link.specs.declared.keep_end.KeepEnd.TheVariants as ends
use Rattle.lease_link.specs.declared.learned.Learned.{Learned}
use Rattle.lease_link.specs.declared.learned.Learned.TheVariants as learned
use Rattle.lease_link.specs.declared.service.Service.{Ghosts as ServiceGhosts}
use Rattle.lease_link.specs.declared.unlearned.Unlearned.{Unlearned}
use Rattle.lease_link.specs.declared.unlearned.Unlearned.TheVariants as unlearned
use Rattle.lease_link.specs.Asking.{DialStand}

-- the entries of the one that asks, the dials and the faults of the one that dials, and the service
pub record KeepStand (E V : Type 0) : Type 0 where
  pub entries : List E
  pub dialed : DialStand
  pub service : V

abbrev pub keep_stand : {E V : Type 0} → List E → DialStand → V → KeepStand E V
keep_stand entries dialed service = record { entries = entries; dialed = dialed; service = service }

-- the service was asked this between two stands, and so it was heard
abbrev pub Serves : {E V : Type 0} → ServiceGhosts V → Type 0 → LeaseAsk → Result Learned Unlearned → KeepStand E V → KeepStand E V → Type 0
Serves s tell asked heard old new = s.serves old.service asked tell old.dialed new.dialed heard new.service

-- ---- news

-- news at a moment that the clock may give
pub record IsNews {Q A : Type 0} (who : Asker) (at : ℕ → Q) (one : Entry Q A) : Type 0 where
  pub caller : one.caller ≡ who.caller
  pub now : ℕ
  pub given : IsTrue (who.may now)
  pub asked : one.ask ≡ at now

-- the entries are one, of these news
abbrev pub AreNews : {Q A : Type 0} → Asker → (ℕ → Q) → List (Entry Q A) → Type 0
AreNews {Q} {A} who at entries = (one : Entry Q A) × IsNews who at one × (entries ≡ one ∷ [])

-- THE NEWS OF WHAT WAS LEARNED
abbrev pub NewsOf : {B Q A : Type 0} → BringingGhosts B Q → Asker → Learned → List (Entry Q A) → Type 0
NewsOf b who (learned.Granted term ttl) entries = AreNews who (λ now. b.granted_at now term ttl) entries
NewsOf b who learned.Lost entries = AreNews who b.lost_at entries
NewsOf b who (learned.Primary host url) entries = AreNews who (λ now. b.primary_at now host) entries
NewsOf b who learned.Nobody entries = entries ≡ []
NewsOf b who learned.Nothing entries = entries ≡ []

-- there is news of it
abbrev pub HasNews : Learned → Type 0
HasNews learned.Nobody = ⊥
HasNews learned.Nothing = ⊥
HasNews _ = Unit {0}

-- how a round ends in which this was learned: with the term that the node has then, and where the primary is found
abbrev pub end_of : Grant → Learned → KeepEnd
end_of own (learned.Granted term ttl) = ends.Done term None
end_of own learned.Lost = ends.Done 0 None
end_of own (learned.Primary host url) = ends.Done own.term (Some url)
end_of own learned.Nobody = ends.Nobody
end_of own learned.Nothing = ends.Done own.term None

-- ---- the round

-- why a round ends before anything was asked
abbrev pub EndsIdle : ℕ → KeepEnd → Type 0
EndsIdle budget (ends.Done term url) = ⊥
EndsIdle budget ends.Nobody = ⊥
EndsIdle budget ends.Turns = budget ≡ 0
EndsIdle budget _ = Unit {0}

-- how it ends behind an asking of which nothing is told
abbrev pub end_untold : Unlearned → KeepEnd
end_untold unlearned.Turns = ends.Turns
end_untold unlearned.NoMemory = ends.NoMemory

-- the machine was asked once
abbrev pub Asks : {Q A : Type 0} → ℕ → Q → List (Entry Q A) → List (Entry Q A) → Type 0
Asks {Q} {A} caller news old new = (answer : A) × (new ≡ old ++ entry caller news answer ∷ [])

-- why it was not
abbrev pub EndsTell : Type 0 → ℕ → KeepEnd → Type 0
EndsTell worn turns ends.Turns = turns ≡ 0
EndsTell worn turns ends.Worn = worn
EndsTell worn turns _ = ⊥

-- why news that were learned were not asked
abbrev pub EndsUntaken : KeepEnd → Type 0
EndsUntaken ends.Turns = Unit {0}
EndsUntaken ends.Worn = Unit {0}
EndsUntaken _ = ⊥

-- what was learned was told to the node, and the round ends so; or it was not
pub data Concludes {B Q A : Type 0} (b : BringingGhosts B Q) (who : Asker) (own : Grant) (l : Learned) (old new : List (Entry Q A)) (end : KeepEnd) : Type 0 where
  concluded : (news : List (Entry Q A)) → NewsOf b who l news → new ≡ old ++ news → end ≡ end_of own l → Concludes b who own l old new end
  unconcluded : HasNews l → new ≡ old → EndsUntaken end → Concludes b who own l old new end

-- how a round ends whose news were told, or not
abbrev pub ended_by : Result (Unit {0}) KeepEnd → ℕ → Option (List ℕ) → KeepEnd
ended_by (Ok _) term url = ends.Done term url
ended_by (Err end) term url = end

-- its asking was told to the node, and then the service was asked, and heard so
pub record AsksService {B Q A V : Type 0} (b : BringingGhosts B Q) (s : ServiceGhosts V) (who : Asker) (tell : Type 0) (asked : LeaseAsk) (heard : Result Learned Unlearned)
    (old new : KeepStand (Entry Q A) V) (behind : List (Entry Q A)) : Type 0 where
  pub first : Entry Q A
  pub asking : IsNews who b.asking_at first
  pub serves : Serves s tell asked heard old new
  pub entries : new.entries ≡ old.entries ++ first ∷ behind

-- A ROUND, and its end: nothing was asked and nothing dialed; or the service was asked, and nothing learned of it, since turns or memory
-- ran out; or what was learned was not told to the node; or it was told
pub data IsRound {B Q A V : Type 0} (b : BringingGhosts B Q) (s : ServiceGhosts V) (who : Asker) (tell : Type 0) (asked : LeaseAsk) (own : Grant) (budget : ℕ)
    (old new : KeepStand (Entry Q A) V) (end : KeepEnd) : Type 0 where
  unasked : new ≡ old → EndsIdle budget end → IsRound b s who tell asked own budget old new end
  unheard : (why : Unlearned) → AsksService b s who tell asked (Err why) old new [] → end ≡ end_untold why
      → IsRound b s who tell asked own budget old new end
  untaken : (l : Learned) → AsksService b s who tell asked (Ok l) old new [] → HasNews l
      → EndsUntaken end → IsRound b s who tell asked own budget old new end
  done : (l : Learned) (news : List (Entry Q A)) → AsksService b s who tell asked (Ok l) old new news
      → NewsOf b who l news → end ≡ end_of own l → IsRound b s who tell asked own budget old new end

-- ---- giving up

-- A LEASE GIVEN UP: no turn was to be had, and nothing was dialed; or the loss was told to the node, and then, where it has a term, the service was
-- asked to end it. Want of memory is told of an asking that ended by it alone
pub data GivesUp {B Q A V : Type 0} (b : BringingGhosts B Q) (s : ServiceGhosts V) (who : Asker) (tell : Type 0) (own : Grant) (budget : ℕ) (worn : Type 0)
    (old new : KeepStand (Entry Q A) V) (starves : Type 0) : Type 0 where
  unlost : new ≡ old → (budget ≡ 0) ⊎ worn → GivesUp b s who tell own budget worn old new starves
  lost : (news : List (Entry Q A)) → AreNews who b.lost_at news → own.term ≡ 0 → new ≡ record old { entries = old.entries ++ news }
      → GivesUp b s who tell own budget worn old new starves
  released : (news : List (Entry Q A)) (heard : Result Learned Unlearned) → AreNews who b.lost_at news → own.term ≢ 0
      → Serves s tell (ask.Release own.node own.term) heard old new → new.entries ≡ old.entries ++ news → (starves → heard ≡ Err unlearned.NoMemory)
      → GivesUp b s who tell own budget worn old new starves

-- the service was asked to end the term, however that ended
abbrev pub Releases : {V : Type 0} → ServiceGhosts V → Type 0 → Grant → DialStand → DialStand → V → V → Type 0 → Type 0
Releases s tell own old new service service_now starves =
    (heard : Result Learned Unlearned) × s.serves service (ask.Release own.node own.term) tell old new heard service_now × (starves → heard ≡ Err unlearned.NoMemory)
