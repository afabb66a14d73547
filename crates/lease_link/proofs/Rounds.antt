-- A round put together of what its calls did.
use Rattle.std.proofs.Common.{◌≡◌, ◌⊎◌, inl, inr, ℕ, Bool, IsTrue, List, [], ◌∷◌, ◌++◌, Option, Result, Ok, Err, OnOk, OnErr, IfErr, refl, sym, ap, ◌∙◌, subst, append_assoc}
use Rattle.turn_desk.specs.declared.history.Entry.{Entry}
use Rattle.turn_desk.specs.History.{entry}
use Rattle.link_session.specs.Stands.{Asker}
use Rattle.lease_core.specs.declared.grant.Grant.{Grant}
use Rattle.lease_core.specs.declared.lease_ask.LeaseAsk.{LeaseAsk}
use Rattle.lease_link.specs.declared.bringing.Bringing.{Ghosts as BringingGhosts}
use Rattle.lease_link.specs.declared.keep_end.KeepEnd.{KeepEnd}
use Rattle.lease_link.specs.declared.keep_end.KeepEnd.TheVariants as ends
use Rattle.lease_link.specs.declared.learned.Learned.{Learned}
use Rattle.lease_link.specs.declared.learned.Learned.TheVariants as learned
use Rattle.lease_link.specs.declared.service.Service.{Ghosts as ServiceGhosts}
use Rattle.lease_link.specs.declared.unlearned.Unlearned.{Unlearned}
use Rattle.lease_link.specs.Asking.{DialStand}
use Rattle.lease_link.specs.Keeping.{AreNews, Asks, AsksService, Concludes, EndsIdle, EndsTell, EndsUntaken, HasNews, IsNews, IsRound, KeepStand, NewsOf, Serves, concluded, done, end_of, ended_by, keep_stand, unconcluded, untaken}

-- the first news of a round, or its last
pub first_news : {Q A : Type 0} (who : Asker) (at : ℕ → Q) (now : ℕ) (news : Q) (old new : List (Entry Q A)) → IsTrue (who.may now) → news ≡ at now
    → Asks who.caller news old new → (first : Entry Q A) × IsNews who at first × (new ≡ old ++ first ∷ [])
first_news who at now news old new given same asks =
    (entry who.caller news asks.0, record { caller = refl; now = now; given = given; asked = same }, asks.1)

-- nothing was asked
pub idle_end : (worn : Type 0) (turns budget : ℕ) (end : KeepEnd) → turns ≡ budget → EndsTell worn turns end → EndsIdle budget end
idle_end worn turns budget (ends.Done term url) same e = absurd e
idle_end worn turns budget ends.Nobody same e = absurd e
idle_end worn turns budget ends.Turns same e = sym same ∙ e
idle_end worn turns budget ends.Worn same e = tt
idle_end worn turns budget ends.NoMemory same e = tt

pub idle_loss : (worn : Type 0) (turns budget : ℕ) (end : KeepEnd) → turns ≡ budget → EndsTell worn turns end → (budget ≡ 0) ⊎ worn
idle_loss worn turns budget (ends.Done term url) same e = absurd e
idle_loss worn turns budget ends.Nobody same e = absurd e
idle_loss worn turns budget ends.Turns same e = inl (sym same ∙ e)
idle_loss worn turns budget ends.Worn same e = inr e
idle_loss worn turns budget ends.NoMemory same e = absurd e

-- the desk was found worn
pub worn_end : (worn : Type 0) (turns : ℕ) (end : KeepEnd) → EndsTell worn turns end → end ≡ ends.Worn → worn
worn_end worn turns (ends.Done term url) e is = absurd e
worn_end worn turns ends.Nobody e is = absurd e
worn_end worn turns ends.Turns e is = absurd (cc is)
worn_end worn turns ends.Worn e is = e
worn_end worn turns ends.NoMemory e is = absurd e

untaken_end : (worn : Type 0) (turns : ℕ) (end : KeepEnd) → EndsTell worn turns end → EndsUntaken end
untaken_end worn turns (ends.Done term url) e = absurd e
untaken_end worn turns ends.Nobody e = absurd e
untaken_end worn turns ends.Turns e = tt
untaken_end worn turns ends.Worn e = tt
untaken_end worn turns ends.NoMemory e = absurd e

pub worn_told : (worn : Type 0) (turns : ℕ) (told : Result (Unit {0}) KeepEnd) (term : ℕ) (url : Option (List ℕ)) (end : KeepEnd) → IfErr told (EndsTell worn turns)
    → end ≡ ended_by told term url → end ≡ ends.Worn → worn
worn_told worn turns (Ok x) term url end cause same is = absurd (cc (same, is))
worn_told worn turns (Err e) term url end cause same is = worn_end worn turns e cause (sym same ∙ is)

-- news of what was learned were told, or not
pub concludes_by : {B Q A : Type 0} (b : BringingGhosts B Q) (who : Asker) (own : Grant) (l : Learned) (at : ℕ → Q) (now : ℕ) (news : Q) (worn : Type 0) (turns : ℕ)
    (told : Result (Unit {0}) KeepEnd) (old new : List (Entry Q A)) (term : ℕ) (url : Option (List ℕ)) (end : KeepEnd)
    → ((entries : List (Entry Q A)) → AreNews who at entries → NewsOf b who l entries) → HasNews l → end_of own l ≡ ends.Done term url
    → IsTrue (who.may now) → news ≡ at now → OnOk told (Asks who.caller news old new) → OnErr told (new ≡ old) → IfErr told (EndsTell worn turns)
    → end ≡ ended_by told term url → Concludes b who own l old new end
concludes_by b who own l at now news worn turns (Ok x) old new term url end are some ends_so given same asks still cause is =
    let first = first_news who at now news old new given same asks in
    concluded (first.0 ∷ []) (are (first.0 ∷ []) (first.0, first.1, refl)) first.2 (is ∙ sym ends_so)
concludes_by b who own l at now news worn turns (Err e) old new term url end are some ends_so given same asks still cause is =
    unconcluded some still (subst EndsUntaken (sym is) (untaken_end worn turns e cause))

pub nothing_behind : {E : Type 0} (xs : List E) → xs ++ [] ≡ xs
nothing_behind [] = refl
nothing_behind (x ∷ xs) = ap (λ l. x ∷ l) (nothing_behind xs)

-- what was asked and heard is this
pub served_as : {V : Type 0} (s : ServiceGhosts V) (tell : Type 0) (said asked : LeaseAsk) (heard meant : Result Learned Unlearned) (old new : DialStand) (service now : V)
    → said ≡ asked → heard ≡ meant → s.serves service said tell old new heard now → s.serves service asked tell old new meant now
served_as s tell said asked heard meant old new service now same is serves =
    subst (λ (a : LeaseAsk). s.serves service a tell old new meant now) same
    (subst (λ (h : Result Learned Unlearned). s.serves service said tell old new h now) is serves)

-- the service was asked behind the news of it
pub asked_behind : {B Q A V : Type 0} (b : BringingGhosts B Q) (s : ServiceGhosts V) (who : Asker) (tell : Type 0) (asked : LeaseAsk) (heard : Result Learned Unlearned)
    (old new : KeepStand (Entry Q A) V) (between behind : List (Entry Q A)) (first : Entry Q A) → IsNews who b.asking_at first → between ≡ old.entries ++ first ∷ []
    → Serves s tell asked heard old new → new.entries ≡ between ++ behind → AsksService b s who tell asked heard old new behind
asked_behind b s who tell asked heard old new between behind first asking same serves more = record {
  first = first;
  asking = asking;
  serves = serves;
  entries = more ∙ ap (λ l. l ++ behind) same ∙ append_assoc old.entries (first ∷ []) behind;
}

-- the round to its end
pub round_ended : {B Q A V : Type 0} (b : BringingGhosts B Q) (s : ServiceGhosts V) (who : Asker) (tell : Type 0) (asked : LeaseAsk) (own : Grant) (budget : ℕ)
    (old new : KeepStand (Entry Q A) V) (end : KeepEnd) (l : Learned) (between : List (Entry Q A)) (first : Entry Q A)
    → IsNews who b.asking_at first → between ≡ old.entries ++ first ∷ [] → Serves s tell asked (Ok l) old new
    → Concludes b who own l between new.entries end → IsRound b s who tell asked own budget old new end
round_ended b s who tell asked own budget old new end l between first asking same serves (concluded news is more end_is) =
    done l news (asked_behind b s who tell asked (Ok l) old new between news first asking same serves more) is end_is
round_ended b s who tell asked own budget old new end l between first asking same serves (unconcluded some still why) =
    untaken l (asked_behind b s who tell asked (Ok l) old new between [] first asking same serves (still ∙ sym (nothing_behind between))) some why

-- the same by a seat, of which a look at its desk changed neither its number nor its entries
pub by_seat : {B Q A V : Type 0} (b : BringingGhosts B Q) (s : ServiceGhosts V) (caller looked : ℕ) (may : ℕ → Bool) (tell : Type 0) (asked : LeaseAsk) (own : Grant) (budget : ℕ)
    (mine seen : List (Entry Q A)) (dialed : DialStand) (service : V) (new : KeepStand (Entry Q A) V) (end : KeepEnd) → looked ≡ caller → seen ≡ mine
    → IsRound b s (record { caller = looked; may = may }) tell asked own budget (keep_stand seen dialed service) new end
    → IsRound b s (record { caller = caller; may = may }) tell asked own budget (keep_stand mine dialed service) new end
by_seat {Q = Q} {A = A} b s caller looked may tell asked own budget mine seen dialed service new end number entries round =
    subst (λ (n : ℕ). IsRound b s (record { caller = n; may = may }) tell asked own budget (keep_stand mine dialed service) new end) number
    (subst (λ (m : List (Entry Q A)). IsRound b s (record { caller = looked; may = may }) tell asked own budget (keep_stand m dialed service) new end) entries round)
