-- Steps of a desk's machine.
use Rattle.std.proofs.Common.{◌≡◌, ℕ, List, [], ◌∷◌, ◌++◌, sym, ap, ◌∙◌, subst, append_assoc, Result, Ok, Err, IfOk, OnErr}
use Rattle.turn_desk.specs.declared.history.Entry.{Entry}
use Rattle.turn_desk.specs.declared.view.SeatView.{SeatView}
use Rattle.turn_desk.specs.History.{IsLegal, Run, StartsWith, calls_by, entry}
use Rattle.turn_desk.specs.Calls.{HasStepped, IsSameHistory}
use Rattle.turn_desk.proofs.Lists.{starts_refl}
use Rattle.link_session.specs.declared.seat.SeatPlace.{SeatPlace}
use Rattle.link_session.specs.Seats.{Gives, HasGoneOn, HasSeen}

-- the last entry of a run is a step of the machine
last_step : {M Q A : Type 0} (steps : M → ℕ → Q → A → M → Type 0) (start : M) (es : List (Entry Q A)) (e : Entry Q A) (state : M)
    → Run steps start (es ++ e ∷ []) state → Gives steps e.ask e.answer
last_step steps start [] e state r = (start, r.0, e.caller, r.1)
last_step steps start (x ∷ es) e state r = last_step steps r.0 es e state r.2

pub step_gives : {M Q A : Type 0} (steps : M → ℕ → Q → A → M → Type 0) (opened : M) (before after : SeatView M Q A) (number : ℕ) (ask : Q) (answer : A)
    → HasStepped steps opened before number ask answer after → Gives steps ask answer
step_gives steps opened before after number ask answer h =
    last_step steps opened (before.seen ++ h.history.0) (entry number ask answer) h.legal.0
    (subst (λ seen. Run steps opened seen h.legal.0) h.history.1 h.legal.1)

pub if_ok : {T F : Type 0} {P R : T → Type 0} (r : Result T F) → ((x : T) → P x → R x) → IfOk r P → IfOk r R
if_ok (Ok x) f p = f x p
if_ok (Err e) f p = tt

-- a step begins with all that began what was seen before it
still_begins : {Q A : Type 0} (seen after front between last : List (Entry Q A)) → StartsWith seen front → after ≡ (seen ++ between) ++ last → StartsWith after front
still_begins seen after front between last (r, e) is = (
  r ++ (between ++ last),
  sym (append_assoc front r (between ++ last)) ∙ ap (λ z. z ++ (between ++ last)) e ∙ sym (append_assoc seen between last) ∙ sym is,
)

pub goes_on : {M Q A F : Type 0} (steps : M → ℕ → Q → A → M → Type 0) (opened : M) (before after : SeatView M Q A) (number : ℕ) (ask : Q) (r : Result A F)
    → IfOk r (λ answer. HasStepped steps opened before number ask answer after) → OnErr r (IsSameHistory before after)
    → (front : List (Entry Q A)) → HasSeen steps opened before.seen front → HasSeen steps opened after.seen front
goes_on steps opened before after number ask (Ok answer) h same front s =
    record { legal = h.legal; begins = still_begins before.seen after.seen front h.history.0 (entry number ask answer ∷ []) s.begins h.history.1 }
goes_on steps opened before after number ask (Err e) h same front s = subst (λ seen. HasSeen steps opened seen front) (sym same.0) s

-- a seat that looked at its desk, and then was in use
pub has_gone_on : {M Q A D : Type 0} (steps : M → ℕ → Q → A → M → Type 0) (machine : D → M) (place place_now : SeatPlace D) (number : ℕ) (before looked after : SeatView M Q A)
    → IsLegal steps (machine place.desk) looked.seen → looked.seen ≡ before.seen → place_now ≡ place
    → ((front : List (Entry Q A)) → HasSeen steps (machine place.desk) looked.seen front → HasSeen steps (machine place_now.desk) after.seen front)
    → calls_by number after.seen ≡ after.mine → HasGoneOn steps (machine place.desk) number before after
has_gone_on {D = D} steps machine place place_now number before looked after legal same here on own =
    let s = on before.seen (record { legal = legal; begins = subst (λ seen. StartsWith looked.seen seen) same (starts_refl looked.seen) }) in
    record { legal = subst (λ (p : SeatPlace D). IsLegal steps (machine p.desk) after.seen) here s.legal; longer = s.begins; own = own }
