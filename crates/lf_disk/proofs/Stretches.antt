-- How a stretch goes on.
use Rattle.std.proofs.Common.{◌≡◌, inl, inr, ℕ, Result, subst, arith}
use Rattle.std.proofs.lemmas.Bool.{cases_lt}
use Rattle.lf_disk.specs.Folder.{Folder}
use Rattle.lf_disk.specs.Change.{Step}
use Rattle.lf_disk.specs.History.{History, may_leave, Ticks, Moves, EachMoment}
use Rattle.lf_disk.proofs.Moments.{past_stays, past_joins}
use Rattle.lf_disk.specs.Stretch.{Stretch}

-- every folder is a step from itself, and two steps are one
pub record IsPath (step : Step) : Type 0 where
  pub stays : (f : Folder) → step f f
  pub joins : (f g h : Folder) → step f g → step g h → step f h

pub begins : (h : History) (step : Step) → IsPath step → Stretch step h h
begins h step path = record {
  later = omega arith;
  each = λ t c early late left. let now : t ≡ h.moment = omega arith in (c, subst (λ (m : ℕ). h.leaves m c) now left, path.stays c);
  past = past_stays h;
}

-- one changing call more
pub goes_on : {T E : Type 0} (result : Result T E) (old mid new : History) (step sees leaves : Step) → IsPath step → Stretch step old mid → Ticks result mid new →
    Moves sees leaves mid new → ((f g : Folder) → leaves f g → step f g) → Stretch step old new
goes_on result old mid new step sees leaves path so_far ticks moves fits = record {
  later = omega (arith, so_far.later, ticks.later);
  each = λ t c early late left. elim (cases_lt mid.moment t) [
    | inl after ↦
        let now : t ≡ new.moment = omega (arith, ticks.by_one) in
        let from = moves.left c (subst (λ (m : ℕ). new.leaves m c) now left) in
        let first = so_far.each mid.moment from.0 so_far.later (omega arith) from.1 in
        (first.0, first.1, path.joins first.0 from.0 c first.2 (fits from.0 c from.2))
    | inr before ↦ so_far.each t c early before (ticks.past.no_more t c before left)
  ];
  past = past_joins old mid new so_far.later so_far.past ticks.past;
}

-- one stretch after another
pub joined : (old mid new : History) (step : Step) → IsPath step → Stretch step old mid → Stretch step mid new → Stretch step old new
joined old mid new step path first second = record {
  later = omega (arith, first.later, second.later);
  each = λ t c early late left. elim (cases_lt mid.moment t) [
    | inl after ↦
        let from = second.each t c (omega arith) late left in
        let start = first.each mid.moment from.0 first.later (omega arith) from.1 in
        (start.0, start.1, path.joins start.0 from.0 c start.2 from.2)
    | inr before ↦ first.each t c early before (second.past.no_more t c before left)
  ];
  past = past_joins old mid new first.later first.past second.past;
}

pub weakened : (old new : History) (step other : Step) → Stretch step old new → ((f g : Folder) → step f g → other f g) → Stretch other old new
weakened old new step other run follows = record {
  later = run.later;
  each = λ t c early late left. let from = run.each t c early late left in (from.0, from.1, follows from.0 c from.2);
  past = run.past;
}

-- what holds of all that a crash leaves at first, and is kept by the step, holds at each moment
pub each_moment : (old new : History) (step : Step) (P : Folder → Type 0) → Stretch step old new → ((c : Folder) → may_leave old c → P c) → ((f g : Folder) → P f → step f g → P g) → EachMoment old new P
each_moment old new step P run first kept = record {
  later = run.later;
  each = λ t c early late left. let from = run.each t c early late left in kept from.0 c (first from.0 from.1) from.2;
  past = run.past;
}
