-- How a run of calls goes on, moment by moment.
use Rattle.std.proofs.Common.{◌≡◌, inl, inr, ℕ, ◌≤◌, Result, refl, ◌∙◌, subst, arith}
use Rattle.std.proofs.lemmas.Bool.{cases_lt}
use Rattle.lf_disk.specs.Folder.{Folder}
use Rattle.lf_disk.specs.History.{History, may_leave, KeepsPast, Rests, Ticks, EachMoment}

pub past_stays : (h : History) → KeepsPast h h
past_stays h = record { seen = λ t n early. refl; no_more = λ t c early left. left; no_fewer = λ t c early left. left }

pub past_joins : (old mid new : History) → old.moment ≤ mid.moment → KeepsPast old mid → KeepsPast mid new → KeepsPast old new
past_joins old mid new later first second = record {
  seen = λ t n early. second.seen t n (omega arith) ∙ first.seen t n early;
  no_more = λ t c early left. first.no_more t c early (second.no_more t c (omega arith) left);
  no_fewer = λ t c early left. second.no_fewer t c (omega arith) (first.no_fewer t c early left);
}

-- before the first call
pub started : (h : History) (P : Folder → Type 0) → ((c : Folder) → may_leave h c → P c) → EachMoment h h P
started h P here = record {
  later = omega arith;
  each = λ t c early late left. let now : t ≡ h.moment = omega arith in here c (subst (λ (m : ℕ). h.leaves m c) now left);
  past = past_stays h;
}

-- one changing call more, after which a crash leaves what has P
pub goes_on : {T E : Type 0} (result : Result T E) (old mid new : History) (P : Folder → Type 0) → EachMoment old mid P → Ticks result mid new → ((c : Folder) → may_leave new c → P c) → EachMoment old new P
goes_on result old mid new P so_far ticks here = record {
  later = omega (arith, so_far.later, ticks.later);
  each = λ t c early late left. elim (cases_lt mid.moment t) [
    | inl after ↦ let now : t ≡ new.moment = omega (arith, ticks.by_one) in here c (subst (λ (m : ℕ). new.leaves m c) now left)
    | inr before ↦ so_far.each t c early before (ticks.past.no_more t c before left)
  ];
  past = past_joins old mid new so_far.later so_far.past ticks.past;
}

-- one call that changes nothing
pub rests_on : (old mid new : History) (P : Folder → Type 0) → EachMoment old mid P → Rests mid new → EachMoment old new P
rests_on old mid new P so_far rests = record {
  later = omega (arith, so_far.later, rests.moment);
  each = λ t c early late left. let before : t ≤ mid.moment = omega (arith, rests.moment) in so_far.each t c early before (rests.past.no_more t c before left);
  past = past_joins old mid new so_far.later so_far.past rests.past;
}

-- one stretch after another
pub joined : (old mid new : History) (P : Folder → Type 0) → EachMoment old mid P → EachMoment mid new P → EachMoment old new P
joined old mid new P first second = record {
  later = omega (arith, first.later, second.later);
  each = λ t c early late left. elim (cases_lt mid.moment t) [
    | inl after ↦ second.each t c (omega arith) late left
    | inr before ↦ first.each t c early before (second.past.no_more t c before left)
  ];
  past = past_joins old mid new first.later first.past second.past;
}

-- what follows from P holds too
pub weakened : (old new : History) (P Q : Folder → Type 0) → EachMoment old new P → ((c : Folder) → P c → Q c) → EachMoment old new Q
weakened old new P Q run follows = record {
  later = run.later;
  each = λ t c early late left. follows c (run.each t c early late left);
  past = run.past;
}
