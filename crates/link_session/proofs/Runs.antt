-- A seat's own steps in the one run of its machine.
use Rattle.std.proofs.Common.{◌≡◌, ◌∙◌, ℕ, Bool, true, false, cond, List, [], ◌∷◌, ◌++◌, refl, ap, subst}
use Rattle.std.specs.Prelude.{◌==◌, map, if◌then◌else◌}
use Rattle.std.specs.List.{AllByRecursion}
use Rattle.turn_desk.specs.declared.history.Entry.{Entry}
use Rattle.turn_desk.specs.declared.view.SeatView.{SeatView}
use Rattle.turn_desk.specs.History.{Run, calls_by}
use Rattle.link_session.specs.Runs.{HasRun, IsMade, MadeStep, entries_of, made_by}
use Rattle.link_session.specs.Seats.{HasGoneOn}

-- a list whose images are two lists, one behind the other, is two lists
pub split_map : {X Y : Type 0} (f : X → Y) (zs : List X) (xs ys : List Y) → map f zs ≡ xs ++ ys → (a : List X) × (b : List X) × (zs ≡ a ++ b) × (map f a ≡ xs) × (map f b ≡ ys)
split_map f zs [] ys same = ([], zs, refl, refl, same)
split_map f [] (x ∷ xs) ys same = absurd cc
split_map f (z ∷ zs) (x ∷ xs) ys same =
    let first : f z ≡ x = cc in
    let others : map f zs ≡ xs ++ ys = cc in
    let two = split_map f zs xs ys others in
    (z ∷ two.0, two.1, ap (λ l. z ∷ l) two.2, λ i. first i ∷ two.3 i, two.4)

-- what holds of each of two lists holds of each of the second
all_behind : {T : Type 0} (P : T → Type 0) (front back : List T) → AllByRecursion P (front ++ back) → AllByRecursion P back
all_behind P [] back all = all
all_behind P (x ∷ front) back all = all_behind P front back all.1

module _ {M Q A : Type 0} (steps : M → ℕ → Q → A → M → Type 0) where
  entries_one : (here : Bool) (step : MadeStep M Q A) (made : List (MadeStep M Q A)) (calls : List (Entry Q A)) → entries_of made ≡ calls
      → entries_of (if here then step ∷ made else made) ≡ cond here (step.entry ∷ calls) calls
  entries_one true step made calls same = ap (λ l. step.entry ∷ l) same
  entries_one false step made calls same = same

  -- the caller's own steps have its calls
  entries_made : (caller : ℕ) (start : M) (history : List (Entry Q A)) (last : M) (run : Run steps start history last) → entries_of (made_by steps caller start history last run) ≡ calls_by caller history
  entries_made caller start [] last run = refl
  entries_made caller start (e ∷ more) last run =
      entries_one (e.caller == caller) (record { before = start; entry = e; after = run.0 }) (made_by steps caller run.0 more last run.2) (calls_by caller more)
      (entries_made caller run.0 more last run.2)

  each_one : (here : Bool) (step : MadeStep M Q A) (made : List (MadeStep M Q A)) → IsMade steps step → AllByRecursion (IsMade steps) made → AllByRecursion (IsMade steps) (if here then step ∷ made else made)
  each_one true step made is all = (is, all)
  each_one false step made is all = all

  -- and each is one of the machine
  each_made : (caller : ℕ) (start : M) (history : List (Entry Q A)) (last : M) (run : Run steps start history last) → AllByRecursion (IsMade steps) (made_by steps caller start history last run)
  each_made caller start [] last run = tt
  each_made caller start (e ∷ more) last run =
      each_one (e.caller == caller) (record { before = start; entry = e; after = run.0 }) (made_by steps caller run.0 more last run.2) run.1
      (each_made caller run.0 more last run.2)

  -- a seat that has gone on, and made these calls meanwhile
  pub has_run : (opened : M) (number : ℕ) (before after : SeatView M Q A) (entries : List (Entry Q A)) → HasGoneOn steps opened number before after → after.mine ≡ before.mine ++ entries
      → HasRun steps opened number before after entries
  has_run opened number before after entries gone mine =
      let last : M = gone.legal.0 in
      let run : Run steps opened after.seen last = gone.legal.1 in
      let two = split_map (λ (s : MadeStep M Q A). s.entry) (made_by steps number opened after.seen last run) before.mine entries (entries_made number opened after.seen last run ∙ gone.own ∙ mine) in (
        two.1,
        two.4,
        record {
          last = last;
          run = run;
          longer = gone.longer;
          earlier = two.0;
          own = two.2;
          had = two.3;
          each = all_behind (IsMade steps) two.0 two.1 (subst (λ made. AllByRecursion (IsMade steps) made) two.2 (each_made number opened after.seen last run));
        },
      )
