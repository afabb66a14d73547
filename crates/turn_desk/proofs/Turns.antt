-- What a seat knows on its way through a turn.
use Rattle.std.proofs.Common.{◌≡◌, ℕ, ◌+◌, ◌*◌, ◌^◌, ◌<◌, true, List, [], ◌∷◌, ◌++◌, length, length-append, sym, ap, ◌∙◌, subst, arith, Option, Some, None}
use Rattle.atomic_table.specs.Table.{Me, rest}
use Rattle.turn_desk.specs.declared.history.Entry.{Entry}
use Rattle.turn_desk.specs.declared.slot.SlotValue.{SlotValue}
use Rattle.turn_desk.specs.declared.view.SeatView.{SeatView}
use Rattle.turn_desk.specs.History.{StartsWith, calls_by, entry, Run}
use Rattle.turn_desk.specs.Moves.{Took, noted, extended, last_of, given}
use Rattle.turn_desk.specs.Calls.{IsSeated, HasStepped, IsTakenTurn, IsLast, EndsRun}
use Rattle.turn_desk.proofs.Lists.{calls_mine, run_more}

-- what the slot that was taken last has
abbrev in_slot : {T : Type 0} → List (ℕ × Option T) → Option T
in_slot [] = None
in_slot (x ∷ xs) = x.1

module _ {M Q A : Type 0} where
  -- the turn is held and the machine in hand, t, is the one that the history seen leads to
  pub record InHand (steps : M → ℕ → Q → A → M → Type 0) (start : M) (before : SeatView M Q A) (c n : ℕ) (t : SlotValue M Q A) (now : SeatView M Q A) : Type 0 where
    pub holds : now.holds ≡ true
    pub number_is : now.number ≡ Some c
    pub opened : now.opened ≡ Some start
    pub longer : StartsWith now.seen before.seen
    pub own : calls_by c now.seen ≡ now.mine
    pub mine : now.mine ≡ before.mine
    pub count : n ≡ 2 * length now.seen
    pub run : Run steps start now.seen t.machine
    pub turn_words : now.turn_words ≡ before.turn_words ++ n ∷ []
    pub greatest_number : now.greatest_number ≡ before.greatest_number

  -- the load before the take found the number that the take expects
  pub as_noted : (steps : M → ℕ → Q → A → M → Type 0) (n k : ℕ) (me load take : Me (Option (SlotValue M Q A)) (SeatView M Q A)) → load ≡ (noted me.0 n, me.1) → Took steps load.0 k take.0 take.1 → Took steps (noted me.0 n) k take.0 take.1
  as_noted steps n k me load take look took = subst (λ (m : Me (Option (SlotValue M Q A)) (SeatView M Q A)). Took steps m.0 k take.0 take.1) look took

  pub in_hand : (steps : M → ℕ → Q → A → M → Type 0) (start : M) (c n : ℕ) (me take : Me (Option (SlotValue M Q A)) (SeatView M Q A)) (r : Option (SlotValue M Q A)) (t : SlotValue M Q A)
      → me.0.opened ≡ Some start → IsSeated me c → Took steps (noted me.0 n) n take.0 take.1 → take.1 ≡ (0, r) ∷ rest take.1 → r ≡ Some t → InHand steps start me.0 c n t take.0
  in_hand steps start c n me take r t opened seated took read is =
      let same : Some took.value ≡ Some t = ap in_slot (sym took.out ∙ read) ∙ is in
      let value : took.value ≡ t = cc in
      let v : take.0 ≡ record (noted me.0 n) { holds = true; seen = take.0.seen; met = [] } = took.view in
      let mine : take.0.mine ≡ me.0.mine = ap (λ (z : SeatView M Q A). z.mine) v in record {
        holds = ap (λ (z : SeatView M Q A). z.holds) v;
        number_is = ap (λ (z : SeatView M Q A). z.number) v ∙ seated.number_is;
        opened = ap (λ (z : SeatView M Q A). z.opened) v ∙ opened;
        longer = took.longer;
        own = took.own c seated.number_is ∙ sym mine;
        mine = mine;
        count = took.count;
        run = subst (λ (z : SlotValue M Q A). Run steps start take.0.seen z.machine) value (took.run start opened);
        turn_words = ap (λ (z : SeatView M Q A). z.turn_words) v;
        greatest_number = ap (λ (z : SeatView M Q A). z.greatest_number) v;
      }

  -- out and home: the slot's value is read, and the stepped one is written
  pub home_again : (steps : M → ℕ → Q → A → M → Type 0) (start : M) (c n : ℕ) (me take out home : Me (Option (SlotValue M Q A)) (SeatView M Q A)) (r : Option (SlotValue M Q A)) (t t' : SlotValue M Q A)
      → me.0.opened ≡ Some start → IsSeated me c → Took steps (noted me.0 n) n take.0 take.1 → take.1 ≡ (0, r) ∷ rest take.1 → out ≡ (take.0, (0, None) ∷ rest take.1) → r ≡ Some t
      → home ≡ (out.0, (0, Some t') ∷ rest out.1) → InHand steps start me.0 c n t home.0 × (home.1 ≡ (0, Some t') ∷ [])
  home_again steps start c n me take out home r t t' opened seated took read went is came =
      let view : home.0 ≡ take.0 = ap (λ m. m.0) came ∙ ap (λ m. m.0) went in
      let none_else : rest take.1 ≡ [] = ap rest took.out in (
        subst (InHand steps start me.0 c n t) (sym view) (in_hand steps start c n me take r t opened seated took read is),
        ap (λ m. m.1) came ∙ (ap (λ m. (0, Some t') ∷ rest m.1) went ∙ ap (λ z. (0, Some t') ∷ z) none_else),
      )

  -- the turn was taken for good
  pub ends : (steps : M → ℕ → Q → A → M → Type 0) (start : M) (n : ℕ) (old : SeatView M Q A) (loop take : Me (Option (SlotValue M Q A)) (SeatView M Q A)) (r : Option (SlotValue M Q A)) (t : SlotValue M Q A)
      → loop.0.opened ≡ Some start → Took steps (noted loop.0 n) n take.0 take.1 → take.1 ≡ (0, r) ∷ rest take.1 → r ≡ Some t
      → loop.0.number ≡ old.number → loop.0.seen ≡ old.seen → loop.0.mine ≡ old.mine → EndsRun steps start old t.machine
  ends steps start n old loop take r t opened took read is number seen mine =
      let same : Some took.value ≡ Some t = ap in_slot (sym took.out ∙ read) ∙ is in
      let value : took.value ≡ t = cc in (
        take.0.seen,
        subst (λ (z : SlotValue M Q A). Run steps start take.0.seen z.machine) value (took.run start opened),
        subst (λ z. StartsWith take.0.seen z) seen took.longer,
        (λ k is_k. took.own k (number ∙ is_k) ∙ mine),
      )

  -- after the turn was given up
  pub record Done (steps : M → ℕ → Q → A → M → Type 0) (start : M) (before : SeatView M Q A) (c : ℕ) (q : Q) (a : A) (now : Me (Option (SlotValue M Q A)) (SeatView M Q A)) : Type 0 where
    pub ready : IsSeated now c
    pub opened : now.0.opened ≡ Some start
    pub stepped : HasStepped steps start before c q a now.0
    pub turn : IsTakenTurn before.turn_words now.0
    pub greatest_number : now.0.greatest_number ≡ before.greatest_number

  pub done : (steps : M → ℕ → Q → A → M → Type 0) (start : M) (c n : ℕ) (me : SeatView M Q A) (t t' : SlotValue M Q A) (q : Q) (a : A) (home now : Me (Option (SlotValue M Q A)) (SeatView M Q A))
      → n < 2 ^ 63 → InHand steps start me c n t home.0 → home.1 ≡ (0, Some t') ∷ [] → IsLast t'.last q a → steps t.machine c q a t'.machine → now ≡ (given home.0.number (last_of home.1) home.0, []) → Done steps start me c q a now
  done steps start c n me t t' q a home now room h out last step gave =
      let o : last_of home.1 ≡ Some last.0 = ap last_of out ∙ last.1 in
      let v : now.0 ≡ extended home.0 c q a = ap (λ m. m.0) gave ∙ ((λ i. given (h.number_is i) (o i) home.0) ∙ (λ i. extended home.0 c (last.2 i) (last.3 i))) in
      let e : Entry Q A = entry c q a in
      let seen : now.0.seen ≡ home.0.seen ++ e ∷ [] = ap (λ (z : SeatView M Q A). z.seen) v in
      let mine : now.0.mine ≡ home.0.mine ++ e ∷ [] = ap (λ (z : SeatView M Q A). z.mine) v in
      let own : calls_by c now.0.seen ≡ now.0.mine = ap (calls_by c) seen ∙ (calls_mine c q a home.0.seen ∙ (ap (λ z. z ++ e ∷ []) h.own ∙ sym mine)) in
      let long : length now.0.seen ≡ length home.0.seen + 1 = ap length seen ∙ length-append home.0.seen (e ∷ []) in
      let count = h.count in record {
        opened = ap (λ (z : SeatView M Q A). z.opened) v ∙ h.opened;
        ready = record {
          number_is = ap (λ (z : SeatView M Q A). z.number) v ∙ h.number_is;
          idle = ap (λ (z : SeatView M Q A). z.holds) v;
          empty = ap (λ m. m.1) gave;
          own = own;
        };
        stepped = record {
          legal = (t'.machine, subst (λ z. Run steps start z t'.machine) (sym seen) (run_more steps start home.0.seen t.machine c q a t'.machine h.run step));
          history = (h.longer.0, seen ∙ ap (λ z. z ++ e ∷ []) (sym h.longer.1));
          mine = mine ∙ ap (λ z. z ++ e ∷ []) h.mine;
          own = own;
          editions = omega (arith, long, count, room);
        };
        turn = (n, ap (λ (z : SeatView M Q A). z.turn_words) v ∙ h.turn_words, omega (arith, long, count));
        greatest_number = ap (λ (z : SeatView M Q A). z.greatest_number) v ∙ h.greatest_number;
      }
