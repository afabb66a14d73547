-- Each step keeps the rule of the table.
use Rattle.std.proofs.Common.{◌≡◌, ◌≢◌, ◌⊎◌, ℕ, ◌+◌, ◌*◌, ◌%◌, ◌^◌, ◌<◌, ◌≤◌, eqb, Bool, true, false, List, [], ◌∷◌, ◌++◌, length, length-append, ◌==◌, get_or, set, sym, refl, nat_le, if◌then◌else◌, zero, suc, ap, ◌∙◌, subst, ⊎_elim, inl, inr, arith, Option, Some, None}
use mathlib.Core.Option.{none, some, some-injective, some-ne-none}
use Rattle.std.proofs.lemmas.Bool.{leb-true, leb-false}
use lib.ListN.{get_elem?}
use lib.Seq.{set-get_or}
use prog.Atomic.{either}
use Rattle.atomic_table.specs.Table.{State, Me, step, Act, keeps, takes, gives, put_back, rest, carried_after, Valid, stepped, Allows, Splits, Joins, opening}
use Rattle.atomic_table.proofs.Lists.{at_set, set_again, at_snoc, exchanged}
use Rattle.turn_desk.specs.declared.history.Entry.{Entry}
use Rattle.turn_desk.specs.declared.slot.SlotValue.{SlotValue}
use Rattle.turn_desk.specs.declared.slot.LastStep.{LastStep}
use Rattle.turn_desk.specs.declared.view.SeatView.{SeatView}
use Rattle.turn_desk.specs.History.{StartsWith, calls_by, entry, Run, IsLegal}
use Rattle.turn_desk.specs.Rule.{Fits, Free, Held, Kept, first_view}
use Rattle.turn_desk.specs.Moves.{noted, turn_loaded, turn_taken, extended, last_of, given, turn_given, number_loaded, number_drawn, met_told, newcomer, spent, joined}
use Rattle.turn_desk.proofs.Lists.{starts_refl, starts_more, starts_length, two_starts, kept_between, calls_mine, calls_others, run_more}

-- a seat that has no number that the other has not, and holds the turn only where the other does
abbrev Calmer : {M Q A : Type 0} → SeatView M Q A → SeatView M Q A → Type 0
Calmer w v = ((n : ℕ) → w.number ≡ Some n → v.number ≡ Some n) × (w.holds ≡ true → v.holds ≡ true)

only : {X : Type 0} (x : X) (i : ℕ) (v : X) → get_elem? (x ∷ []) i ≡ some v → (i ≡ 0) × (x ≡ v)
only x zero v e = (refl, some-injective x v e)
only x (suc i) v e = absurd (some-ne-none v (sym e))

not_both : {b : Bool} → b ≡ false → ¬ (b ≡ true)
not_both f t = cc

some_number : (n : ℕ) (o : Option ℕ) → o ≡ None → ¬ (o ≡ Some n)
some_number n o a b = cc

module _ {M Q A : Type 0} where
  views_all : (P : SeatView M Q A → Type 0) (vs : List (SeatView M Q A)) (id : ℕ) (w : SeatView M Q A) → P w → ((j : ℕ) (d : SeatView M Q A) → j ≢ id → get_elem? vs j ≡ some d → P d)
      → (j : ℕ) (d : SeatView M Q A) → get_elem? (set vs id w) j ≡ some d → P d
  views_all P vs id w mine others j d at = ⊎_elim (λ (t : (j ≡ id) × (w ≡ d)). subst P t.1 mine) (λ (t : (j ≢ id) × (get_elem? vs j ≡ some d)). others j d t.0 t.1) (at_set vs id j w d at)

  -- what stood at the place before
  back : (vs : List (SeatView M Q A)) (id : ℕ) (v w : SeatView M Q A) → get_elem? vs id ≡ some v → Calmer w v → (j : ℕ) (d : SeatView M Q A) → get_elem? (set vs id w) j ≡ some d
      → (e : SeatView M Q A) × (get_elem? vs j ≡ some e) × Calmer d e
  back vs id v w here calm j d at = ⊎_elim
      (λ (t : (j ≡ id) × (w ≡ d)). (v, ap (get_elem? vs) t.0 ∙ here, subst (λ z. Calmer z v) t.1 calm))
      (λ (t : (j ≢ id) × (get_elem? vs j ≡ some d)). (d, t.1, ((λ n e. e), (λ e. e)))) (at_set vs id j w d at)

  abbrev Apart : List (SeatView M Q A) → Type 0
  Apart vs = (i j n : ℕ) (v w : SeatView M Q A) → get_elem? vs i ≡ some v → get_elem? vs j ≡ some w → v.number ≡ Some n → w.number ≡ Some n → i ≡ j

  still_apart : (vs : List (SeatView M Q A)) (id : ℕ) (v w : SeatView M Q A) → get_elem? vs id ≡ some v → ((n : ℕ) → w.number ≡ Some n → v.number ≡ Some n) → Apart vs → Apart (set vs id w)
  still_apart vs id v w here calm apart i j n a b at_i at_j na nb =
      let old : (j : ℕ) (d : SeatView M Q A) → get_elem? (set vs id w) j ≡ some d → (e : SeatView M Q A) × (get_elem? vs j ≡ some e) × (d.number ≡ Some n → e.number ≡ Some n) =
      λ j d at. ⊎_elim
      (λ (t : (j ≡ id) × (w ≡ d)). (v, ap (get_elem? vs) t.0 ∙ here, (λ h. calm n (ap (λ (z : SeatView M Q A). z.number) t.1 ∙ h))))
      (λ (t : (j ≢ id) × (get_elem? vs j ≡ some d)). (d, t.1, (λ h. h))) (at_set vs id j w d at) in
      let x = old i a at_i in
      let y = old j b at_j in
      apart i j n x.0 y.0 x.1 y.1 (x.2 na) (y.2 nb)

  module _ (steps : M → ℕ → Q → A → M → Type 0) (start : M) where
    abbrev St : Type 0
    St = State (Option (SlotValue M Q A)) (SeatView M Q A)

    -- one seat's view changes, and nothing else
    reviewed : (s : St) (k : Kept steps start s) (id : ℕ) (v w : SeatView M Q A) (ws : List ℕ) → get_elem? s.views id ≡ some v → Calmer w v → ws ≡ s.words → Fits steps start k.log k.drawn w
        → Kept steps start record { words = ws; homes = s.homes; views = set s.views id w }
    reviewed s k id v w ws here calm same fits =
        let old : (j : ℕ) (d : SeatView M Q A) → get_elem? (set s.views id w) j ≡ some d → (e : SeatView M Q A) × (get_elem? s.views j ≡ some e) × Calmer d e = back s.views id v w here calm in
        record {
          log = k.log;
          turn = k.turn;
          drawn = k.drawn;
          words = same ∙ k.words;
          editions = k.editions;
          numbers = k.numbers;
          state = ⊎_elim
              (λ (f : Free steps start k.log k.turn s). inl record { value = f.value; word = f.word; home = f.home; run = f.run; nobody = λ i d at h. let e = old i d at in f.nobody i e.0 e.1 (e.2.1 h) })
              (λ (f : Held k.log k.turn s). inr record { word = f.word; home = f.home; one = λ i j a b at_i at_j ha hb. let x = old i a at_i in let y = old j b at_j in f.one i j x.0 y.0 x.1 y.1 (x.2.1 ha) (y.2.1 hb) })
              k.state;
          fits = views_all (Fits steps start k.log k.drawn) s.views id w fits (λ j d other at. k.fits j d at);
          apart = still_apart s.views id v w here calm.0 k.apart;
          undrawn = k.undrawn;
        }

    first_fits : (m : M) → Fits steps m [] 1 (first_view {Q = Q} {A = A} m)
    first_fits m = record { opened = λ z e. cc; seen = ([], refl); legal = (m, refl); met = ([], refl); below = λ n e. let z : 0 ≡ n = cc in omega (arith, z); mine = λ n e. refl; own = λ n e. refl; fresh = λ e. refl; whole = λ e. refl; greatest = omega arith; other = λ n e. absurd (some_number n None refl e) }

    pub opens : (value : SlotValue M Q A) → value.machine ≡ start → Kept steps start (opening (0 ∷ 1 ∷ []) (Some value ∷ []) (first_view start))
    opens value is = record {
      log = [];
      turn = 0;
      drawn = 1;
      words = refl;
      editions = omega arith;
      numbers = omega arith;
      state = inl record { value = value; word = refl; home = refl; run = sym is; nobody = λ i v at h. not_both {b = v.holds} (ap (λ (z : SeatView M Q A). z.holds) (sym (only _ i v at).1)) h };
      fits = λ i v at. subst (Fits steps start [] 1) (only _ i v at).1 (first_fits start);
      apart = λ i j n v w at_i at_j a b. (only _ i v at_i).0 ∙ sym (only _ j w at_j).0;
      undrawn = λ n h. refl;
    }

    word_bound : (log : List (Entry Q A)) (turn : ℕ) (s : St) → length log ≤ 2 ^ 62 → Free steps start log turn s ⊎ Held log turn s → (turn ≤ 2 ^ 63 + 1) × (2 * length log ≤ turn)
    word_bound log turn s most state = ⊎_elim
        (λ (f : Free steps start log turn s). let e = f.word in (omega arith, omega arith))
        (λ (f : Held log turn s). let e = f.word in (omega arith, omega arith)) state

    -- a load of the turn word
    pub looks : (slots id : ℕ) (me : Me (Option (SlotValue M Q A)) (SeatView M Q A))
        → Allows (Kept steps start) slots id me 0 (λ n. n) (turn_loaded steps (step slots 0 0 0 none) me)
    looks slots id me s k deep here fits =
        let f : Fits steps start k.log k.drawn me.0 = k.fits id me.0 here in
        let n : ℕ = get_or s.words 0 0 in
        let is : n ≡ k.turn = ap (λ z. get_or z 0 0) k.words in
        let b = word_bound k.log k.turn s k.editions k.state in
        let l : length me.0.seen ≤ length k.log = starts_length k.log me.0.seen f.seen in (
          noted me.0 n,
          keeps,
          tt,
          reviewed s k id me.0 (noted me.0 n) (set s.words 0 n) here ((λ m e. e), (λ e. e)) (set-get_or s.words 0 0)
              record { opened = f.opened; seen = f.seen; legal = f.legal; met = f.met; below = f.below; mine = f.mine; own = f.own; fresh = f.fresh; whole = f.whole; greatest = f.greatest; other = f.other },
          (refl, omega (arith, is, b.0), omega (arith, is, b.1, l), λ m o. subst (λ z. IsLegal steps z me.0.seen) (sym (f.opened m o)) f.legal),
        )

    pub counts : (slots id : ℕ) (me : Me (Option (SlotValue M Q A)) (SeatView M Q A))
        → Allows (Kept steps start) slots id me 1 (λ n. n) (number_loaded (step slots 1 0 0 none) me)
    counts slots id me s k deep here fits =
        let f : Fits steps start k.log k.drawn me.0 = k.fits id me.0 here in
        let n : ℕ = get_or s.words 1 0 in
        let is : n ≡ k.drawn = ap (λ z. get_or z 1 0) k.words in
        let m = f.greatest in let top = k.numbers in (
          record me.0 { greatest_number = n },
          keeps,
          tt,
          reviewed s k id me.0 (record me.0 { greatest_number = n }) (set s.words 1 n) here ((λ m e. e), (λ e. e)) (set-get_or s.words 1 0)
              record { opened = f.opened; seen = f.seen; legal = f.legal; met = f.met; below = f.below; mine = f.mine; own = f.own; fresh = f.fresh; whole = f.whole; greatest = omega (arith, is); other = f.other },
          (refl, omega (arith, is, m), omega (arith, is, top)),
        )

    pub meets : (slots id : ℕ) (me : Me (Option (SlotValue M Q A)) (SeatView M Q A))
        → Allows (Kept steps start) slots id me 0 (λ n. n) (met_told (step slots 0 0 0 none) me)
    meets slots id me s k deep here fits =
        let f : Fits steps start k.log k.drawn me.0 = k.fits id me.0 here in
        let n : ℕ = get_or s.words 0 0 in (
          me.0,
          keeps,
          tt,
          reviewed s k id me.0 me.0 (set s.words 0 n) here ((λ m e. e), (λ e. e)) (set-get_or s.words 0 0) f,
          (refl, f.met, f.own, (λ n m a b. (f.other m b).1 n a)),
        )

    took : (slots id : ℕ) (me : Me (Option (SlotValue M Q A)) (SeatView M Q A)) (old : ℕ) → me.1 ≡ [] → (s : St) (k : Kept steps start s) → get_elem? s.views id ≡ some me.0 → Fits steps start k.log k.drawn me.0
        → Free steps start k.log k.turn s → get_or s.words 0 0 ≡ old → get_or s.words 0 0 ≡ k.turn
        → (w : SeatView M Q A) × (a : Act (Option (SlotValue M Q A))) × Valid s.homes me.1 a × Kept steps start (stepped s 0 (old + 1) id me.1 w a) × turn_taken steps (step slots 0 old (old + 1) none) me (get_or s.words 0 0) (w, carried_after me.1 a)
    took slots id me old empty s k here f r hit is =
        let n : ℕ = get_or s.words 0 0 in
        let w : SeatView M Q A = record me.0 { holds = true; seen = k.log; met = [] } in
        let e = r.word in
        let holder : (i : ℕ) (d : SeatView M Q A) → get_elem? (set s.views id w) i ≡ some d → d.holds ≡ true → i ≡ id =
        λ i d at h. ⊎_elim (λ (t : (i ≡ id) × (w ≡ d)). t.0) (λ (t : (i ≢ id) × (get_elem? s.views i ≡ some d)). absurd (r.nobody i d t.1 h)) (at_set s.views id i w d at) in (
          w,
          takes 0 (Some r.value),
          ap (λ z. get_elem? z 0) r.home,
          record {
            log = k.log;
            turn = old + 1;
            drawn = k.drawn;
            words = ap (λ z. set z 0 (old + 1)) k.words;
            editions = k.editions;
            numbers = k.numbers;
            state = inr record { word = omega (arith, e, hit, is); home = ap (λ z. set z 0 none) r.home; one = λ i j a b at_i at_j ha hb. holder i a at_i ha ∙ sym (holder j b at_j hb) };
            fits = views_all (Fits steps start k.log k.drawn) s.views id w
                record { opened = f.opened; seen = starts_refl k.log; legal = (r.value.machine, r.run); met = (k.log, refl); below = f.below; mine = f.mine; own = f.mine; fresh = f.fresh; whole = λ _. refl; greatest = f.greatest; other = f.other }
                (λ j d other at. k.fits j d at);
            apart = still_apart s.views id me.0 w here (λ m e. e) k.apart;
            undrawn = k.undrawn;
          },
          (
            (λ _. record {
              value = r.value;
              out = ap (λ z. (0, Some r.value) ∷ z) empty;
              view = refl;
              longer = f.seen;
              own = f.mine;
              count = sym hit ∙ (is ∙ e);
              run = λ m o. subst (λ z. Run steps z k.log r.value.machine) (sym (f.opened m o)) r.run;
            }),
            (λ miss. absurd (miss hit)),
          ),
        )

    mine_after : (c n : ℕ) (q : Q) (a : A) (log mine : List (Entry Q A)) (o : Option ℕ) → o ≡ Some c → o ≡ Some n → calls_by c log ≡ mine → calls_by n (log ++ entry c q a ∷ []) ≡ mine ++ entry c q a ∷ []
    mine_after c n q a log mine o is is' own =
        let same : c ≡ n = cc in
        subst (λ z. calls_by z (log ++ entry c q a ∷ []) ≡ mine ++ entry c q a ∷ []) same (calls_mine c q a log ∙ ap (λ z. z ++ entry c q a ∷ []) own)

    given_last : (t : SlotValue M Q A) (l : LastStep Q A) → t.last ≡ Some l → (me : Me (Option (SlotValue M Q A)) (SeatView M Q A)) → me.1 ≡ (0, Some t) ∷ [] → Some l ≡ last_of me.1
    given_last t l last me out = sym (ap last_of out ∙ last)

    holders : (vs : List (SeatView M Q A)) (id : ℕ) (v w : SeatView M Q A) → get_elem? vs id ≡ some v → (w.holds ≡ true → v.holds ≡ true) → (j : ℕ) (d : SeatView M Q A) → get_elem? (set vs id w) j ≡ some d → d.holds ≡ true
        → (e : SeatView M Q A) × (get_elem? vs j ≡ some e) × (e.holds ≡ true)
    holders vs id v w here calm j d at h = ⊎_elim
        (λ (t : (j ≡ id) × (w ≡ d)). (v, ap (get_elem? vs) t.0 ∙ here, calm (ap (λ (z : SeatView M Q A). z.holds) t.1 ∙ h)))
        (λ (t : (j ≢ id) × (get_elem? vs j ≡ some d)). (d, t.1, h)) (at_set vs id j w d at)

    drawn_apart : (s : St) (k : Kept steps start s) (id : ℕ) (w : SeatView M Q A) (n : ℕ) {v : SeatView M Q A} → get_elem? s.views id ≡ some v → n ≡ k.drawn → w.number ≡ Some n → Apart (set s.views id w)
    drawn_apart s k id w n here is new i j m a b at_i at_j na nb =
        let clash : (d e : SeatView M Q A) (x : ℕ) → get_elem? s.views x ≡ some e → w ≡ d → d.number ≡ Some m → e.number ≡ Some m → ⊥ =
        λ d e x at same nd ne. let z : Some n ≡ Some m = sym new ∙ (ap (λ (y : SeatView M Q A). y.number) same ∙ nd) in let q : n ≡ m = cc in let b = (k.fits x e at).below m ne in omega (arith, q, is, b) in
        ⊎_elim
        (λ (x : (i ≡ id) × (w ≡ a)). ⊎_elim
        (λ (y : (j ≡ id) × (w ≡ b)). x.0 ∙ sym y.0)
        (λ (y : (j ≢ id) × (get_elem? s.views j ≡ some b)). absurd (clash a b j y.1 x.1 na nb)) (at_set s.views id j w b at_j))
        (λ (x : (i ≢ id) × (get_elem? s.views i ≡ some a)). ⊎_elim
        (λ (y : (j ≡ id) × (w ≡ b)). absurd (clash b a i x.1 y.1 nb na))
        (λ (y : (j ≢ id) × (get_elem? s.views j ≡ some b)). k.apart i j m a b x.1 y.1 na nb) (at_set s.views id j w b at_j)) (at_set s.views id i w a at_i)

    -- the turn is taken from 2e
    pub takes_turn : (slots id : ℕ) (me : Me (Option (SlotValue M Q A)) (SeatView M Q A)) (old : ℕ) → me.1 ≡ [] → old % 2 ≡ 0
        → Allows (Kept steps start) slots id me 0 (λ n. either (eqb n old) (old + 1) n) (turn_taken steps (step slots 0 old (old + 1) none) me)
    takes_turn slots id me old empty even s k deep here fits =
        let f : Fits steps start k.log k.drawn me.0 = k.fits id me.0 here in
        let n : ℕ = get_or s.words 0 0 in
        let is : n ≡ k.turn = ap (λ z. get_or z 0 0) k.words in
        let F : ℕ → Type 0 = λ x. (w : SeatView M Q A) × (a : Act (Option (SlotValue M Q A))) × Valid s.homes me.1 a × Kept steps start (stepped s 0 x id me.1 w a) × turn_taken steps (step slots 0 old (old + 1) none) me n (w, carried_after me.1 a) in
        exchanged n old (old + 1) F
        (λ hit. ⊎_elim
        (λ (r : Free steps start k.log k.turn s). took slots id me old empty s k here f r hit is)
        (λ (h : Held k.log k.turn s). let e = h.word in absurd (omega (arith, e, is, hit, even))) k.state)
        (λ miss. (
          noted me.0 n,
          keeps,
          tt,
          reviewed s k id me.0 (noted me.0 n) (set s.words 0 n) here ((λ m e. e), (λ e. e)) (set-get_or s.words 0 0)
              record { opened = f.opened; seen = f.seen; legal = f.legal; met = f.met; below = f.below; mine = f.mine; own = f.own; fresh = f.fresh; whole = f.whole; greatest = f.greatest; other = f.other },
          ((λ e. absurd (miss e)), (λ _. refl)),
        ))

    -- the stepped value is back, and the turn is given up
    pub gives_turn : (slots id : ℕ) (me : Me (Option (SlotValue M Q A)) (SeatView M Q A)) (new c : ℕ) (t : SlotValue M Q A) (l : LastStep Q A) (before : M)
        → me.1 ≡ (0, Some t) ∷ [] → me.0.holds ≡ true → me.0.number ≡ Some c → t.last ≡ Some l → Run steps start me.0.seen before → steps before c l.ask.value l.answer.value t.machine
        → new ≡ 2 * length me.0.seen + 2 → length me.0.seen < 2 ^ 62
        → Allows (Kept steps start) slots id me 0 (λ _. new) (λ _. turn_given (step slots 0 new 0 none) me new)
    gives_turn slots id me new c t l before out holding number last run stepping word room s k deep here fits =
        let f : Fits steps start k.log k.drawn me.0 = k.fits id me.0 here in
        let whole : me.0.seen ≡ k.log = f.whole holding in
        let h : Held k.log k.turn s = ⊎_elim (λ (r : Free steps start k.log k.turn s). absurd (r.nobody id me.0 here holding)) (λ (x : Held k.log k.turn s). x) k.state in
        let e : Entry Q A = entry c l.ask.value l.answer.value in
        let w : SeatView M Q A = extended me.0 c l.ask.value l.answer.value in
        let log : List (Entry Q A) = k.log ++ e ∷ [] in
        let long : length log ≡ length me.0.seen + 1 = length-append k.log (e ∷ []) ∙ ap (λ z. length z + 1) (sym whole) in
        let below : c < k.drawn = f.below c number in
        let another : (j n : ℕ) (d : SeatView M Q A) → j ≢ id → get_elem? s.views j ≡ some d → d.number ≡ Some n → c ≢ n =
        λ j n d other at is same. other (k.apart j id n d me.0 at here is (number ∙ ap (λ z. Some z) same)) in (
          w,
          gives,
          tt,
          record {
            log = log;
            turn = new;
            drawn = k.drawn;
            words = ap (λ z. set z 0 new) k.words;
            editions = omega (arith, long, room);
            numbers = k.numbers;
            state = inl record {
              value = t;
              word = omega (arith, long, word);
              home = ap (λ z. put_back s.homes z) out ∙ ap (λ z. set z 0 (some (Some t))) h.home;
              run = run_more steps start k.log before c l.ask.value l.answer.value t.machine (subst (λ z. Run steps start z before) whole run) stepping;
              nobody = λ i d at is. ⊎_elim (λ (x : (i ≡ id) × (w ≡ d)). not_both {b = d.holds} (ap (λ (z : SeatView M Q A). z.holds) (sym x.1)) is)
                  (λ (x : (i ≢ id) × (get_elem? s.views i ≡ some d)). x.0 (h.one i id d me.0 x.1 here is holding)) (at_set s.views id i w d at);
            };
            fits = views_all (Fits steps start log k.drawn) s.views id w
                record {
                  opened = f.opened;
                  seen = subst (λ z. StartsWith (z ++ e ∷ []) (me.0.seen ++ e ∷ [])) whole (starts_refl (me.0.seen ++ e ∷ []));
                  legal = (t.machine, run_more steps start me.0.seen before c l.ask.value l.answer.value t.machine run stepping);
                  met = starts_more me.0.seen me.0.met (e ∷ []) f.met;
                  below = f.below;
                  mine = λ n is. mine_after c n l.ask.value l.answer.value k.log me.0.mine me.0.number number is (f.mine c number);
                  own = λ n is. mine_after c n l.ask.value l.answer.value me.0.seen me.0.mine me.0.number number is (f.own c number);
                  fresh = λ none_yet. absurd (some_number c me.0.number none_yet number);
                  whole = λ is. absurd (not_both {b = w.holds} refl is);
                  greatest = f.greatest;
                  other = f.other;
                }
                (λ j d other at. let o : Fits steps start k.log k.drawn d = k.fits j d at in record {
                  opened = o.opened;
                  seen = starts_more k.log d.seen (e ∷ []) o.seen;
                  legal = o.legal;
                  met = o.met;
                  below = o.below;
                  mine = λ n is. calls_others n c l.ask.value l.answer.value k.log (another j n d other at is) ∙ o.mine n is;
                  own = o.own;
                  fresh = o.fresh;
                  whole = λ is. absurd (other (h.one j id d me.0 at here is holding));
                  greatest = o.greatest;
                  other = o.other;
                });
            apart = still_apart s.views id me.0 w here (λ m is. is) k.apart;
            undrawn = λ n above. calls_others n c l.ask.value l.answer.value k.log (λ same. absurd (omega (arith, same, above, below))) ∙ k.undrawn n above;
          },
          (λ i. (given (sym number i) (given_last t l last me out i) me.0, ap rest out i)),
        )

    -- a number is drawn by a seat that has none
    pub draws : (slots id : ℕ) (me : Me (Option (SlotValue M Q A)) (SeatView M Q A)) (old : ℕ) → me.0.number ≡ None → old < 2 ^ 62
        → Allows (Kept steps start) slots id me 1 (λ n. either (eqb n old) (old + 1) n) (number_drawn (step slots 1 old (old + 1) none) me)
    draws slots id me old fresh room s k deep here fits =
        let f : Fits steps start k.log k.drawn me.0 = k.fits id me.0 here in
        let n : ℕ = get_or s.words 1 0 in
        let is : n ≡ k.drawn = ap (λ z. get_or z 1 0) k.words in
        let F : ℕ → Type 0 = λ x. (w : SeatView M Q A) × (a : Act (Option (SlotValue M Q A))) × Valid s.homes me.1 a × Kept steps start (stepped s 1 x id me.1 w a) × number_drawn (step slots 1 old (old + 1) none) me n (w, carried_after me.1 a) in
        let w : SeatView M Q A = record me.0 { number = Some n } in
        let nothing : (log : List (Entry Q A)) → StartsWith k.log log → calls_by n log ≡ [] =
        λ log pre. kept_between (λ e. e.caller == n) k.log log [] pre (log, refl) (k.undrawn n (omega (arith, is))) in
        exchanged n old (old + 1) F
        (λ hit. (
          w,
          keeps,
          tt,
          record {
            log = k.log;
            turn = k.turn;
            drawn = old + 1;
            words = ap (λ z. set z 1 (old + 1)) k.words;
            editions = k.editions;
            numbers = omega (arith, room);
            state = ⊎_elim
                (λ (r : Free steps start k.log k.turn s). inl record { value = r.value; word = r.word; home = r.home; run = r.run; nobody = λ i d at h. let b = holders s.views id me.0 w here (λ e. e) i d at h in r.nobody i b.0 b.1 b.2 })
                (λ (r : Held k.log k.turn s). inr record { word = r.word; home = r.home; one = λ i j a b at_i at_j ha hb. let x = holders s.views id me.0 w here (λ e. e) i a at_i ha in let y = holders s.views id me.0 w here (λ e. e) j b at_j hb in r.one i j x.0 y.0 x.1 y.1 x.2 y.2 })
                k.state;
            fits = views_all (Fits steps start k.log (old + 1)) s.views id w
                record {
                  opened = f.opened;
                  seen = f.seen;
                  legal = f.legal;
                  met = f.met;
                  below = λ m e. let z : n ≡ m = cc in omega (arith, z, hit);
                  mine = λ m e. let z : n ≡ m = cc in subst (λ q. calls_by q k.log ≡ me.0.mine) z (nothing k.log (starts_refl k.log) ∙ sym (f.fresh fresh));
                  own = λ m e. let z : n ≡ m = cc in subst (λ q. calls_by q me.0.seen ≡ me.0.mine) z (nothing me.0.seen f.seen ∙ sym (f.fresh fresh));
                  fresh = λ e. f.fresh fresh;
                  whole = f.whole;
                  greatest = let m = f.greatest in omega (arith, m, is, hit);
                  other = λ m e. let b = (f.other m e).0 in (omega (arith, b, is, hit), λ q d same. let z : n ≡ q = cc in omega (arith, b, z, same, is));
                }
                (λ j d other at. let o : Fits steps start k.log k.drawn d = k.fits j d at in record {
                  opened = o.opened;
                  seen = o.seen;
                  legal = o.legal;
                  met = o.met;
                  below = λ m e. let b = o.below m e in omega (arith, b, is, hit);
                  mine = o.mine;
                  own = o.own;
                  fresh = o.fresh;
                  whole = o.whole;
                  greatest = let m = o.greatest in omega (arith, m, is, hit);
                  other = λ m e. let b = o.other m e in let c = b.0 in (omega (arith, c, is, hit), b.1);
                });
            apart = λ i j m a b at_i at_j na nb. drawn_apart s k id w n here is refl i j m a b at_i at_j na nb;
            undrawn = λ m above. k.undrawn m (omega (arith, above, is, hit));
          },
          ((λ _. ((λ i. (record me.0 { number = Some (hit i) }, me.1)), subst (λ q. calls_by q me.0.seen ≡ me.0.mine) hit (nothing me.0.seen f.seen ∙ sym (f.fresh fresh)))), (λ miss. absurd (miss hit))),
        ))
        (λ miss. (
          me.0,
          keeps,
          tt,
          reviewed s k id me.0 me.0 (set s.words 1 n) here ((λ m e. e), (λ e. e)) (set-get_or s.words 1 0) f,
          ((λ e. absurd (miss e)), (λ _. refl)),
        ))

    joined_fits : (b : Bool) (log : List (Entry Q A)) (n : ℕ) (v w : SeatView M Q A) → nat_le (length v.seen) (length w.seen) ≡ b → v.holds ≡ false → Fits steps start log n v → Fits steps start log n w → ((k m : ℕ) → v.number ≡ Some k → w.number ≡ Some m → k ≢ m)
        → Fits steps start log n (if b then record v { seen = w.seen; met = v.seen; met_number = w.number } else record v { met = w.seen; met_number = w.number })
    joined_fits true log n v w test idle f e differ =
        let le : length v.seen ≤ length w.seen = leb-true (length v.seen) (length w.seen) test in
        let pre : StartsWith w.seen v.seen = two_starts log v.seen w.seen f.seen e.seen le in record {
          opened = f.opened;
          seen = e.seen;
          legal = e.legal;
          met = pre;
          below = f.below;
          mine = f.mine;
          own = λ k is. kept_between (λ x. x.caller == k) log w.seen v.seen e.seen pre (f.mine k is ∙ sym (f.own k is)) ∙ f.own k is;
          fresh = f.fresh;
          whole = λ h. absurd (not_both {b = v.holds} idle h);
          greatest = f.greatest;
          other = λ m d. (e.below m d, λ q c. differ q m c d);
        }
    joined_fits false log n v w test idle f e differ =
        let lt : length w.seen < length v.seen = leb-false (length v.seen) (length w.seen) test in record {
          opened = f.opened;
          seen = f.seen;
          legal = f.legal;
          met = two_starts log w.seen v.seen e.seen f.seen (omega (arith, lt));
          below = f.below;
          mine = f.mine;
          own = f.own;
          fresh = f.fresh;
          whole = f.whole;
          greatest = f.greatest;
          other = λ m d. (e.below m d, λ q c. differ q m c d);
        }

    joined_calm : (b : Bool) (v w : SeatView M Q A) → Calmer (if b then record v { seen = w.seen; met = v.seen; met_number = w.number } else record v { met = w.seen; met_number = w.number }) v
    joined_calm true v w = ((λ n e. e), (λ e. e))
    joined_calm false v w = ((λ n e. e), (λ e. e))

    spent_fits : (log : List (Entry Q A)) (n : ℕ) → Fits steps start log n (spent {M = M})
    spent_fits log n = record { opened = λ m e. cc; seen = (log, refl); legal = (start, refl); met = ([], refl); below = λ k e. cc; mine = λ k e. cc; own = λ k e. cc; fresh = λ e. refl; whole = λ e. cc; greatest = omega arith; other = λ n e. absurd (some_number n None refl e) }

    pub glues : (id : ℕ) (v : SeatView M Q A) (other : ℕ) (w : SeatView M Q A) → v.holds ≡ false → Joins (Kept steps start) id v other w (joined v w) spent
    unfolding reviewed
    glues id v other w idle s k here apart there =
        let at_w : get_elem? s.views other ≡ some w = ⊎_elim (λ (t : (other ≡ id) × (joined v w ≡ w)). absurd (apart t.0)) (λ (t : (other ≢ id) × (get_elem? s.views other ≡ some w)). t.1) (at_set s.views id other (joined v w) w there) in
        let f : Fits steps start k.log k.drawn v = k.fits id v here in
        let e : Fits steps start k.log k.drawn w = k.fits other w at_w in
        let differ : (n m : ℕ) → v.number ≡ Some n → w.number ≡ Some m → n ≢ m = λ n m a b same. apart (k.apart other id n w v at_w here (b ∙ ap (λ z. Some z) (sym same)) a) in
        let first = reviewed s k id v (joined v w) s.words here (joined_calm (nat_le (length v.seen) (length w.seen)) v w) refl (joined_fits (nat_le (length v.seen) (length w.seen)) k.log k.drawn v w refl idle f e differ) in
        reviewed (record { words = s.words; homes = s.homes; views = set s.views id (joined v w) }) first other w spent s.words there ((λ n h. cc), (λ h. cc)) refl (spent_fits k.log k.drawn)

    new_fits : (log : List (Entry Q A)) (n : ℕ) (v : SeatView M Q A) → Fits steps start log n v → Fits steps start log n (newcomer v)
    new_fits log n v f = record { opened = f.opened; seen = f.seen; legal = f.legal; met = (v.seen, refl); below = λ k e. cc; mine = λ k e. cc; own = λ k e. cc; fresh = λ e. refl; whole = λ e. cc; greatest = omega arith; other = λ n e. absurd (some_number n None refl e) }

    pub cuts : (id : ℕ) (v : SeatView M Q A) → Splits (Kept steps start) id v v (newcomer v)
    cuts id v s k here =
        let f : Fits steps start k.log k.drawn v = k.fits id v here in
        let vs : List (SeatView M Q A) = s.views ++ newcomer v ∷ [] in
        let old : (i : ℕ) (d : SeatView M Q A) → get_elem? vs i ≡ some d → (get_elem? s.views i ≡ some d) ⊎ (newcomer v ≡ d) = λ i d at. at_snoc s.views (newcomer v) d i at in
        let bold : (i : ℕ) (d : SeatView M Q A) → get_elem? vs i ≡ some d → d.holds ≡ true → get_elem? s.views i ≡ some d =
        λ i d at h. ⊎_elim (λ (t : get_elem? s.views i ≡ some d). t) (λ (t : newcomer v ≡ d). absurd (not_both {b = d.holds} (ap (λ (z : SeatView M Q A). z.holds) (sym t)) h)) (old i d at) in
        let numbered : (i n : ℕ) (d : SeatView M Q A) → get_elem? vs i ≡ some d → d.number ≡ Some n → get_elem? s.views i ≡ some d =
        λ i n d at h. ⊎_elim (λ (t : get_elem? s.views i ≡ some d). t) (λ (t : newcomer v ≡ d). absurd (some_number n d.number (ap (λ (z : SeatView M Q A). z.number) (sym t)) h)) (old i d at) in
        let P : List (SeatView M Q A) → Type 0 = λ z. Kept steps start record { words = s.words; homes = s.homes; views = z ++ newcomer v ∷ [] } in
        let kept : P s.views = record {
          log = k.log;
          turn = k.turn;
          drawn = k.drawn;
          words = k.words;
          editions = k.editions;
          numbers = k.numbers;
          state = ⊎_elim
              (λ (r : Free steps start k.log k.turn s). inl record { value = r.value; word = r.word; home = r.home; run = r.run; nobody = λ i d at h. r.nobody i d (bold i d at h) h })
              (λ (r : Held k.log k.turn s). inr record { word = r.word; home = r.home; one = λ i j a b at_i at_j ha hb. r.one i j a b (bold i a at_i ha) (bold j b at_j hb) ha hb })
              k.state;
          fits = λ i d at. ⊎_elim (λ (t : get_elem? s.views i ≡ some d). k.fits i d t) (λ (t : newcomer v ≡ d). subst (Fits steps start k.log k.drawn) t (new_fits k.log k.drawn v f)) (old i d at);
          apart = λ i j n a b at_i at_j na nb. k.apart i j n a b (numbered i n a at_i na) (numbered j n b at_j nb) na nb;
          undrawn = k.undrawn;
        } in
        subst P (sym (set_again s.views id v here)) kept
