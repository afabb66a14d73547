-- Beginnings of a history, and the steps of one caller in it.
use Rattle.std.proofs.Common.{◌≡◌, ◌≢◌, ℕ, ◌+◌, ◌≤◌, Bool, List, [], ◌∷◌, ◌++◌, length, sym, refl, ap, ◌∙◌, subst, arith, append_assoc, length-append, ne_eqb, eq-eqb, ◌==◌}
use Rattle.std.specs.List.{filter}
use Rattle.std.proofs.lemmas.List.Elements.{filter-append}
use mathlib.Core.List.{append-nil}
use Rattle.turn_desk.specs.declared.history.Entry.{Entry}
use Rattle.turn_desk.specs.History.{StartsWith, calls_by, entry, Run, HasEntry}

module _ {X : Type 0} where
  pub starts_refl : (xs : List X) → StartsWith xs xs
  starts_refl xs = ([], append-nil xs)

  pub starts_trans : (a b c : List X) → StartsWith a b → StartsWith b c → StartsWith a c
  starts_trans a b c (r, e) (q, d) = (q ++ r, sym (append_assoc c q r) ∙ (ap (λ z. z ++ r) d ∙ e))

  pub starts_more : (a b x : List X) → StartsWith a b → StartsWith (a ++ x) b
  starts_more a b x (r, e) = (r ++ x, sym (append_assoc b r x) ∙ ap (λ z. z ++ x) e)

  pub none_left : (xs : List X) → length xs ≡ 0 → xs ≡ []
  none_left [] e = refl
  none_left (x ∷ xs) e = absurd (omega (arith, e))

  pub beginnings : (a r b q : List X) → a ++ r ≡ b ++ q → length a ≤ length b → StartsWith b a
  beginnings [] r b q e le = (b, refl)
  beginnings (x ∷ a) r [] q e le = absurd (omega (arith, le))
  beginnings (x ∷ a) r (y ∷ b) q e le =
      let same : x ≡ y = cc in
      let others : a ++ r ≡ b ++ q = cc in
      let t = beginnings a r b q others (omega (arith, le)) in
      (t.0, λ i. same i ∷ t.1 i)

  pub two_starts : (log a b : List X) → StartsWith log a → StartsWith log b → length a ≤ length b → StartsWith b a
  two_starts log a b (r, e) (q, d) le = beginnings a r b q (e ∙ sym d) le

  pub starts_length : (a b : List X) → StartsWith a b → length b ≤ length a
  starts_length a b (r, e) = let n : length b + length r ≡ length a = sym (length-append b r) ∙ ap length e in omega (arith, n)

  pub kept_between : (p : X → Bool) (log b a : List X) → StartsWith log b → StartsWith b a → filter p log ≡ filter p a → filter p b ≡ filter p a
  kept_between p log b a (r, e) (q, d) same =
      let whole : filter p log ≡ filter p b ++ filter p r = ap (filter p) (sym e) ∙ filter-append p b r in
      let front : filter p b ≡ filter p a ++ filter p q = ap (filter p) (sym d) ∙ filter-append p a q in
      let m : length (filter p log) ≡ length (filter p b) + length (filter p r) = ap length whole ∙ length-append (filter p b) (filter p r) in
      let n : length (filter p b) ≡ length (filter p a) + length (filter p q) = ap length front ∙ length-append (filter p a) (filter p q) in
      let l : length (filter p log) ≡ length (filter p a) = ap length same in
      front ∙ (ap (λ z. filter p a ++ z) (none_left (filter p q) (omega (arith, m, n, l))) ∙ append-nil (filter p a))

module _ {Q A : Type 0} where
  pub calls_mine : (k : ℕ) (q : Q) (a : A) (log : List (Entry Q A)) → calls_by k (log ++ entry k q a ∷ []) ≡ calls_by k log ++ entry k q a ∷ []
  calls_mine k q a log = filter-append (λ e. e.caller == k) log (entry k q a ∷ []) ∙ ap (λ z. calls_by k log ++ z) (rw (eq-eqb k k refl) refl)

  pub calls_others : (n k : ℕ) (q : Q) (a : A) (log : List (Entry Q A)) → k ≢ n → calls_by n (log ++ entry k q a ∷ []) ≡ calls_by n log
  calls_others n k q a log other = filter-append (λ e. e.caller == n) log (entry k q a ∷ []) ∙ (ap (λ z. calls_by n log ++ z) (rw (ne_eqb k n other) refl) ∙ append-nil (calls_by n log))

  pub run_more : {M : Type 0} (steps : M → ℕ → Q → A → M → Type 0) (start : M) (log : List (Entry Q A)) (state : M) (k : ℕ) (q : Q) (a : A) (next : M)
      → Run steps start log state → steps state k q a next → Run steps start (log ++ entry k q a ∷ []) next
  run_more steps start [] state k q a next run step = (next, subst (λ m. steps m k q a next) (sym run) step, refl)
  run_more steps start (e ∷ es) state k q a next (mid, first, rest) step = (mid, first, run_more steps mid es state k q a next rest step)

  pub still_has : (after before : List (Entry Q A)) (n : ℕ) (q : Q) (a : A) → StartsWith after before → HasEntry before n q a → HasEntry after n q a
  still_has after before n q a pre (front, has) = (front, starts_trans after before (front ++ entry n q a ∷ []) pre has)
