-- Where the grant that has not ended stands, and what a table is after a change of it.
use Rattle.std.proofs.Common.{◌≡◌, ℕ, ◌+◌, ◌-◌, ◌<◌, ◌==◌, ◌&&◌, List, [], ◌∷◌, ◌++◌, length, take, get_or, Option, Some, None, refl, sym, ◌∙◌, arith, nat_lt, Bool, true, false, cond, ap, Bor, is_some}
use Rattle.std.proofs.lemmas.Grind.{common_steps}
use Rattle.std.proofs.lemmas.Bool.Decides.{nat_tests}
use Rattle.std.proofs.lemmas.List.{take_all, take_more_set}
use Rattle.std.proofs.lemmas.List.Folds.{find_at}
use Rattle.std.proofs.lemmas.Option.{slice_get_within, get_or_from_slice_get, slice_get-get_or}
use Rattle.std.proofs.Math.ListN.{set}
use Rattle.std.specs.Option.{option_copied}
use Rattle.std.specs.List.{slice_get, position_or_len}
use Rattle.lease_core.specs.declared.grant.Grant.{Grant}
use Rattle.lease_core.specs.Leases.{Leases, IsLeases, grant_of, live_grant, with_grant, ending, kept_if, late_refusal, release_refusal, next_term, term_after, ChangesEnd}

-- the grant at the last place
pub last_term : (leases : Leases) (g : Grant) → IsLeases leases → slice_get leases.grants (length leases.grants - 1) ≡ Some g → (0 < length leases.grants) × (g.term ≡ length leases.grants)
last_term l g is e =
    let w : length l.grants - 1 < length l.grants = slice_get_within l.grants (length l.grants - 1) g e in
    let here : get_or l.grants (length l.grants - 1) g ≡ g = get_or_from_slice_get l.grants (length l.grants - 1) g g e in
    let n = is.numbered (length l.grants - 1) g w in
    (omega arith, grind (arith, here, n))

-- a term that has not ended is the last
pub found_last : (leases : Leases) (node term : ℕ) (g : Grant) → IsLeases leases → grant_of leases node term ≡ Some g → leases.moment < g.until
    → slice_get leases.grants (length leases.grants - 1) ≡ Some g
found_last l node term g is found later =
    let p : ℕ = position_or_len (λ g. (g.term == term) && (g.node == node)) l.grants in
    let e : slice_get l.grants p ≡ Some g = sym (find_at (λ g. (g.term == term) && (g.node == node)) l.grants) ∙ found in
    let w : p < length l.grants = slice_get_within l.grants p g e in
    let here : get_or l.grants p g ≡ g = get_or_from_slice_get l.grants p g g e in
    let n = is.ended p g in
    grind (arith, e, here, n)

-- a change of the last place
pub put_last : (gs : List Grant) (i : ℕ) (g : Grant) → i + 1 ≡ length gs → set gs i g ≡ take i gs ++ g ∷ []
put_last gs i g e = sym (take_all (i + 1) (set gs i g) (grind (arith, common_steps))) ∙ take_more_set gs i g (omega arith)

pub IsLeases-put_last : (leases : Leases) (i : ℕ) (g : Grant) → IsLeases leases → i + 1 ≡ length leases.grants → g.term ≡ i + 1
    → IsLeases (record leases { grants = set leases.grants i g })
IsLeases-put_last l i g is e t = record {
  numbered = λ k d h. let n = is.numbered k d in grind (arith, common_steps, n);
  ended = λ k d h. let n = is.ended k d in grind (arith, common_steps, n);
}

-- a new place
pub IsLeases-push : (leases : Leases) (g : Grant) → IsLeases leases → live_grant leases ≡ None → g.term ≡ length leases.grants + 1
    → IsLeases (record leases { grants = leases.grants ++ g ∷ [] })
IsLeases-push l g is none t = record {
  numbered = λ k d h. let n = is.numbered k d in grind (arith, common_steps, n);
  ended = λ k d h.
      let n = is.ended k d in
      let last = slice_get-get_or l.grants (length l.grants - 1) d in
      grind (arith, common_steps, n, last);
}

-- ---- what a change of the grant that has not ended makes of a table

late_none : (leases : Leases) (o : Option Grant) → late_refusal leases o ≡ None → (g : Grant) × (o ≡ Some g) × (leases.moment < g.until)
late_none l None h = cc
late_none l (Some g) h = (g, refl, grind (arith, nat_tests, common_steps, h))

-- what is not refused is a grant that has not ended
pub unrefused : (leases : Leases) (node term : ℕ) → release_refusal leases node term ≡ None → (g : Grant) × (grant_of leases node term ≡ Some g) × (leases.moment < g.until)
unrefused l node term h = late_none l (grant_of l node term) h

pub with_last : (leases : Leases) (i : ℕ) (g : Grant) → i + 1 ≡ length leases.grants → g.term ≡ i + 1
    → record leases { grants = set leases.grants i g } ≡ with_grant g leases
with_last l i g e t =
    let k : g.term - 1 ≡ i = omega arith in
    rw k (ap (λ gs. record l { grants = gs }) (put_last l.grants i g e))

kept : {A : Type 0} → (test : A → Bool) → (o : Option A) → (a : A) → kept_if test o ≡ Some a → o ≡ Some a
kept test None a e = cc
kept test (Some b) a e = kept_some (test b) a b e
  where
    kept_some : {A : Type 0} → (t : Bool) → (a b : A) → cond t (Some b) None ≡ Some a → Some b ≡ Some a
    kept_some true a b e = e
    kept_some false a b e = cc

-- the grant that has not ended is at the last place, and its term the next
pub live_next : (leases : Leases) (g : Grant) → IsLeases leases → live_grant leases ≡ Some g → (0 < length leases.grants) × (next_term leases ≡ length leases.grants)
live_next l g is e =
    let last = last_term l g is (kept (λ g. nat_lt l.moment g.until) (slice_get l.grants (length l.grants - 1)) g e) in
    (last.0, ap (λ o. term_after o (length l.grants)) e ∙ last.1)

-- another end for the grant at the last place, where the node's term is not refused
pub changes_end : (leases : Leases) (i node term until : ℕ) (here : Grant) → IsLeases leases → release_refusal leases node term ≡ None
    → i ≡ length leases.grants - 1 → here ≡ get_or leases.grants i here
    → ChangesEnd leases (record leases { grants = set leases.grants i (ending until here) }) node term until
changes_end l i node term until here is h e at =
    let u = unrefused l node term h in
    let last : slice_get l.grants (length l.grants - 1) ≡ Some u.0 = found_last l node term u.0 is u.1 u.2 in
    let t = last_term l u.0 is last in
    let same : here ≡ u.0 = at ∙ get_or_from_slice_get l.grants i u.0 here (rw e last) in
    (u.0, u.1, rw same (with_last l i (ending until u.0) (omega arith) (omega arith)))

-- the same, where the grant that has not ended was looked up
pub live_at : (leases : Leases) (live : Option (Bor Grant)) → IsLeases leases → option_copied live ≡ live_grant leases → is_some live ≡ true
    → (0 < length leases.grants) × (next_term leases ≡ length leases.grants)
live_at l None is e some = cc
live_at l (Some g) is e some = live_next l g.now is (sym e)
