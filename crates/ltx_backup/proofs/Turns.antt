-- Three disks, one after another.
use Rattle.std.proofs.Common.{◌≡◌, ◌≤◌, List, [], ◌∷◌, ◌++◌, refl, sym, ap, subst, arith}
use Rattle.lf_disk.specs.declared.name.FileName.TheVariants.{Staged}
use Rattle.lf_disk.specs.Folder.{Folder, SameBut}
use Rattle.lf_disk.specs.History.{History, now, KeepsPast, Rests, EachMoment, IsSettledBut}
use Rattle.lf_disk.proofs.Moments.{past_joins, started, rests_on}
use Rattle.ltx_backup.specs.Stops.{Turn, low, middle, high, Moments, moments_of, EachLeft, EachTurn, Stops}

-- a disk that is only read
pub resting : (h h_now : History) → IsSettledBut Staged h → Rests h h_now → EachMoment h h_now (SameBut Staged (now h))
resting h h_now settled rests = rests_on h h h_now (SameBut Staged (now h)) (started h (SameBut Staged (now h)) settled) rests

module _ (l m h l_now m_now h_now : History) (A B C : Folder → Type 0) where
  abbrev All : Folder → Folder → Folder → Type 0
  All a b c = A a × B b × C c

  module _ (lows : EachMoment l l_now A) (middles : EachMoment m m_now B) (highs : EachMoment h h_now C) where
    in_high : EachLeft l_now m_now h_now (λ t u v. (t ≡ l.moment) × (u ≡ m.moment) × (h.moment ≤ v) × (v ≤ h_now.moment)) All
    in_high t u v a b c when x y z = (
      lows.each t a (omega (arith, when.0)) (omega (arith, when.0, lows.later)) x,
      middles.each u b (omega (arith, when.1)) (omega (arith, when.1, middles.later)) y,
      highs.each v c when.2 when.3 z,
    )

    in_middle : EachLeft l_now m_now h_now (λ t u v. (t ≡ l.moment) × (m.moment ≤ u) × (u ≤ m_now.moment) × (v ≡ h_now.moment)) All
    in_middle t u v a b c when x y z = (
      lows.each t a (omega (arith, when.0)) (omega (arith, when.0, lows.later)) x,
      middles.each u b when.1 when.2 y,
      highs.each v c (omega (arith, when.3, highs.later)) (omega (arith, when.3)) z,
    )

    in_low : EachLeft l_now m_now h_now (λ t u v. (l.moment ≤ t) × (t ≤ l_now.moment) × (u ≡ m_now.moment) × (v ≡ h_now.moment)) All
    in_low t u v a b c when x y z = (
      lows.each t a when.0 when.1 x,
      middles.each u b (omega (arith, when.2, middles.later)) (omega (arith, when.2)) y,
      highs.each v c (omega (arith, when.3, highs.later)) (omega (arith, when.3)) z,
    )

    -- where each disk goes through its own stretch
    pub apart : Stops l m h l_now m_now h_now (λ a b c. A a × B b × C c)
    apart = record {
      turns = high h_now.moment ∷ middle m_now.moment ∷ low l_now.moment ∷ [];
      each = (highs.later, in_high, (middles.later, in_middle, (lows.later, in_low, refl)));
      low_later = lows.later;
      middle_later = middles.later;
      high_later = highs.later;
      low_past = lows.past;
      middle_past = middles.past;
      high_past = highs.past;
    }

module _ (l m h : History) (P Q : Folder → Folder → Folder → Type 0) (follows : (a b c : Folder) → P a b c → Q a b c) where
  turns_weakened : (at : Moments) (turns : List Turn) → EachTurn l m h P at turns → EachTurn l m h Q at turns
  turns_weakened at [] each = each
  turns_weakened at (low to ∷ more) each =
      (each.0, (λ t u v a b c when x y z. follows a b c (each.1 t u v a b c when x y z)), turns_weakened (record at { low_at = to }) more each.2)
  turns_weakened at (middle to ∷ more) each =
      (each.0, (λ t u v a b c when x y z. follows a b c (each.1 t u v a b c when x y z)), turns_weakened (record at { middle_at = to }) more each.2)
  turns_weakened at (high to ∷ more) each =
      (each.0, (λ t u v a b c when x y z. follows a b c (each.1 t u v a b c when x y z)), turns_weakened (record at { high_at = to }) more each.2)

-- what follows from P holds too
pub weaker : (l m h l_now m_now h_now : History) (P Q : Folder → Folder → Folder → Type 0) → ((a b c : Folder) → P a b c → Q a b c)
    → Stops l m h l_now m_now h_now P → Stops l m h l_now m_now h_now Q
weaker l m h l_now m_now h_now P Q follows stops = record {
  turns = stops.turns;
  each = turns_weakened l_now m_now h_now P Q follows (moments_of l m h) stops.turns stops.each;
  low_later = stops.low_later;
  middle_later = stops.middle_later;
  high_later = stops.high_later;
  low_past = stops.low_past;
  middle_past = stops.middle_past;
  high_past = stops.high_past;
}

-- no moment on the way is past the last ones
record Within (at : Moments) (l m h : History) : Type 0 where
  low_within : at.low_at ≤ l.moment
  middle_within : at.middle_at ≤ m.moment
  high_within : at.high_at ≤ h.moment

within : (l m h : History) (P : Folder → Folder → Folder → Type 0) (at : Moments) (turns : List Turn) → EachTurn l m h P at turns → Within at l m h
within l m h P at [] each =
    let x : at.low_at ≡ l.moment = ap (λ (k : Moments). k.low_at) each in
    let y : at.middle_at ≡ m.moment = ap (λ (k : Moments). k.middle_at) each in
    let z : at.high_at ≡ h.moment = ap (λ (k : Moments). k.high_at) each in
    record { low_within = omega (arith, x); middle_within = omega (arith, y); high_within = omega (arith, z) }
within l m h P at (low to ∷ more) each =
    let rest = within l m h P (record at { low_at = to }) more each.2 in
    record { low_within = omega (arith, each.0, rest.low_within); middle_within = rest.middle_within; high_within = rest.high_within }
within l m h P at (middle to ∷ more) each =
    let rest = within l m h P (record at { middle_at = to }) more each.2 in
    record { low_within = rest.low_within; middle_within = omega (arith, each.0, rest.middle_within); high_within = rest.high_within }
within l m h P at (high to ∷ more) each =
    let rest = within l m h P (record at { high_at = to }) more each.2 in
    record { low_within = rest.low_within; middle_within = rest.middle_within; high_within = omega (arith, each.0, rest.high_within) }

module _ (l m h l_now m_now h_now : History) (P : Folder → Folder → Folder → Type 0) (low_past : KeepsPast l l_now) (middle_past : KeepsPast m m_now) (high_past : KeepsPast h h_now) where
  turns_join : (at : Moments) (xs ys : List Turn) → EachTurn l m h P at xs → EachTurn l_now m_now h_now P (moments_of l m h) ys → EachTurn l_now m_now h_now P at (xs ++ ys)
  turns_join at [] ys first second = subst (λ (k : Moments). EachTurn l_now m_now h_now P k ys) (sym first) second
  turns_join at (low to ∷ more) ys first second =
      let rest = within l m h P (record at { low_at = to }) more first.2 in (
        first.0,
        (λ t u v a b c when x y z. first.1 t u v a b c when
            (low_past.no_more t a (omega (arith, when.1, rest.low_within)) x)
            (middle_past.no_more u b (omega (arith, when.2, rest.middle_within)) y)
            (high_past.no_more v c (omega (arith, when.3, rest.high_within)) z)),
        turns_join (record at { low_at = to }) more ys first.2 second,
      )
  turns_join at (middle to ∷ more) ys first second =
      let rest = within l m h P (record at { middle_at = to }) more first.2 in (
        first.0,
        (λ t u v a b c when x y z. first.1 t u v a b c when
            (low_past.no_more t a (omega (arith, when.0, rest.low_within)) x)
            (middle_past.no_more u b (omega (arith, when.2, rest.middle_within)) y)
            (high_past.no_more v c (omega (arith, when.3, rest.high_within)) z)),
        turns_join (record at { middle_at = to }) more ys first.2 second,
      )
  turns_join at (high to ∷ more) ys first second =
      let rest = within l m h P (record at { high_at = to }) more first.2 in (
        first.0,
        (λ t u v a b c when x y z. first.1 t u v a b c when
            (low_past.no_more t a (omega (arith, when.0, rest.low_within)) x)
            (middle_past.no_more u b (omega (arith, when.1, rest.middle_within)) y)
            (high_past.no_more v c (omega (arith, when.3, rest.high_within)) z)),
        turns_join (record at { high_at = to }) more ys first.2 second,
      )

-- one stretch after another
pub and_then : (l m h l_mid m_mid h_mid l_now m_now h_now : History) (P : Folder → Folder → Folder → Type 0)
    → Stops l m h l_mid m_mid h_mid P → Stops l_mid m_mid h_mid l_now m_now h_now P → Stops l m h l_now m_now h_now P
and_then l m h l_mid m_mid h_mid l_now m_now h_now P first second = record {
  turns = first.turns ++ second.turns;
  each = turns_join l_mid m_mid h_mid l_now m_now h_now P second.low_past second.middle_past second.high_past (moments_of l m h) first.turns second.turns first.each second.each;
  low_later = omega (arith, first.low_later, second.low_later);
  middle_later = omega (arith, first.middle_later, second.middle_later);
  high_later = omega (arith, first.high_later, second.high_later);
  low_past = past_joins l l_mid l_now first.low_later first.low_past second.low_past;
  middle_past = past_joins m m_mid m_now first.middle_later first.middle_past second.middle_past;
  high_past = past_joins h h_mid h_now first.high_later first.high_past second.high_past;
}
