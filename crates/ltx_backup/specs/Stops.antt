-- Three disks, of which one changes after another, and what a stop leaves of them.
--
-- Their histories know no common order. So the order is told: a list of turns, in each of which one disk goes on to one of its
-- moments while the others stand. It is read on the histories at the end, since each says of its past what it said then.
use Rattle.std.specs.Prelude.{◌≡◌, ℕ, ◌≤◌, List, [], ◌∷◌}
use Rattle.lf_disk.specs.Folder.{Folder}
use Rattle.lf_disk.specs.History.{History, KeepsPast}

-- which disk goes on, and to which of its moments
pub data Turn : Type 0 where
  low middle high : (to : ℕ) → Turn

-- a moment of each disk
pub record Moments : Type 0 where
  pub low_at : ℕ
  pub middle_at : ℕ
  pub high_at : ℕ

abbrev pub moments_of : (low middle high : History) → Moments
moments_of l m h = record { low_at = l.moment; middle_at = m.moment; high_at = h.moment }

-- of three folders that a crash leaves, each at such a moment of its disk, P holds
abbrev pub EachLeft : (low middle high : History) → ((low_at middle_at high_at : ℕ) → Type 0) → (Folder → Folder → Folder → Type 0) → Type 0
EachLeft l m h When P = (t u v : ℕ) (a b c : Folder) → When t u v → l.leaves t a → m.leaves u b → h.leaves v c → P a b c

-- the turns lead from these moments to the last ones, and in each of them P holds of whatever a stop leaves
abbrev pub EachTurn : (low middle high : History) → (Folder → Folder → Folder → Type 0) → Moments → List Turn → Type 0
EachTurn l m h P at [] = at ≡ moments_of l m h
EachTurn l m h P at (low to ∷ more) =
    (at.low_at ≤ to) × EachLeft l m h (λ t u v. (at.low_at ≤ t) × (t ≤ to) × (u ≡ at.middle_at) × (v ≡ at.high_at)) P × EachTurn l m h P (record at { low_at = to }) more
EachTurn l m h P at (middle to ∷ more) =
    (at.middle_at ≤ to) × EachLeft l m h (λ t u v. (t ≡ at.low_at) × (at.middle_at ≤ u) × (u ≤ to) × (v ≡ at.high_at)) P × EachTurn l m h P (record at { middle_at = to }) more
EachTurn l m h P at (high to ∷ more) =
    (at.high_at ≤ to) × EachLeft l m h (λ t u v. (t ≡ at.low_at) × (u ≡ at.middle_at) × (at.high_at ≤ v) × (v ≤ to)) P × EachTurn l m h P (record at { high_at = to }) more

-- WHATEVER CALL STOPS, of what is left of the three P holds. The past stays
pub record Stops (low middle high low_now middle_now high_now : History) (P : Folder → Folder → Folder → Type 0) : Type 0 where
  pub turns : List Turn
  pub each : EachTurn low_now middle_now high_now P (moments_of low middle high) turns
  pub low_later : low.moment ≤ low_now.moment
  pub middle_later : middle.moment ≤ middle_now.moment
  pub high_later : high.moment ≤ high_now.moment
  pub low_past : KeepsPast low low_now
  pub middle_past : KeepsPast middle middle_now
  pub high_past : KeepsPast high high_now
