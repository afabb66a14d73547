-- How a backup settles, one compaction after another.
use Rattle.std.proofs.Common.{◌≡◌, ℕ, ◌+◌, Bool, true, Ok, subst}
use Rattle.lf_disk.specs.declared.name.FileName.TheVariants.{Staged}
use Rattle.lf_disk.specs.Folder.{SameBut}
use Rattle.lf_disk.specs.History.{History, now}
use Rattle.lf_disk.proofs.Moments.{started}
use Rattle.ltx_backup.specs.Entries.{IsKept}
use Rattle.ltx_backup.specs.Levels.{Levels}
use Rattle.ltx_backup.specs.Settling.{KeepsSettled, HoldsSettled, GoesOn}
use Rattle.ltx_backup.specs.Stops.{Stops}
use Rattle.ltx_backup.specs.declared.entry.Index.{Index}
use Rattle.ltx_backup.proofs.Adds.{held_same}
use Rattle.ltx_backup.proofs.Refusals.{one_more}
use Rattle.ltx_backup.proofs.Settlings.{settles_none, settled_later}
use Rattle.ltx_backup.proofs.Turns.{apart, weaker, and_then}

module _ (levels : Levels) (index : Index) (l m h : History) (kept : IsKept levels index l m h) where
  -- before the first
  pub kept_none : KeepsSettled 0 levels index l m h
  kept_none = record { levels = levels; settles = settles_none levels; kept = kept }

  pub standing_settled : Stops l m h l m h (HoldsSettled levels)
  standing_settled =
      weaker l m h l m h (λ a b c. SameBut Staged (now l) a × SameBut Staged (now m) b × SameBut Staged (now h) c) (HoldsSettled levels)
      (λ a b c same. record { count = 0; levels = levels; settles = settles_none levels; holds = held_same levels index l m h kept a b c same.0 same.1 same.2 })
      (apart l m h l m h (SameBut Staged (now l)) (SameBut Staged (now m)) (SameBut Staged (now h))
      (started l (SameBut Staged (now l)) kept.lows.settled) (started m (SameBut Staged (now m)) kept.middles.settled) (started h (SameBut Staged (now h)) kept.highs.settled))

-- and one more
module _ (levels : Levels) (count : ℕ) (index : Index) (l m h : History) (keeps : KeepsSettled count levels index l m h) where
  pub keeps_more : (index_now : Index) (l_now m_now h_now : History) (more : Bool) → more ≡ true → GoesOn keeps.levels (Ok more) index_now l_now m_now h_now → KeepsSettled (count + 1) levels index_now l_now m_now h_now
  keeps_more index_now l_now m_now h_now more is on =
      one_more keeps.levels index_now l_now m_now h_now levels count keeps.settles (subst (λ (b : Bool). GoesOn keeps.levels (Ok b) index_now l_now m_now h_now) is on)

  pub stops_more : (first_low first_middle first_high l_now m_now h_now : History) → Stops first_low first_middle first_high l m h (HoldsSettled levels)
      → Stops l m h l_now m_now h_now (HoldsSettled keeps.levels) → Stops first_low first_middle first_high l_now m_now h_now (HoldsSettled levels)
  stops_more first_low first_middle first_high l_now m_now h_now before behind =
      and_then first_low first_middle first_high l m h l_now m_now h_now (HoldsSettled levels) before
      (weaker l m h l_now m_now h_now (HoldsSettled keeps.levels) (HoldsSettled levels) (λ a b c held. settled_later count levels keeps.levels a b c keeps.settles held) behind)
