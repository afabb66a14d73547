-- What is known of a disk stays while it is only read.
use Rattle.std.proofs.Common.{◌≡◌, ◌∙◌, ℕ, ◌<◌, List, refl, sym, subst, arith}
use Rattle.lf_base.specs.declared.pos.Pos.{Pos}
use Rattle.lf_disk.specs.declared.name.FileName.{FileName}
use Rattle.lf_disk.specs.declared.name.FileName.TheVariants.{Staged, Snapshot, Ltx as LtxName}
use Rattle.lf_disk.specs.Folder.{Folder, SameBut}
use Rattle.lf_disk.specs.History.{History, now, Rests, EachMoment, IsSettledBut}
use Rattle.lf_disk.proofs.Moments.{past_stays, past_joins, joined, weakened}
use Rattle.ltx_codec.specs.Positions.{before}
use Rattle.ltx_codec.specs.declared.file.Ltx.{Ltx}
use Rattle.ltx_backup.specs.Entries.{IsLevel, IsKept}
use Rattle.ltx_backup.specs.Judging.{HasNumbers, Judging, IsRefusedPast}
use Rattle.ltx_backup.specs.Levels.{Levels, Stands}
use Rattle.ltx_backup.specs.Trimming.{IsTrimmed, HasTrimmed}
use Rattle.ltx_backup.specs.declared.entry.Entry.{Entry}
use Rattle.ltx_backup.specs.declared.entry.Index.{Index}
use Rattle.ltx_backup.specs.declared.fault.BackupFault.{BackupFault}
use Rattle.ltx_backup.proofs.Blaming.{blamed_too}
use Rattle.ltx_backup.proofs.Holding.{stands_same, all_stand_same, has_same}
use Rattle.ltx_backup.proofs.Turns.{resting}

-- two folders have the same files
abbrev pub Alike : Folder → Folder → Type 0
Alike f g = (n : FileName) → g n ≡ f n

pub rests_now : (h new : History) → Rests h new → Alike (now h) (now new)
rests_now h new rests n =
    subst (λ (t : ℕ). new.seen t n ≡ h.seen h.moment n) (sym rests.moment) (rests.past.seen h.moment n (omega arith))

pub rests_join : (h mid new : History) → Rests h mid → Rests mid new → Rests h new
rests_join h mid new first second = record {
  moment = second.moment ∙ first.moment;
  past = past_joins h mid new (omega (arith, first.moment)) first.past second.past;
}

pub rests_stay : (h : History) → Rests h h
rests_stay h = record { moment = refl; past = past_stays h }

pub settled_rests : (h new : History) → IsSettledBut Staged h → Rests h new → IsSettledBut Staged new
settled_rests h new settled rests c may n differs =
    settled c (rests.past.no_more h.moment c (omega arith) (subst (λ (t : ℕ). new.leaves t c) rests.moment may)) n differs ∙ sym (rests_now h new rests n)

unfoldable pub judging_alike : (f g : Folder) (here : Pos) (names entries : List Entry) (end : Pos) → Alike f g → Judging f here names entries end → Judging g here names entries end
judging_alike f g here names entries end same judging = record {
  files = judging.files;
  stand = all_stand_same f g judging.files (λ a b. same (LtxName a b)) judging.stand;
  lead = judging.lead;
  entries_are = judging.entries_are;
  end_is = judging.end_is;
  covers = judging.covers;
  sound = judging.sound;
}

pub refused_alike : (f g : Folder) (level : ℕ) (entry : Entry) (number : ℕ) (here : Pos) (why : BackupFault) → Alike f g → IsRefusedPast g level entry number here why → IsRefusedPast f level entry number here why
refused_alike f g level entry number here why same =
    blamed_too level entry.min entry.max
    ((number < entry.min) × ((file : Ltx) → HasNumbers file entry → Stands g file → before file ≡ here → ⊥))
    ((number < entry.min) × ((file : Ltx) → HasNumbers file entry → Stands f file → before file ≡ here → ⊥)) why
    (λ reason. (reason.0, (λ file numbers stands joins. reason.1 file numbers (stands_same f g file (same (LtxName file.header.min file.header.max)) stands) joins)))

-- a disk that was read before files were removed
pub trims_after : (number : ℕ) (h mid new : History) → IsSettledBut Staged h → Rests h mid → EachMoment mid new (IsTrimmed number (now mid)) → EachMoment h new (IsTrimmed number (now h))
trims_after number h mid new settled rests runs =
    joined h mid new (IsTrimmed number (now h))
    (weakened h mid (SameBut Staged (now h)) (IsTrimmed number (now h)) (resting h mid settled rests)
    (λ c same. record { snapshot = same Snapshot refl; past = λ a b above. same (LtxName a b) refl }))
    (weakened mid new (IsTrimmed number (now mid)) (IsTrimmed number (now h)) runs
    (λ c trimmed. record {
      snapshot = trimmed.snapshot ∙ rests_now h mid rests Snapshot;
      past = λ a b above. trimmed.past a b above ∙ rests_now h mid rests (LtxName a b);
    }))

pub trimmed_after : (number : ℕ) (names : List Entry) (h mid new : History) → Rests h mid → HasTrimmed number names (now mid) new → HasTrimmed number names (now h) new
trimmed_after number names h mid new rests done = record {
  trimmed = record {
    snapshot = done.trimmed.snapshot ∙ rests_now h mid rests Snapshot;
    past = λ a b above. done.trimmed.past a b above ∙ rests_now h mid rests (LtxName a b);
  };
  gone = done.gone;
  fewer = λ a b none. done.fewer a b (rests_now h mid rests (LtxName a b) ∙ none);
  settled = done.settled;
}

pub level_rests : (entries : List Entry) (files : List Ltx) (h new : History) → IsLevel entries files h → Rests h new → IsLevel entries files new
level_rests entries files h new level rests = record {
  entries_are = level.entries_are;
  has = has_same 0 files (now h) (now new) (λ a b. rests_now h new rests (LtxName a b)) level.has;
  settled = settled_rests h new level.settled rests;
}

pub kept_rests : (levels : Levels) (index : Index) (l m h l_now m_now h_now : History) → IsKept levels index l m h → Rests l l_now → Rests m m_now → Rests h h_now → IsKept levels index l_now m_now h_now
kept_rests levels index l m h l_now m_now h_now kept low middle high = record {
  lows = level_rests index.entries.lows.items levels.lows l l_now kept.lows low;
  middles = level_rests index.entries.middles.items levels.middles m m_now kept.middles middle;
  highs = level_rests index.entries.highs.items levels.highs h h_now kept.highs high;
  no_snapshot = rests_now l l_now low Snapshot ∙ kept.no_snapshot;
  joined = kept.joined;
  end = kept.end;
}
