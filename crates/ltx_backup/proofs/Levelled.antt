-- One compaction of the lowest level, or of the next: what is kept then.
use Rattle.std.proofs.Common.{◌≡◌, ◌∙◌, inl, inr, ℕ, zero, suc, List, [], ◌∷◌, ◌++◌, drop, refl, sym, ap, subst, arith}
use Rattle.lf_base.specs.declared.pos.Pos.{Pos}
use Rattle.lf_disk.specs.declared.name.FileName.TheVariants.{Staged, Snapshot, Ltx as LtxName}
use Rattle.lf_disk.specs.Folder.{Folder, SameBut}
use Rattle.lf_disk.specs.History.{History, now}
use Rattle.lf_disk.specs.Publish.{with_bytes}
use Rattle.lf_disk.proofs.Moments.{started}
use Rattle.ltx_codec.specs.Positions.{after, nowhere}
use Rattle.ltx_codec.specs.declared.file.Ltx.{Ltx}
use Rattle.ltx_backup.specs.Entries.{entry_of, entries_of, IsKept}
use Rattle.ltx_backup.specs.Levels.{Levels, chain, LeadOn, end_of, HasPast, Holds}
use Rattle.ltx_backup.specs.Moving.{AreDue, IsEightOf, HasFolded, MayFold}
use Rattle.ltx_backup.specs.Settling.{Settles, KeepsSettled, HoldsSettled}
use Rattle.ltx_backup.specs.Ordered.{AllOrdered}
use Rattle.ltx_backup.specs.Stops.{Stops}
use Rattle.ltx_backup.specs.Stored.{stored}
use Rattle.ltx_backup.specs.Trimming.{IsTrimmed}
use Rattle.ltx_backup.specs.declared.entry.Entry.{Entry}
use Rattle.ltx_backup.specs.declared.entry.Index.{Index}
use Rattle.ltx_backup.proofs.Adds.{held_same}
use Rattle.ltx_backup.proofs.Folds.{end_above, lead_now, end_now, uppers_more, files_left, files_alone}
use Rattle.ltx_backup.proofs.Holding.{has_higher, has_same, lead_front, lead_back, lead_join, end_join}
use Rattle.ltx_backup.proofs.Judges.{entries_join}
use Rattle.ltx_backup.proofs.Lifts.{goes_up_low, goes_up_middle}
use Rattle.ltx_backup.proofs.Restorings.{chain_ordered}
use Rattle.ltx_backup.proofs.Settlings.{settles_none, settles_one, is_due}
use Rattle.ltx_backup.proofs.Turns.{apart, weaker}
use Rattle.ltx_backup.proofs.Unique.{grouped, lead_highs, lead_lows}

entries_drop : (n : ℕ) (files : List Ltx) → drop n (entries_of files) ≡ entries_of (drop n files)
entries_drop zero files = refl
entries_drop (suc n) [] = refl
entries_drop (suc n) (x ∷ xs) = entries_drop n xs

trimmed_same : (number : ℕ) (f g : Folder) → SameBut Staged f g → IsTrimmed number f g
trimmed_same number f g same = record { snapshot = same Snapshot refl; past = λ a b above. same (LtxName a b) refl }

-- the levels after a compaction of the lowest one, and of the next
abbrev lowered : Levels → Ltx → Levels
lowered levels file = record levels { lows = drop 8 levels.lows; middles = levels.middles ++ file ∷ [] }

abbrev raised : Levels → Ltx → Levels
raised levels file = record levels { middles = drop 8 levels.middles; highs = levels.highs ++ file ∷ [] }

module _ (levels : Levels) (index : Index) (l m h : History) (kept : IsKept levels index l m h) where
  held_none : (a b c : Folder) → SameBut Staged (now l) a → SameBut Staged (now m) b → SameBut Staged (now h) c → HoldsSettled levels a b c
  held_none a b c low middle high = record { count = 0; levels = levels; settles = settles_none levels; holds = held_same levels index l m h kept a b c low middle high }

  order : AllOrdered (chain levels)
  order = chain_ordered levels index l m h kept

  module _ (due : AreDue index.entries.lows.items) where
    module _ (file : Ltx) (eight : IsEightOf levels.lows file) where
      low_pair : LeadOn (end_of nowhere levels.highs) (levels.middles ++ levels.lows)
      low_pair = lead_back nowhere levels.highs (levels.middles ++ levels.lows) (subst (λ (x : List Ltx). LeadOn nowhere x) (grouped levels.highs levels.middles levels.lows) kept.joined)

      low_above : end_of nowhere (levels.highs ++ (levels.middles ++ file ∷ [])) ≡ after file
      low_above = end_join nowhere levels.highs (levels.middles ++ file ∷ []) ∙ end_above (end_of nowhere levels.highs) levels.middles levels.lows low_pair file eight

      low_joined : LeadOn nowhere (chain (lowered levels file))
      low_joined =
          subst (λ (x : List Ltx). LeadOn nowhere x) (sym (grouped levels.highs (levels.middles ++ file ∷ []) (drop 8 levels.lows)))
          (lead_join nowhere levels.highs ((levels.middles ++ file ∷ []) ++ drop 8 levels.lows) (lead_highs levels kept.joined)
          (lead_now (end_of nowhere levels.highs) levels.middles levels.lows low_pair file eight))

      low_end : end_of nowhere (chain (lowered levels file)) ≡ end_of nowhere (chain levels)
      low_end =
          ap (λ (x : List Ltx). end_of nowhere x) (grouped levels.highs (levels.middles ++ file ∷ []) (drop 8 levels.lows))
          ∙ end_join nowhere levels.highs ((levels.middles ++ file ∷ []) ++ drop 8 levels.lows)
          ∙ end_now (end_of nowhere levels.highs) levels.middles levels.lows low_pair file eight
          ∙ sym (end_join nowhere levels.highs (levels.middles ++ levels.lows))
          ∙ sym (ap (λ (x : List Ltx). end_of nowhere x) (grouped levels.highs levels.middles levels.lows))

      low_held : (a b c : Folder) → IsTrimmed file.header.max (now l) a → SameBut Staged (with_bytes (LtxName file.header.min file.header.max) (stored file) (now m)) b → SameBut Staged (now h) c
          → Holds (lowered levels file) a b c
      low_held a b c trimmed there high = inl (record {
        no_snapshot = trimmed.snapshot ∙ kept.no_snapshot;
        highs = has_same 0 levels.highs (now h) c (λ x y. high (LtxName x y) refl) kept.highs.has;
        middles = uppers_more (end_of nowhere levels.highs) levels.middles levels.lows low_pair file eight (now l) (now m) kept.lows.has kept.middles.has (end_of nowhere levels.highs).txid b there;
        lows = subst (λ (p : Pos). HasPast p.txid (drop 8 levels.lows) a) (sym low_above)
            (files_left (end_of nowhere levels.highs) levels.middles levels.lows low_pair file eight (now l) (now m) kept.lows.has kept.middles.has a trimmed);
        joined = low_joined;
      })

      low_settles : Settles 1 levels (lowered levels file)
      low_settles =
          settles_one levels (lowered levels file) kept.joined order
          (inl (record { due = is_due index.entries.lows.items levels.lows kept.lows.entries_are due; file = file; is = eight.is; does = eight.does; left = refl; made = refl }, refl))

      low_settled : (a b c : Folder) → IsTrimmed file.header.max (now l) a → SameBut Staged (with_bytes (LtxName file.header.min file.header.max) (stored file) (now m)) b → SameBut Staged (now h) c
          → HoldsSettled levels a b c
      low_settled a b c trimmed there high = record { count = 1; levels = lowered levels file; settles = low_settles; holds = low_held a b c trimmed there high }

    pub low_stops : (l_now m_now : History) → MayFold levels.lows l m l_now m_now → Stops l m h l_now m_now h (HoldsSettled levels)
    low_stops l_now m_now (inl still) =
        weaker l m h l_now m_now h (λ a b c. SameBut Staged (now l) a × SameBut Staged (now m) b × SameBut Staged (now h) c) (HoldsSettled levels)
        (λ a b c same. held_none a b c same.0 same.1 same.2)
        (apart l m h l_now m_now h (SameBut Staged (now l)) (SameBut Staged (now m)) (SameBut Staged (now h)) still.0 still.1 (started h (SameBut Staged (now h)) kept.highs.settled))
    low_stops l_now m_now (inr goes) =
        goes_up_low l m h l_now m_now goes.0 (HoldsSettled levels) kept.lows.settled kept.highs.settled goes.2
        (λ a b c low middle high. elim middle [
          | inl old ↦ held_none a b c low old high
          | inr there ↦ low_settled goes.0 goes.1 a b c (trimmed_same goes.0.header.max (now l) a low) there high
        ])
        (low_settled goes.0 goes.1)

    pub low_kept : (index_now : Index) (l_now m_now : History)
        → HasFolded levels.lows index.entries.lows.items index.entries.middles.items index_now.entries.lows.items index_now.entries.middles.items l m l_now m_now
        → index_now.entries.highs.items ≡ index.entries.highs.items → index_now.end ≡ index.end → KeepsSettled 1 levels index_now l_now m_now h
    low_kept index_now l_now m_now folded highs end =
        record {
          levels = lowered levels folded.file;
          settles = low_settles folded.file folded.eight;
          kept = record {
            lows = record {
              entries_are = folded.left ∙ ap (λ (es : List Entry). drop 8 es) kept.lows.entries_are ∙ entries_drop 8 levels.lows;
              has = files_alone (end_of nowhere levels.highs) levels.middles levels.lows (low_pair folded.file folded.eight) folded.file folded.eight (now l) (now m) kept.lows.has kept.middles.has
                  l_now index.entries.lows.items kept.lows.entries_are folded.done.gone;
              settled = folded.done.gone.settled;
            };
            middles = record {
              entries_are = folded.made ∙ ap (λ (es : List Entry). es ++ entry_of folded.file ∷ []) kept.middles.entries_are ∙ sym (entries_join levels.middles (folded.file ∷ []));
              has = uppers_more (end_of nowhere levels.highs) levels.middles levels.lows (low_pair folded.file folded.eight) folded.file folded.eight (now l) (now m) kept.lows.has kept.middles.has
                  0 (now m_now) folded.done.there.seen;
              settled = folded.done.there.settled;
            };
            highs = record { entries_are = highs ∙ kept.highs.entries_are; has = kept.highs.has; settled = kept.highs.settled };
            no_snapshot = folded.done.gone.trimmed.snapshot ∙ kept.no_snapshot;
            joined = low_joined folded.file folded.eight;
            end = end ∙ kept.end ∙ sym (low_end folded.file folded.eight);
          };
        }

  module _ (due : AreDue index.entries.middles.items) where
    module _ (file : Ltx) (eight : IsEightOf levels.middles file) where
      high_pair : LeadOn nowhere (levels.highs ++ levels.middles)
      high_pair = lead_front nowhere (levels.highs ++ levels.middles) levels.lows kept.joined

      high_joined : LeadOn nowhere (chain (raised levels file))
      high_joined =
          lead_join nowhere ((levels.highs ++ file ∷ []) ++ drop 8 levels.middles) levels.lows (lead_now nowhere levels.highs levels.middles high_pair file eight)
          (subst (λ (p : Pos). LeadOn p levels.lows) (sym (end_now nowhere levels.highs levels.middles high_pair file eight)) (lead_lows levels kept.joined))

      high_end : end_of nowhere (chain (raised levels file)) ≡ end_of nowhere (chain levels)
      high_end =
          end_join nowhere ((levels.highs ++ file ∷ []) ++ drop 8 levels.middles) levels.lows
          ∙ ap (λ (p : Pos). end_of p levels.lows) (end_now nowhere levels.highs levels.middles high_pair file eight)
          ∙ sym (end_join nowhere (levels.highs ++ levels.middles) levels.lows)

      high_held : (a b c : Folder) → SameBut Staged (now l) a → IsTrimmed file.header.max (now m) b → SameBut Staged (with_bytes (LtxName file.header.min file.header.max) (stored file) (now h)) c
          → Holds (raised levels file) a b c
      high_held a b c low trimmed there = inl (record {
        no_snapshot = low Snapshot refl ∙ kept.no_snapshot;
        highs = uppers_more nowhere levels.highs levels.middles high_pair file eight (now m) (now h) kept.middles.has kept.highs.has 0 c there;
        middles = subst (λ (p : Pos). HasPast p.txid (drop 8 levels.middles) b) (sym (end_above nowhere levels.highs levels.middles high_pair file eight))
            (files_left nowhere levels.highs levels.middles high_pair file eight (now m) (now h) kept.middles.has kept.highs.has b trimmed);
        lows = has_higher 0 _ levels.lows a (omega arith) (has_same 0 levels.lows (now l) a (λ x y. low (LtxName x y) refl) kept.lows.has);
        joined = high_joined;
      })

      high_settles : Settles 1 levels (raised levels file)
      high_settles =
          settles_one levels (raised levels file) kept.joined order
          (inr (record { due = is_due index.entries.middles.items levels.middles kept.middles.entries_are due; file = file; is = eight.is; does = eight.does; left = refl; made = refl }, refl))

      high_settled : (a b c : Folder) → SameBut Staged (now l) a → IsTrimmed file.header.max (now m) b → SameBut Staged (with_bytes (LtxName file.header.min file.header.max) (stored file) (now h)) c
          → HoldsSettled levels a b c
      high_settled a b c low trimmed there = record { count = 1; levels = raised levels file; settles = high_settles; holds = high_held a b c low trimmed there }

    pub middle_stops : (m_now h_now : History) → MayFold levels.middles m h m_now h_now → Stops l m h l m_now h_now (HoldsSettled levels)
    middle_stops m_now h_now (inl still) =
        weaker l m h l m_now h_now (λ a b c. SameBut Staged (now l) a × SameBut Staged (now m) b × SameBut Staged (now h) c) (HoldsSettled levels)
        (λ a b c same. held_none a b c same.0 same.1 same.2)
        (apart l m h l m_now h_now (SameBut Staged (now l)) (SameBut Staged (now m)) (SameBut Staged (now h)) (started l (SameBut Staged (now l)) kept.lows.settled) still.0 still.1)
    middle_stops m_now h_now (inr goes) =
        goes_up_middle l m h m_now h_now goes.0 (HoldsSettled levels) kept.lows.settled kept.middles.settled goes.2
        (λ a b c low middle high. elim high [
          | inl old ↦ held_none a b c low middle old
          | inr there ↦ high_settled goes.0 goes.1 a b c low (trimmed_same goes.0.header.max (now m) b middle) there
        ])
        (high_settled goes.0 goes.1)

    pub middle_kept : (index_now : Index) (m_now h_now : History)
        → HasFolded levels.middles index.entries.middles.items index.entries.highs.items index_now.entries.middles.items index_now.entries.highs.items m h m_now h_now
        → index_now.entries.lows.items ≡ index.entries.lows.items → index_now.end ≡ index.end → KeepsSettled 1 levels index_now l m_now h_now
    middle_kept index_now m_now h_now folded lows end = record {
      levels = raised levels folded.file;
      settles = high_settles folded.file folded.eight;
      kept = record {
        lows = record { entries_are = lows ∙ kept.lows.entries_are; has = kept.lows.has; settled = kept.lows.settled };
        middles = record {
          entries_are = folded.left ∙ ap (λ (es : List Entry). drop 8 es) kept.middles.entries_are ∙ entries_drop 8 levels.middles;
          has = files_alone nowhere levels.highs levels.middles (high_pair folded.file folded.eight) folded.file folded.eight (now m) (now h) kept.middles.has kept.highs.has
              m_now index.entries.middles.items kept.middles.entries_are folded.done.gone;
          settled = folded.done.gone.settled;
        };
        highs = record {
          entries_are = folded.made ∙ ap (λ (es : List Entry). es ++ entry_of folded.file ∷ []) kept.highs.entries_are ∙ sym (entries_join levels.highs (folded.file ∷ []));
          has = uppers_more nowhere levels.highs levels.middles (high_pair folded.file folded.eight) folded.file folded.eight (now m) (now h) kept.middles.has kept.highs.has
              0 (now h_now) folded.done.there.seen;
          settled = folded.done.there.settled;
        };
        no_snapshot = kept.no_snapshot;
        joined = high_joined folded.file folded.eight;
        end = end ∙ kept.end ∙ sym (high_end folded.file folded.eight);
      };
    }
