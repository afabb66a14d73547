-- A log is judged file by file.
use Rattle.std.proofs.Common.{◌≡◌, ◌≢◌, ◌⊎◌, inl, inr, ℕ, zero, suc, ◌+◌, ◌<◌, List, [], ◌∷◌, ◌++◌, length, take, get_or, fold, map, Option, Some, None, Err, refl, sym, ◌∙◌, ap, subst, arith}
use Rattle.std.specs.Option.{option_map}
use Rattle.std.proofs.lemmas.List.{take_more, get_or-map, length-map}
use Rattle.std.proofs.lemmas.List.Sums.{fold-append}
use Rattle.lf_base.specs.declared.pos.Pos.{Pos}
use Rattle.lf_disk.specs.declared.name.FileName.TheVariants.{Ltx as LtxName}
use Rattle.lf_disk.specs.Folder.{Folder, bytes_of}
use Rattle.lf_disk.specs.History.{History, now, Rests}
use Rattle.lf_disk.proofs.Moments.{past_joins, past_stays}
use Rattle.ltx_codec.specs.Format.{IsHeader}
use Rattle.ltx_codec.specs.Positions.{before, after, nowhere}
use Rattle.ltx_codec.specs.declared.file.Ltx.{Ltx}
use Rattle.world_laws.specs.Store.{end_of}
use Rattle.txn_log.specs.declared.entry.Entry.{Entry}
use Rattle.txn_log.specs.Kept.{LogFile, file_of, encoded_change}
use Rattle.txn_log.specs.Durable.{IsEncoding, log_of}
use Rattle.txn_log.specs.Store.{files_in, AreEntries}
use Rattle.txn_log.proofs.Commits.{Follows, entries-more}
use Rattle.txn_log.proofs.Entries.{end-push}
use Rattle.txn_log.proofs.Installed.{alone}
use Rattle.txn_log.proofs.Stores.{file_at}
use Rattle.node_recovery.specs.declared.fault.RecoverFault.{RecoverFault}
use Rattle.node_recovery.specs.declared.fault.RecoverFault.TheVariants as fault
use Rattle.node_recovery.specs.declared.file_summary.FileSummary.{FileSummary}
use Rattle.node_recovery.specs.declared.outline.Outline.{Outline}
use Rattle.node_recovery.specs.Damage.{IsNext, last_file, position_behind, IsRefusedBehind}
use Rattle.node_recovery.specs.Finding.{AreEnded}
use Rattle.node_recovery.specs.Outcome.{Blames, TellsLast, JudgesLog}
use Rattle.node_recovery.specs.Outline.{position_after, entry_of, encoding_under, IsOutlineIn}
use Rattle.node_recovery.specs.Summing.{IsTallied}

-- calls that change nothing, one after another
pub rests_both : (h mid new : History) → Rests h mid → Rests mid new → Rests h new
rests_both h mid new one two = record { moment = two.moment ∙ one.moment; past = past_joins h mid new (omega (arith, one.moment)) one.past two.past }

pub rests_none : (h : History) → Rests h h
rests_none h = record { moment = refl; past = past_stays h }

pub same_now : (h mid : History) → Rests h mid → now mid ≡ now h
same_now h mid rests = (λ i. mid.seen (rests.moment i)) ∙ (λ i n. rests.past.seen h.moment n (omega arith) i)

-- the position behind what was read last
abbrev pub behind_read : Option FileSummary → Option Pos
behind_read last = option_map (λ read. position_after read.outline) last

-- of the first files this was read last
pub record IsReadAt (names : List Entry) (f : Folder) (i : ℕ) (last : FileSummary) : Type 0 where
  pub read : IsOutlineIn (encoding_under last.outline f) last.outline
  pub last_is : Some (file_of (encoding_under last.outline f)) ≡ last_file (take i (files_in names f))
  pub tallied : i ≡ length names → IsTallied (encoded_change (encoding_under last.outline f)) last.tally

abbrev pub ReadAt : List Entry → Folder → ℕ → Option FileSummary → Type 0
ReadAt names f i None = last_file (take i (files_in names f)) ≡ None
ReadAt names f i (Some last) = IsReadAt names f i last

-- the first files are judged
pub record Judged (names : List Entry) (f : Folder) (i : ℕ) (entries : List Entry) (last : Option FileSummary) : Type 0 where
  pub are : AreEntries entries (take i (files_in names f))
  pub read : ReadAt names f i last

-- no entries are those of no files
pub no_entries : (entries : List Entry) → entries ≡ [] → AreEntries entries []
no_entries entries none = record {
  log = record {
    ascends = tt;
    encodings = λ k d within. absurd (omega (arith, within));
    min = λ k d within. absurd (omega (arith, within));
    max = λ k d within. absurd (omega (arith, within));
    follow = λ k d within. absurd (omega (arith, within));
  };
  same = sym none;
}

pub begins : (names : List Entry) (f : Folder) (entries : List Entry) → entries ≡ [] → Judged names f 0 entries None
begins names f entries none = record { are = no_entries entries none; read = refl }

no_last : (found : Ltx) (files : List LogFile) → fold (λ (_ : Option Ltx) (g : LogFile). Some (file_of g.encoding)) (Some found) files ≡ None → ⊥
no_last found [] none = absurd (cc)
no_last found (f ∷ fs) none = no_last (file_of f.encoding) fs none

-- without a last file there is none
pub empty_log : (files : List LogFile) → last_file files ≡ None → files ≡ []
empty_log [] none = refl
empty_log (f ∷ fs) none = absurd (no_last (file_of f.encoding) fs none)

ends_from : (position : Pos) (found : Option Ltx) (files : List LogFile) (last : Ltx) → ((g : Ltx) → found ≡ Some g → position ≡ after g) → fold (λ (_ : Option Ltx) (g : LogFile). Some (file_of g.encoding)) found files ≡ Some last
    → fold (λ (_ : Pos) (g : Ltx). after g) position (log_of files) ≡ after last
ends_from position found [] last at some = at last some
ends_from position found (f ∷ fs) last at some =
    ends_from (after (file_of f.encoding)) (Some (file_of f.encoding)) fs last (λ g same. ap after (Rattle.std.proofs.lemmas.Option.same_Some (file_of f.encoding) g same)) some

-- the log ends behind its last file
pub ends_at : (files : List LogFile) (last : Ltx) → last_file files ≡ Some last → end_of (log_of files) ≡ after last
unfolding end_of
ends_at files last some = ends_from nowhere None files last (λ g same. absurd (cc)) some

-- entries end behind the file of the last one
pub ended_more : (entries : List Entry) (outline : Outline) → IsHeader outline.header → AreEnded (entries ++ entry_of outline ∷ []) (Some outline)
ended_more entries outline valid = (some entries, end-push entries (entry_of outline), valid)
  where
    some : (es : List Entry) → es ++ entry_of outline ∷ [] ≢ []
    some [] same = absurd (cc)
    some (e ∷ es) same = absurd (cc)

-- one file more
module _ (names : List Entry) (f : Folder) (i : ℕ) (d : Entry) (entries : List Entry) (last : Option FileSummary) (within : i < length names) (so_far : Judged names f i entries last) where
  abbrev name : Entry
  name = get_or names i d

  abbrev encoding : List ℕ
  encoding = bytes_of (f (LtxName name.min name.max))

  abbrev files : List LogFile
  files = take i (files_in names f)

  pub splits : take (i + 1) (files_in names f) ≡ files ++ file_at f name ∷ []
  splits =
      let long : i < length (files_in names f) = omega (arith, within, length-map names (file_at f)) in
      take_more (files_in names f) i (file_at f d) long ∙ ap (λ (g : LogFile). files ++ g ∷ []) (get_or-map (file_at f) names i d (file_at f d) within)

  -- the position behind what was read last is that behind the files
  position : (o : Option FileSummary) → ReadAt names f i o → behind_read o ≡ position_behind files
  position None none = sym (ap (λ (g : Option Ltx). option_map after g) none)
  position (Some read) is = ap (λ (o : Outline). Some (position_after o)) is.read.tells ∙ ap (λ (g : Option Ltx). option_map after g) is.last_is

  module _ (read : FileSummary) (is : IsOutlineIn encoding read.outline) (next : IsNext name (behind_read last) (file_of encoding)) where
    is_encoding : IsEncoding encoding
    is_encoding = ∣ is.is ∣₁

    are_more : AreEntries (entries ++ Rattle.txn_log.specs.Store.entry_of (file_of encoding) ∷ []) (files ++ file_at f name ∷ [])
    are_more = elim (cases (last_file files)) [
      | inl none ↦
          let no_files : files ≡ [] = empty_log files none in
          let no_entries : entries ≡ [] = sym so_far.are.same ∙ ap (λ (fs : List LogFile). map (λ (g : LogFile). Rattle.txn_log.specs.Store.entry_of (file_of g.encoding)) fs) no_files in
          let one : AreEntries (Rattle.txn_log.specs.Store.entry_of (file_of encoding) ∷ []) (file_at f name ∷ []) = record { log = alone (file_at f name) is_encoding next.min next.max; same = refl } in
          subst (λ (fs : List LogFile). AreEntries (entries ++ Rattle.txn_log.specs.Store.entry_of (file_of encoding) ∷ []) (fs ++ file_at f name ∷ [])) (sym no_files)
          (subst (λ (es : List Entry). AreEntries (es ++ Rattle.txn_log.specs.Store.entry_of (file_of encoding) ∷ []) (file_at f name ∷ [])) (sym no_entries) one)
      | inr some ↦
          let behind : behind_read last ≡ Some (after some.0) = position last so_far.read ∙ ap (λ (g : Option Ltx). option_map after g) some.1 in
          let joins : before (file_of encoding) ≡ after some.0 = next.follows (after some.0) behind in
          let end : end_of (log_of files) ≡ after some.0 = ends_at files some.0 some.1 in
          let follows : Follows files (file_at f name) = record {
            is = is_encoding;
            min = next.min;
            max = next.max;
            order = omega (arith, next.min, next.max, is.is.valid.header.max);
            above = omega (arith, ap (λ (p : Pos). p.txid) end, ap (λ (p : Pos). p.txid) joins, is.is.valid.header.min, next.min);
            next = joins ∙ sym end;
          } in
          entries-more entries files (file_at f name) so_far.are follows
    ]
      where
        cases : (o : Option Ltx) → (o ≡ None) ⊎ ((x : Ltx) × (o ≡ Some x))
        cases None = inl refl
        cases (Some x) = inr (x, refl)

    -- it stands under the numbers of its outline
    under : encoding_under read.outline f ≡ encoding
    under =
        let low : read.outline.header.min ≡ name.min = ap (λ (o : Outline). o.header.min) is.tells ∙ next.min in
        let high : read.outline.header.max ≡ name.max = ap (λ (o : Outline). o.header.max) is.tells ∙ next.max in
        λ j. bytes_of (f (LtxName (low j) (high j)))

    pub judged : (i + 1 ≡ length names → IsTallied (encoded_change encoding) read.tally) → Judged names f (i + 1) (entries ++ entry_of read.outline ∷ []) (Some read)
    judged tallied = record {
      are =
          subst (λ (e : Entry). AreEntries (entries ++ e ∷ []) (take (i + 1) (files_in names f))) (sym (ap entry_of is.tells))
          (subst (λ (fs : List LogFile). AreEntries (entries ++ Rattle.txn_log.specs.Store.entry_of (file_of encoding) ∷ []) fs) (sym splits) are_more);
      read = record {
        read = subst (λ (t : List ℕ). IsOutlineIn t read.outline) (sym under) is;
        last_is =
            ap (λ (t : List ℕ). Some (file_of t)) under
            ∙ sym (fold-append (λ (_ : Option Ltx) (g : LogFile). Some (file_of g.encoding)) None files (file_at f name ∷ []))
            ∙ ap (λ (fs : List LogFile). last_file fs) (sym splits);
        tallied = λ all. subst (λ (t : List ℕ). IsTallied (encoded_change t) read.tally) (sym under) (tallied all);
      };
    }

  -- or it is the first that is refused
  pub refused : (why : RecoverFault) → Blames (LtxName name.min name.max) (IsRefusedBehind name (behind_read last) encoding) why → JudgesLog names f (Err why)
  refused fault.Disk blames = tt
  refused fault.NoMemory blames = tt
  refused (fault.Damaged blamed want got) blames = record {
    index = i;
    within = within;
    before = so_far.are.log;
    name = λ e. blames.0 ∙ ap (λ (x : Entry). LtxName x.min x.max) (get_or_any names i d e within);
    why = λ e.
        let all : IsRefusedBehind name (position_behind files) encoding want got = subst (λ (p : Option Pos). IsRefusedBehind name p encoding want got) (position last so_far.read) blames.1 in
        subst (λ (x : Entry). IsRefusedBehind x (position_behind files) (bytes_of (f (LtxName x.min x.max))) want got) (get_or_any names i d e within) all;
  }
    where
      get_or_any : (es : List Entry) (k : ℕ) (x y : Entry) → k < length es → get_or es k x ≡ get_or es k y
      get_or_any [] k x y within = absurd (omega (arith, within))
      get_or_any (e ∷ es) zero x y within = refl
      get_or_any (e ∷ es) (suc k) x y within = get_or_any es k x y (omega (arith, within))

-- all of them are
module _ (names : List Entry) (f : Folder) (i : ℕ) (entries : List Entry) (all : i ≡ length names) where
  whole : take i (files_in names f) ≡ files_in names f
  whole = Rattle.std.proofs.lemmas.List.take_all i (files_in names f) (omega (arith, all, length-map names (file_at f)))

  pub all_entries : (last : Option FileSummary) → Judged names f i entries last → AreEntries entries (files_in names f)
  all_entries last judged = subst (λ (fs : List LogFile). AreEntries entries fs) whole judged.are

  pub last_told : (last : Option FileSummary) → Judged names f i entries last → TellsLast names f last
  last_told None judged = no_names names (empty_log (files_in names f) (ap last_file (sym whole) ∙ judged.read))
    where
      no_names : (ns : List Entry) → files_in ns f ≡ [] → ns ≡ []
      no_names [] none = refl
      no_names (n ∷ ns) none = absurd (cc)
  last_told (Some last) judged = record {
    read = judged.read.read;
    last_is = judged.read.last_is ∙ ap last_file whole;
    tallied = judged.read.tallied all;
  }
