-- What a follower is owed, as the laws say it.
use Rattle.std.proofs.Common.{◌≡◌, ◌≢◌, ◌⊎◌, ◌∙◌, ℕ, ◌+◌, ◌-◌, ◌<◌, ◌≤◌, List, [], ◌∷◌, ◌++◌, Bool, true, false, IsTrue, Option, Some, None, length, take, drop, get_or, map, inl, inr, refl, sym, ap, subst, append_assoc, arith}
use Rattle.std.proofs.Math.Logic.{∥∥₁_elim}
use Rattle.std.proofs.Props.{props}
use Rattle.std.proofs.lemmas.Bool.{cases_Bool, cases_eq}
use Rattle.std.proofs.lemmas.List.{get_or_default, get_or-drop, get_or-map, get_or-take, length-map, take-append-drop}
use Rattle.std.proofs.lemmas.Option.{get_or_from_slice_get}
use Rattle.lf_base.specs.declared.pos.Pos.{Pos}
use Rattle.lf_disk.specs.Folder.{Folder}
use Rattle.lf_disk.specs.History.{History}
use Rattle.ltx_codec.specs.Fields.{AreBytes}
use Rattle.ltx_codec.specs.FileIn.{file_in}
use Rattle.ltx_codec.specs.Format.{IsFile, IsLtx, file_encoding, no_meaning}
use Rattle.ltx_codec.specs.Positions.{before, nowhere}
use Rattle.ltx_codec.specs.declared.file.Ltx.{Ltx}
use Rattle.ltx_codec.specs.declared.header.Header.{Header}
use Rattle.ltx_compact.specs.Compaction.{Compacts}
use Rattle.txn_log.specs.declared.answering.Answer.TheVariants as owed
use Rattle.txn_log.specs.declared.entry.Entry.{Entry}
use Rattle.txn_log.specs.Answering.{Answers, AnswersBy, IsFirstBehind}
use Rattle.txn_log.specs.LastFile.{Doubts, HasFile}
use Rattle.txn_log.specs.Durable.{log_of}
use Rattle.txn_log.specs.Giving.{IsEncodingAt}
use Rattle.txn_log.specs.Kept.{LogFile, file_of}
use Rattle.txn_log.specs.Store.{IsShaped, IsStore, end_of_entries, entry_of, files_in, meant}
use Rattle.txn_log.proofs.Entries.{end-empty, end-log}
use Rattle.txn_log.proofs.Stores.{length-files_in, no_entry}
use Rattle.world_laws.specs.declared.last_file.LastFile.{LastFile}
use Rattle.world_laws.specs.declared.last_file.LastFile.TheVariants as last_file
use Rattle.world_laws.specs.Answers.{AnswersHello, IsBlank, IsRelied, IsRunOf, Knows, MayDoubt, Owes, by_doubt, by_file, by_run, by_snapshot, snapshot_of}
use Rattle.world_laws.specs.Node as laws
use Rattle.world_laws.specs.Node.{NodeState}
use Rattle.world_laws.specs.Store.{at, end_of}
use Rattle.world_laws.proofs.Stores.{end_of-none}
use Rattle.node_core.specs.Hello.{IsFirstFile, IsOwed, IsRunOfFiles, IsWholeDatabase, WantsFile}
use Rattle.node_core.specs.Running.{IsEncodingOfAll, IsNext, IsRun, files_at}
use Rattle.node_core.specs.Stores.{StoreFields, position, state}
use Rattle.node_core.specs.Waiting.{IsFile-prop}

-- a position is this one or another
cases_nowhere : (p : Pos) → (p ≡ nowhere) ⊎ (p ≢ nowhere)
cases_nowhere p = elim (cases_eq p.txid 0) [
  | inl txid ↦ elim (cases_eq p.sum 0) [
    | inl sum ↦ inl (λ i. record { txid = txid i; sum = sum i })
    | inr other ↦ inr (λ same. other (ap (λ (q : Pos). q.sum) same))
  ]
  | inr other ↦ inr (λ same. other (ap (λ (q : Pos). q.txid) same))
]

false_true : false ≡ true → ⊥
false_true same = cc

-- a file is owed, or the snapshot
pub owes-file : (start : History) (s : StoreFields) (from : Pos) (last : Option LastFile) (first : ℕ) → IsOwed start s from last (owed.Files first) → WantsFile s from last
owes-file start s from last first owes = go owes.doubted last owes.doubts owes.answers where
  go : (doubted : Bool) (l : Option LastFile) → Doubts s.honest (start.seen start.moment) s.entries l doubted → AnswersBy doubted s.entries s.dropped from (owed.Files first) → WantsFile s from l
  go true l doubts answers = absurd answers
  go false None doubts answers = (answers.0, answers.1)
  go false (Some last_file.Unknown) doubts answers = absurd (false_true doubts)
  go false (Some (last_file.File min max sum)) doubts answers = inl (answers.0, answers.1)

pub owes-snapshot : (start : History) (s : StoreFields) (from : Pos) (last : Option LastFile) → IsOwed start s from last owed.Snapshot → WantsFile s from last
owes-snapshot start s from last owes = go owes.doubted last owes.doubts owes.answers where
  go : (doubted : Bool) (l : Option LastFile) → Doubts s.honest (start.seen start.moment) s.entries l doubted → AnswersBy doubted s.entries s.dropped from owed.Snapshot → WantsFile s from l
  go true None doubts answers = absurd (false_true (sym doubts))
  go true (Some last_file.Unknown) doubts answers = answers
  go true (Some (last_file.File min max sum)) doubts answers = inr (doubts.there refl)
  go false None doubts answers = (answers.0, answers.1)
  go false (Some last_file.Unknown) doubts answers = absurd (false_true doubts)
  go false (Some (last_file.File min max sum)) doubts answers = inl (answers.0, answers.1)

-- where the snapshot is owed there is a log
pub some-owed : (start : History) (s : StoreFields) (from : Pos) (last : Option LastFile) → IsOwed start s from last owed.Snapshot → s.entries ≢ []
some-owed start s from last owes = go owes.doubted owes.answers where
  go : (doubted : Bool) → AnswersBy doubted s.entries s.dropped from owed.Snapshot → s.entries ≢ []
  go true answers = answers.1
  go false answers = λ none. answers.1 (inl none)

-- the place of the first file that is owed
pub behind-owed : (start : History) (s : StoreFields) (from : Pos) (last : Option LastFile) (first : ℕ) → IsOwed start s from last (owed.Files first) → IsFirstBehind s.entries from first
behind-owed start s from last first owes = go owes.doubted owes.answers where
  go : (doubted : Bool) → AnswersBy doubted s.entries s.dropped from (owed.Files first) → IsFirstBehind s.entries from first
  go true answers = absurd answers
  go false answers = answers.2

-- what comes next is a file of the log, or a run
pub next-is : (start : History) (s : StoreFields) (from : Pos) (last : Option LastFile) (first : ℕ) → IsOwed start s from last (owed.Files first) → (ltx : List ℕ) (to : Pos)
    → IsNext s.entries first s.honest (state start s).log ltx to → IsFirstFile start s from last ltx to ⊎ IsRunOfFiles start s from last ltx to ⊎ IsWholeDatabase start s from last ltx to
next-is start s from last first owes ltx to (inl one) = inl record { first = first; owed = owes; leads = one.leads; encoding = one.encoding }
next-is start s from last first owes ltx to (inr run) = inr (inl record { first = first; owed = owes; run = run })

-- where a file of this header begins
abbrev start_of : Header → Pos
start_of h = record { txid = h.min - 1; sum = h.pre }

-- what files of a log become begins where the first of them does
begins-at : (log : List Ltx) (first count : ℕ) (file d : Ltx) → 1 ≤ count → Compacts (files_at log first count) file → before file ≡ before (get_or log first d)
begins-at log first count file d some is =
    let here : get_or (files_at log first count) 0 d ≡ is.first = get_or_from_slice_get (files_at log first count) 0 is.first d is.is_first in
    let there : get_or (files_at log first count) 0 d ≡ get_or log (first + 0) d = get_or-take count (drop first log) 0 d (omega (arith, some)) ∙ get_or-drop first log 0 d in
    let place : first + 0 ≡ first = omega arith in
    ap start_of is.header ∙ ap before (sym here ∙ there ∙ ap (λ (k : ℕ). get_or log k d) place)

-- they stand one behind another
are-run : (log : List Ltx) (first count : ℕ) → IsRunOf log (files_at log first count)
are-run log first count = record {
  front = take first log;
  behind = drop count (drop first log);
  is =
      sym (take-append-drop first log) ∙ ap (λ (back : List Ltx). take first log ++ back) (sym (take-append-drop count (drop first log)))
      ∙ sym (append_assoc (take first log) (take count (drop first log)) (drop count (drop first log)));
}

abbrev no_file : LogFile
no_file = record { min = 0; max = 0; encoding = [] }

module _ (h : History) (s : StoreFields) (is : IsStore h s.page_size s.commit s.entries s.dropped s.sums s.broken s.whole s.tried) where
  abbrev files : List LogFile
  files = files_in s.entries (h.seen (meant h s.broken s.whole))

  count : length files ≡ length s.entries
  count = length-files_in s.entries (h.seen (meant h s.broken s.whole))

  -- the position is the end of the log
  pub at-position : at (state h s) ≡ position s
  at-position = sym (end-log s.entries files is.log)

  -- the entry of a file at its place
  entry-at : (k : ℕ) (d : Ltx) (e : Entry) → k < length s.entries → entry_of (get_or (state h s).log k d) ≡ get_or s.entries k e
  entry-at k d e within =
      let there : k < length files = omega (arith, count, within) in
      let in_log : get_or (log_of files) k d ≡ file_of (get_or files k no_file).encoding = get_or-map (λ (f : LogFile). file_of f.encoding) files k no_file d there in
      let in_entries : get_or (map (λ (f : LogFile). entry_of (file_of f.encoding)) files) k e ≡ entry_of (file_of (get_or files k no_file).encoding) =
      get_or-map (λ (f : LogFile). entry_of (file_of f.encoding)) files k no_file e there in
      ap entry_of in_log ∙ sym in_entries ∙ ap (λ (es : List Entry). get_or es k e) is.log.same

  pub length-log : length (state h s).log ≡ length s.entries
  length-log = length-map files (λ (f : LogFile). file_of f.encoding) ∙ count

  empty-log : s.entries ≡ [] → (state h s).log ≡ []
  empty-log none = ap (λ (es : List Entry). log_of (files_in es (h.seen (meant h s.broken s.whole)))) none

  -- a position that isn't doubted counts
  relied : (f : Folder) (last : Option LastFile) → Doubts s.honest f s.entries last false → IsRelied (state h s) last
  relied f None doubts = tt
  relied f (Some last_file.Unknown) doubts = absurd (false_true doubts)
  relied f (Some (last_file.File min max sum)) doubts = tt

  -- and one that is may be doubted
  may_doubt : (f : Folder) (last : Option LastFile) → Doubts s.honest f s.entries last true → MayDoubt (state h s) last
  may_doubt f None doubts = absurd (false_true (sym doubts))
  may_doubt f (Some last_file.Unknown) doubts = tt
  may_doubt f (Some (last_file.File min max sum)) doubts =
      let has : HasFile s.entries min max = doubts.there refl in
      let within : has.0 < length (state h s).log = omega (arith, length-log, has.1.0) in
      let file : Ltx = get_or (state h s).log has.0 (file_in []) in
      let entry = entry-at has.0 (file_in []) no_entry has.1.0 in
      (file, (has.0, within, get_or_default (state h s).log has.0 file (file_in []) within), ap (λ (e : Entry). e.min) entry ∙ (has.1.1 no_entry).0, ap (λ (e : Entry). e.max) entry ∙ (has.1.1 no_entry).1)

  module _ (from : Pos) (last : Option LastFile) where
    -- a follower that is level
    nothing : (s.dropped ≡ true × (from ≢ nowhere) → ⊥) → s.entries ≡ [] → (from ≡ position s) ⊎ IsBlank (state h s)
    nothing not_gone none = elim (cases_Bool s.dropped) [
      | inr whole ↦ inr (empty-log none, whole)
      | inl dropped ↦ elim (cases_nowhere from) [
        | inl same ↦ inl (same ∙ sym (ap end_of_entries none ∙ end-empty))
        | inr other ↦ absurd (not_gone (dropped, other))
      ]
    ]

    -- where the log is empty every position counts
    relied-empty : s.entries ≡ [] → (l : Option LastFile) → IsRelied (state h s) l
    relied-empty none None = tt
    relied-empty none (Some last_file.Unknown) = empty-log none
    relied-empty none (Some (last_file.File min max sum)) = tt

    level-by : (relies : IsRelied (state h s) last) → (from ≡ position s) ⊎ IsBlank (state h s) → (IsRelied (state h s) last × (from ≡ position s)) ⊎ IsBlank (state h s)
    level-by relies (inl same) = inl (relies, same)
    level-by relies (inr blank) = inr blank

    level : (doubted : Bool) (f : Folder) → Doubts s.honest f s.entries last doubted → AnswersBy doubted s.entries s.dropped from owed.Level
        → (IsRelied (state h s) last × (from ≡ position s)) ⊎ IsBlank (state h s)
    level true f doubts answers = level-by (relied-empty answers.1 last) (nothing answers.0 answers.1)
    level false f doubts answers = elim answers.1 [
      | inr same ↦ inl (relied f last doubts, same)
      | inl none ↦ level-by (relied-empty none last) (nothing answers.0 none)
    ]

    gone : (doubted : Bool) → AnswersBy doubted s.entries s.dropped from owed.Gone → (s.dropped ≡ true) × (from ≢ nowhere)
    gone true answers = answers
    gone false answers = answers

    pub tells-level : (old new : NodeState) (role : laws.Role) → role ≡ laws.Primary → old.store ≡ state h s → (start : History) → IsOwed start s from last owed.Level
        → AnswersHello old new role from last (laws.Level (position s))
    tells-level old new role primary same start owes = (
      primary,
      sym at-position ∙ ap (λ t. at t) (sym same),
      subst (λ t. (IsRelied t last × (from ≡ position s)) ⊎ IsBlank t) (sym same) (level owes.doubted (start.seen start.moment) owes.doubts owes.answers),
    )

    pub tells-gone : (old new : NodeState) (role : laws.Role) → role ≡ laws.Primary → old.store ≡ state h s → IsShaped s.commit s.entries s.dropped s.sums → (start : History) → IsOwed start s from last owed.Gone
        → AnswersHello old new role from last laws.Gone
    tells-gone old new role primary same shaped start owes =
        let is = gone owes.doubted owes.answers in
        let none : s.entries ≡ [] = shaped.marked is.0 in
        (primary, ap (λ t. t.dropped) same ∙ is.0, (λ here. is.1 (here ∙ ap (λ t. at t) same ∙ at-position ∙ ap end_of_entries none ∙ end-empty)))

    counts : (first : ℕ) (start : History) (doubted : Bool) → Doubts s.honest (start.seen start.moment) s.entries last doubted → AnswersBy doubted s.entries s.dropped from (owed.Files first) → IsRelied (state h s) last
    counts first start true doubts answers = absurd answers
    counts first start false doubts answers = relied (start.seen start.moment) last doubts

    -- the file of the log
    tells-file : (octets-law : (bytes : List ℕ) (file : Ltx) → AreBytes bytes → IsLtx bytes file → file_in bytes ≡ file) (first : ℕ) (ltx : List ℕ) → AreBytes ltx
        → (start : History) → IsOwed start s from last (owed.Files first) → IsEncodingAt (state h s).log first ltx → Owes (state h s) from last (file_in ltx) × IsFile (file_in ltx)
    tells-file law first ltx octets start owes encoding =
        let file : Ltx = file_in ltx in
        let behind : IsFirstBehind s.entries from first = behind-owed start s from last first owes in
        let same : get_or (state h s).log first file ≡ file = ∥∥₁_elim (encoding file) (hlevel props) (λ (it : IsLtx ltx (get_or (state h s).log first file)). sym (law ltx (get_or (state h s).log first file) octets it)) in
        let valid : IsFile file = ∥∥₁_elim (encoding file) (IsFile-prop file) (λ (it : IsLtx ltx (get_or (state h s).log first file)). subst IsFile same it.valid) in
        let within : first < length (state h s).log = omega (arith, length-log, behind.there) in
        let leads : before file ≡ from =
        ap before (sym same) ∙ ap (λ (e : Entry). e.pre) (entry-at first file no_entry behind.there) ∙ behind.follows no_entry in
        (by_file (first, within, same) leads (counts first start owes.doubted owes.doubts owes.answers), valid)

    -- a run of files of the log
    tells-run : (octets-law : (bytes : List ℕ) (file : Ltx) → AreBytes bytes → IsLtx bytes file → file_in bytes ≡ file) (first : ℕ) (ltx : List ℕ) → AreBytes ltx
        → (start : History) → IsOwed start s from last (owed.Files first) → (to : Pos) → IsRun s.entries first s.honest (state h s).log ltx to → IsTrue s.honest → Owes (state h s) from last (file_in ltx) × IsFile (file_in ltx)
    tells-run law first ltx octets start owes to run honest =
        let log : List Ltx = (state h s).log in
        let behind : IsFirstBehind s.entries from first = behind-owed start s from last first owes in
        let all : IsEncodingOfAll (files_at log first run.count) ltx = run.encoding honest in
        let same : file_in ltx ≡ all.file = law ltx all.file octets record { valid = all.valid; reserved = no_meaning; room = refl; encoding = all.encoding } in
        let leads : before all.file ≡ from =
        begins-at log first run.count all.file all.file (omega (arith, run.several)) all.compacts ∙ ap (λ (e : Entry). e.pre) (entry-at first all.file no_entry behind.there) ∙ behind.follows no_entry in (
          subst (λ (f : Ltx). Owes (state h s) from last f) (sym same) (by_run (are-run log first run.count) all.join all.compacts leads (counts first start owes.doubted owes.doubts owes.answers)),
          subst IsFile (sym same) all.valid,
        )

    -- either
    pub tells-next : (octets-law : (bytes : List ℕ) (file : Ltx) → AreBytes bytes → IsLtx bytes file → file_in bytes ≡ file) (first : ℕ) (ltx : List ℕ) → AreBytes ltx
        → (start : History) → IsOwed start s from last (owed.Files first) → (to : Pos) → IsNext s.entries first s.honest (state h s).log ltx to → IsTrue s.honest → Owes (state h s) from last (file_in ltx) × IsFile (file_in ltx)
    tells-next law first ltx octets start owes to (inl one) honest = tells-file law first ltx octets start owes (one.encoding honest)
    tells-next law first ltx octets start owes to (inr run) honest = tells-run law first ltx octets start owes to run honest

    -- the log does not know the position
    unknown : 1 ≤ (position s).txid → Answers s.entries s.dropped from owed.Snapshot → Knows (state h s) from last → ⊥
    unknown written answers (inl (relies, inl here)) = answers.1 (inr (here ∙ at-position))
    unknown written answers (inl (relies, inr known)) =
        let k : ℕ = known.1.0 in
        let within : k < length s.entries = omega (arith, length-log, known.1.1) in
        answers.2 k no_entry within (ap (λ (e : Entry). e.pre) (sym (entry-at k known.0 no_entry within)) ∙ ap before known.1.2 ∙ known.2)
    unknown written answers (inr blank) =
        let none : (position s).txid ≡ 0 = ap (λ (p : Pos). p.txid) (sym at-position) ∙ ap (λ l. (end_of l).txid) blank.0 ∙ ap (λ (p : Pos). p.txid) end_of-none in
        absurd (omega (arith, none, written))

    -- the whole database is owed
    owes-whole : 1 ≤ (position s).txid → (doubted : Bool) (f : Folder) → Doubts s.honest f s.entries last doubted → AnswersBy doubted s.entries s.dropped from owed.Snapshot → Owes (state h s) from last (snapshot_of (state h s))
    owes-whole written doubted f doubts answers = go doubted doubts answers where
      some : 1 ≤ (at (state h s)).txid
      some = subst (λ (p : Pos). 1 ≤ p.txid) (sym at-position) written

      go : (doubted : Bool) → Doubts s.honest f s.entries last doubted → AnswersBy doubted s.entries s.dropped from owed.Snapshot → Owes (state h s) from last (snapshot_of (state h s))
      go true doubts answers = by_doubt some (may_doubt f last doubts)
      go false doubts answers = by_snapshot some (unknown written answers)

    pub tells-snapshot : (octets-law : (bytes : List ℕ) (file : Ltx) → AreBytes bytes → IsLtx bytes file → file_in bytes ≡ file) (ltx : List ℕ) → AreBytes ltx → 1 ≤ (position s).txid
        → (start : History) → IsOwed start s from last owed.Snapshot → IsFile (snapshot_of (state h s)) → ltx ≡ file_encoding (snapshot_of (state h s)) no_meaning
        → Owes (state h s) from last (file_in ltx) × IsFile (file_in ltx)
    tells-snapshot law ltx octets written start owes valid encoding =
        let is_encoding : IsLtx ltx (snapshot_of (state h s)) = record { valid = valid; reserved = no_meaning; room = refl; encoding = encoding } in
        let same : file_in ltx ≡ snapshot_of (state h s) = law ltx (snapshot_of (state h s)) octets is_encoding in (
          subst (λ (f : Ltx). Owes (state h s) from last f) (sym same) (owes-whole written owes.doubted (start.seen start.moment) owes.doubts owes.answers),
          subst IsFile (sym same) valid,
        )
