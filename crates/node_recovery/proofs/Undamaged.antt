-- A folder that stands for a store is not damaged.
use Rattle.std.proofs.Common.{◌≡◌, inl, inr, ℕ, zero, suc, ◌+◌, ◌<◌, ◌≤◌, List, [], ◌∷◌, ◌++◌, length, take, get_or, fold, Option, Some, None, IsSome, Err, refl, sym, ◌∙◌, ap, subst, arith}
use Rattle.std.specs.Option.{option_map}
use Rattle.std.proofs.Math.Logic.{∥∥₁_elim}
use Rattle.std.proofs.lemmas.List.{append-nil, take_more, get_or-map, length-map}
use Rattle.std.proofs.lemmas.List.Sums.{fold-append}
use Rattle.std.proofs.lemmas.Option.{same_Some}
use Rattle.lf_base.specs.declared.pos.Pos.{Pos}
use Rattle.lf_disk.specs.declared.name.FileName.{FileName}
use Rattle.lf_disk.specs.declared.name.FileName.TheVariants.{Database, Snapshot, Ltx as LtxName}
use Rattle.lf_disk.specs.Folder.{Folder, bytes_of}
use Rattle.lf_disk.specs.History.{History, now}
use Rattle.lf_sqlite_pages.specs.Image.{DatabaseImage}
use Rattle.ltx_codec.specs.Fields.{AreBytes}
use Rattle.ltx_codec.specs.Format.{IsLtx}
use Rattle.ltx_codec.specs.Places.{IsBroken, last_place}
use Rattle.ltx_codec.specs.Positions.{before, after}
use Rattle.ltx_codec.specs.Sums.{image_sum}
use Rattle.ltx_codec.specs.declared.fault.LtxFault.{LtxFault}
use Rattle.ltx_codec.specs.declared.fault.LtxFault.TheVariants.{Tail}
use Rattle.ltx_codec.specs.declared.file.Ltx.{Ltx}
use Rattle.ltx_codec.proofs.SoundLemmas.{encoding_sound}
use Rattle.world_laws.specs.Store.{StoreState, end_of}
use Rattle.txn_log.specs.declared.entry.Entry.{Entry}
use Rattle.txn_log.specs.Kept.{LogFile, file_of, encoded_change, last_of, Decides}
use Rattle.txn_log.specs.Durable.{Durable, IsEncoding, IsLog, IsSummed, Follow, log_of, StandsByLog}
use Rattle.txn_log.specs.Store.{files_in}
use Rattle.txn_log.proofs.Stores.{file_at, no_entry}
use Rattle.node_recovery.specs.declared.fault.RecoverFault.{RecoverFault}
use Rattle.node_recovery.specs.declared.fault.RecoverFault.TheVariants as fault
use Rattle.node_recovery.specs.Agreeing.{IsSummedOtherwise}
use Rattle.node_recovery.specs.Damage.{IsUnread, last_file, position_behind, IsFirstRefused}
use Rattle.node_recovery.specs.Finding.{IsSnapshotRefused, IsLogSummedOtherwise, IsLogLost, IsDamaged}
use Rattle.node_recovery.specs.Listing.{AreListed}
use Rattle.node_recovery.specs.Opening.{Opens}
use Rattle.node_recovery.specs.Outcome.{IsBlameless}
use Rattle.node_recovery.proofs.Ascending.{ascends_listed}
use Rattle.node_recovery.proofs.Finishings.{by_log, by_snapshot, one}
use Rattle.node_recovery.proofs.Judgings.{ends_at}
use Rattle.node_recovery.proofs.Lasts.{LastIs, last_named}
use Rattle.node_recovery.proofs.Openings.{decided_image}

-- the encoding of a file is read
pub not_unread : (encoding : List ℕ) (want got : ℕ) → IsEncoding encoding → IsUnread encoding want got → ⊥
not_unread encoding want got is unread = ∥∥₁_elim is (λ x y. absurd x) (λ (it : IsLtx encoding (file_of encoding)).
    let place = unread.earliest.place in
    let whole : encoding ++ [] ≡ encoding = append-nil encoding in
    let octets : AreBytes (encoding ++ []) = subst (λ (t : List ℕ). AreBytes t) (sym whole) unread.octets in
    let broken : IsBroken (encoding ++ []) unread.fault place = subst (λ (t : List ℕ). IsBroken t unread.fault place) (sym whole) unread.earliest.broken in
    let behind = encoding_sound encoding [] (file_of encoding) unread.fault place octets it broken in
    let there : place ≤ last_place encoding Tail = subst (λ (x : LtxFault). place ≤ last_place encoding x) behind.0 unread.earliest.broken.there in
    absurd (omega (arith, there, behind.1)))

-- the sum that the last file of a log says is that of the image
sum_said : (files : List LogFile) (last : Ltx) (store : StoreState) → last_file files ≡ Some last → store.log ≡ log_of files → IsSummed store → last.post ≡ image_sum store.image
sum_said files last store is log summed =
    sym (ap (λ (l : List Ltx). (end_of l).sum) log ∙ ap (λ (p : Pos). p.sum) (ends_at files last is))
    ∙ summed (λ none. some files is (sym log ∙ none))
  where
    some : (fs : List LogFile) → last_file fs ≡ Some last → log_of fs ≡ [] → ⊥
    some [] same none = absurd (cc)
    some (g ∷ gs) same none = absurd (cc)

-- and the pages that it leaves have it
not_otherwise : (encoding bytes : List ℕ) (image : DatabaseImage) (want got : ℕ) → IsEncoding encoding → Decides (encoded_change encoding) image bytes → (file_of encoding).post ≡ image_sum image → IsSummedOtherwise (file_of encoding) bytes want got → ⊥
not_otherwise encoding bytes image want got is decides said other = ∥∥₁_elim is (λ x y. absurd x) (λ (it : IsLtx encoding (file_of encoding)).
    let left = decided_image (encoded_change encoding) image bytes it.valid.block.pages decides in
    other.differ (other.want_is ∙ said ∙ sym (ap image_sum left) ∙ sym other.got_is))

-- a snapshot
not_snapshot : (f : Folder) (store : StoreState) (want got : ℕ) → IsSome (f Snapshot) → Durable f store → IsSnapshotRefused (bytes_of (f Snapshot)) (bytes_of (f Database)) want got → ⊥
not_snapshot f store want got there durable refused =
    let by = by_snapshot f store there durable in
    let same : by.encoding ≡ bytes_of (f Snapshot) = ap bytes_of (sym by.by.stands) in
    let is : IsEncoding (bytes_of (f Snapshot)) = subst (λ (t : List ℕ). IsEncoding t) same by.is in
    elim refused [
      | inl unread ↦ not_unread (bytes_of (f Snapshot)) want got is unread
      | inr other ↦ elim other.1 [
        | inl later ↦ later.2 (later.0 ∙ sym (ap (λ (t : List ℕ). (file_of t).header.min) (sym same) ∙ by.first) ∙ sym later.1)
        | inr sum ↦
            let alone : LogFile = record { min = 0; max = 0; encoding = by.encoding } in
            let said : (file_of by.encoding).post ≡ image_sum store.image = sum_said (alone ∷ []) (file_of by.encoding) store refl by.log by.sum in
            not_otherwise by.encoding (bytes_of (f Database)) store.image want got by.is by.by.decides said
            (subst (λ (t : List ℕ). IsSummedOtherwise (file_of t) (bytes_of (f Database)) want got) (sym same) sum.1)
      ]
    ]

-- a file of a log follows the one before it
follows_behind : (files : List LogFile) → Follow (log_of files) → (index : ℕ) (d : LogFile) (p : Pos) → index < length files → position_behind (take index files) ≡ Some p → before (file_of (get_or files index d).encoding) ≡ p
follows_behind files follow zero d p within some = let no : None ≡ Some p = some in absurd (cc)
follows_behind files follow (suc k) d p within some =
    let file : LogFile → Ltx = λ g. file_of g.encoding in
    let more : k + 1 ≡ suc k = omega arith in
    let inside : k < length files = omega (arith, within) in
    let next : k + 1 < length files = omega (arith, within) in
    let last : take (k + 1) files ≡ take k files ++ get_or files k d ∷ [] = take_more files k d inside in
    let is : last_file (take (k + 1) files) ≡ Some (file (get_or files k d)) =
    ap (λ (fs : List LogFile). last_file fs) last ∙ fold-append (λ (_ : Option Ltx) (g : LogFile). Some (file_of g.encoding)) None (take k files) (get_or files k d ∷ []) in
    let ends : position_behind (take (k + 1) files) ≡ Some (after (file (get_or files k d))) = ap (λ (o : Option Ltx). option_map after o) is in
    let stands : position_behind (take (k + 1) files) ≡ Some p = ap (λ (n : ℕ). position_behind (take n files)) more ∙ some in
    let position : after (file (get_or files k d)) ≡ p = same_Some (after (file (get_or files k d))) p (sym ends ∙ stands) in
    let here : get_or (log_of files) (k + 1) (file d) ≡ file (get_or files (k + 1) d) = get_or-map file files (k + 1) d (file d) next in
    let earlier : get_or (log_of files) k (file d) ≡ file (get_or files k d) = get_or-map file files k d (file d) inside in
    let joins : before (file (get_or files (k + 1) d)) ≡ p = sym (ap before here) ∙ follow k (file d) (omega (arith, within, length-map files file)) ∙ ap after earlier ∙ position in
    subst (λ (n : ℕ). before (file (get_or files n d)) ≡ p) more joins

-- what holds of each file holds of the last
last_has : (P : LogFile → Type 0) (known : Option LogFile) (files : List LogFile) → ((g : LogFile) → known ≡ Some g → P g) → ((k : ℕ) (d : LogFile) → k < length files → P (get_or files k d))
    → (g : LogFile) → fold (λ (_ : Option LogFile) (h : LogFile). Some h) known files ≡ Some g → P g
last_has P known [] first all g is = first g is
last_has P known (x ∷ xs) first all g is =
    last_has P (Some x) xs (λ y same. subst P (same_Some x y same) (all 0 x (omega arith))) (λ k d within. all (suc k) d (omega (arith, within))) g is

-- no file of a sound log is refused
module _ (names : List Entry) (f : Folder) (sound : IsLog (files_in names f)) (file : FileName) (want got : ℕ) where
  pub not_first : IsFirstRefused names f file want got → ⊥
  not_first refused =
      let files = files_in names f in
      let index = refused.index in
      let name : Entry = get_or names index no_entry in
      let d : LogFile = file_at f no_entry in
      let encoding = bytes_of (f (LtxName name.min name.max)) in
      let long : index < length files = omega (arith, refused.within, length-map names (file_at f)) in
      let is : get_or files index d ≡ file_at f name = get_or-map (file_at f) names index no_entry d refused.within in
      let is_encoding : IsEncoding encoding = subst (λ (g : LogFile). IsEncoding g.encoding) is (sound.encodings index d long) in
      let low : (file_of encoding).header.min ≡ name.min = subst (λ (g : LogFile). (file_of g.encoding).header.min ≡ g.min) is (sound.min index d long) in
      let high : (file_of encoding).header.max ≡ name.max = subst (λ (g : LogFile). (file_of g.encoding).header.max ≡ g.max) is (sound.max index d long) in
      elim (refused.why no_entry) [
        | inl unread ↦ not_unread encoding want got is_encoding unread
        | inr other ↦ elim other.1 [
          | inl misnamed ↦ elim misnamed [
            | inl min ↦ min.2 (min.0 ∙ sym low ∙ sym min.1)
            | inr max ↦ max.3 (max.1 ∙ sym high ∙ sym max.2)
          ]
          | inr apart ↦
              let follows : before (file_of encoding) ≡ apart.2 = subst (λ (g : LogFile). before (file_of g.encoding) ≡ apart.2) is (follows_behind files sound.follow index d apart.2 long apart.3) in
              elim apart.4 [
                | inl numbers ↦ numbers.0 (ap (λ (p : Pos). p.txid) follows)
                | inr sums ↦ sums.3 (sums.1 ∙ sym (ap (λ (p : Pos). p.sum) follows) ∙ sym sums.2)
              ]
        ]
      ]

-- and the last one's sum is that of the image
module _ (names : List Entry) (f : Folder) (listed : AreListed names f) (store : StoreState) (by : StandsByLog f store) (file : FileName) (want got : ℕ) where
  same : files_in names f ≡ by.files
  same = one names f listed (ascends_listed names f by.files listed by.sound by.kept.log) store by

  sound : IsLog (files_in names f)
  sound = subst (λ (fs : List LogFile). IsLog fs) (sym same) by.sound

  not_last : IsLogSummedOtherwise names f file want got → ⊥
  not_last other =
      let files = files_in names f in
      let its : LastIs files other.last = last_named files other.last other.last_is in
      let named = its.named in
      let is : IsEncoding named.encoding = last_has (λ (g : LogFile). IsEncoding g.encoding) None files (λ g none. absurd (cc)) sound.encodings named its.last_is in
      let decides : Decides (encoded_change named.encoding) store.image (bytes_of (f Database)) = by.kept.decided.some named (ap last_of (sym same) ∙ its.last_is) in
      let said : other.last.post ≡ image_sum store.image = sum_said files other.last store (sym other.last_is) (by.log ∙ ap log_of (sym same)) by.sum in
      not_otherwise named.encoding (bytes_of (f Database)) store.image want got is decides (ap (λ (g : Ltx). g.post) its.tells ∙ said)
      (subst (λ (g : Ltx). IsSummedOtherwise g (bytes_of (f Database)) want got) (sym its.tells) other.sum)

  -- without a file it has no bytes
  not_lost : IsLogLost names f file want got → ⊥
  not_lost lost =
      let none : last_of by.files ≡ None = ap last_of (sym same ∙ ap (λ (ns : List Entry). files_in ns f) lost.no_names) in
      omega (arith, lost.some, lost.got_is ∙ ap length (by.kept.bare none refl))

undamaged : (f : Folder) (store : StoreState) (file : FileName) (want got : ℕ) → Durable f store → IsDamaged f file want got → ⊥
undamaged f store file want got durable (inl snapshot) = not_snapshot f store want got snapshot.0 durable snapshot.2
undamaged f store file want got durable (inr log) =
    let by = by_log f store log.0 log.1 durable in
    elim log.4 [
      | inl first ↦ not_first log.2 f (sound log.2 f log.3 store by file want got) file want got first
      | inr more ↦ elim more [
        | inl last ↦ not_last log.2 f log.3 store by file want got last
        | inr lost ↦ not_lost log.2 f log.3 store by file want got lost
      ]
    ]

pub blameless : (old new : History) (store : StoreState) (why : RecoverFault) → Durable (now old) store → Opens old new (Err why) → IsBlameless why
blameless old new store (fault.Damaged file want got) durable damaged = undamaged (now old) store file want got durable damaged
blameless old new store fault.Disk durable opens = tt
blameless old new store fault.NoMemory durable opens = tt
