-- What decides gives the folder its last form, and at each moment the folder stands for the same store.
use Rattle.std.proofs.Common.{◌≡◌, inl, inr, ℕ, ◌*◌, ◌≤◌, true, false, Option, Some, None, IsSome, List, [], length, unwrap_or, refl, sym, ◌∙◌, ap, subst, arith}
use Rattle.std.specs.Prelude.{is_some, Result, Ok, Err, OnOk}
use Rattle.std.proofs.Math.Nat.{mul-le-mul_right}
use Rattle.std.proofs.lemmas.Option.{same_Some}
use Rattle.std.proofs.lemmas.Bool.{cases_eq, false≢true}
use Rattle.lf_base.proofs.FileLemmas.{length-resized}
use Rattle.lf_disk.specs.declared.name.FileName.TheVariants.{Database, Staged, Snapshot, Dropped, Ltx}
use Rattle.lf_disk.specs.Folder.{Folder, bytes_of}
use Rattle.lf_disk.specs.History.{History, now, IsSettledBut}
use Rattle.lf_sqlite_pages.specs.Image.{DatabaseImage, empty_image, page_at}
use Rattle.lf_sqlite_pages.specs.Change.{PageChange, IsChange, HoldsEveryPage, written}
use Rattle.lf_sqlite_pages.specs.LockPage.{lock_page_of}
use Rattle.lf_sqlite_pages.proofs.Applying.{written-lock_page}
use Rattle.ltx_codec.specs.declared.file.Ltx.{Ltx as LtxFile}
use Rattle.world_laws.specs.Store.{StoreState}
use Rattle.txn_log.specs.declared.entry.Entry.{Entry}
use Rattle.txn_log.specs.Pages.{page_in, in_place, patched}
use Rattle.txn_log.specs.Rewriting.{IsWorn, IsRewritten}
use Rattle.txn_log.specs.Kept.{LogFile, file_of, encoded_change, last_of, encoding_of, Decides, IsDecided, Kept, Shows, IsAtRest, IsBySnapshot, IsByMark, Ascends}
use Rattle.txn_log.specs.Durable.{Durable, StandsByLog, StandsBySnapshot, StandsByMark}
use Rattle.txn_log.specs.Settling.{IsUnsettled, IsInstalled}
use Rattle.txn_log.specs.Store.{files_in}
use Rattle.txn_log.proofs.Emptyings.{shows_nothing}
use Rattle.txn_log.proofs.Installed.{durable_installed}
use Rattle.txn_log.proofs.Puttings.{cases_option, still_decides, page_in-lock, page_in-data}
use Rattle.node_recovery.specs.declared.outline.Outline.{Outline}
use Rattle.node_recovery.specs.declared.tally.Tally.{Tally}
use Rattle.node_recovery.specs.Finding.{FindsSnapshot, FindsMark, FindsLog, FindsNothing}
use Rattle.node_recovery.specs.declared.found.Decider.{Decider}
use Rattle.node_recovery.specs.Finishing.{is_marked}
use Rattle.node_recovery.specs.Listing.{AreListed}
use Rattle.node_recovery.specs.Outline.{encoding_under}
use Rattle.node_recovery.specs.Rewriting.{HoldsFile}
use Rattle.node_recovery.specs.Summing.{restored, restored_image, padded}
use Rattle.node_recovery.proofs.Lasts.{LastIs, last_named}
use Rattle.node_recovery.proofs.Listed.{log_listed, no_others_listed}
use Rattle.node_recovery.proofs.Restored.{page_of, page_there, count}
use Rattle.node_recovery.proofs.Unique.{one_log}

-- a file cannot both stand and be absent
pub clash : {X : Type 0} (o : Option (List ℕ)) → o ≡ None → IsSome o → X
clash o none some = let no : IsSome {T = List ℕ} None = subst (λ (x : Option (List ℕ)). IsSome x) none some in absurd (false≢true no)

some_of : (o : Option (List ℕ)) (x : List ℕ) → o ≡ Some x → IsSome o
some_of o x is = subst (λ (y : Option (List ℕ)). IsSome y) (sym is) refl

bytes_are : (o : Option (List ℕ)) → IsSome o → o ≡ Some (bytes_of o)
bytes_are None some = absurd (false≢true some)
bytes_are (Some x) some = refl

-- where neither a snapshot nor a mark stands, the log decides
pub by_log : (f : Folder) (store : StoreState) → f Snapshot ≡ None → f Dropped ≡ None → Durable f store → StandsByLog f store
by_log f store no_snapshot no_mark (inl by) = by
by_log f store no_snapshot no_mark (inr (inl by)) = clash (f Snapshot) no_snapshot (some_of (f Snapshot) by.encoding by.by.stands)
by_log f store no_snapshot no_mark (inr (inr by)) = clash (f Dropped) no_mark by.by.stands

pub by_snapshot : (f : Folder) (store : StoreState) → IsSome (f Snapshot) → Durable f store → StandsBySnapshot f store
by_snapshot f store there (inl by) = clash (f Snapshot) by.kept.no_snapshot there
by_snapshot f store there (inr (inl by)) = by
by_snapshot f store there (inr (inr by)) = clash (f Snapshot) by.by.no_snapshot there

pub by_mark : (f : Folder) (store : StoreState) → f Snapshot ≡ None → IsSome (f Dropped) → Durable f store → StandsByMark f store
by_mark f store no_snapshot there (inl by) = absurd (false≢true (sym by.kept.mark ∙ marked (f Dropped) there))
  where
    marked : (o : Option (List ℕ)) → IsSome o → is_some o ≡ true
    marked None some = some
    marked (Some x) some = refl
by_mark f store no_snapshot there (inr (inl by)) = clash (f Snapshot) no_snapshot (some_of (f Snapshot) by.encoding by.by.stands)
by_mark f store no_snapshot there (inr (inr by)) = by

-- the log of the store is that of the names
module _ (names : List Entry) (f : Folder) (listed : AreListed names f) (ascends : Ascends 0 (files_in names f)) (store : StoreState) (by : StandsByLog f store) where
  pub one : files_in names f ≡ by.files
  one = one_log 0 0 (files_in names f) by.files ascends by.sound.ascends (λ a b. sym (log_listed names f listed a b) ∙ by.kept.log a b)

  -- a folder in which the same log decides the same image stands for the store
  pub same_store : (c : Folder) → Kept store.image by.files false c → Durable c store
  same_store c kept = inl (record { files = by.files; kept = kept; log = by.log; sound = by.sound; sum = by.sum; unmarked = by.unmarked })

-- the change of the last file is written again
module _ (image : DatabaseImage) (files : List LogFile) (named : LogFile) (change : PageChange) (last : last_of files ≡ Some named) (tells : encoded_change named.encoding ≡ change) where
  decided_by : (made : DatabaseImage) (bytes : List ℕ) → Decides change made bytes → IsDecided (last_of files) made bytes
  decided_by made bytes is = record {
    none = λ none. let no : None ≡ Some named = sym none ∙ last in absurd (cc);
    some = λ other some.
        let same : named ≡ other = same_Some named other (sym last ∙ some) in
        subst (λ (x : PageChange). Decides x made bytes) (sym tells ∙ ap (λ (g : LogFile). encoded_change g.encoding) same) is;
  }

  pub still : (f c : Folder) → Kept image files false f → IsWorn change f c → Kept image files false c
  still f c kept worn = record {
    log = λ a b. worn.others (Ltx a b) refl refl ∙ kept.log a b;
    no_snapshot = worn.others Snapshot refl refl ∙ kept.no_snapshot;
    mark = ap is_some (worn.others Dropped refl refl) ∙ kept.mark;
    decided =
        decided_by image (bytes_of (c Database))
        (still_decides change image (bytes_of (f Database)) (bytes_of (c Database)) (subst (λ (x : PageChange). Decides x image (bytes_of (f Database))) tells (kept.decided.some named last)) worn.database.bytes);
    bare = λ none. let no : None ≡ Some named = sym none ∙ last in absurd (cc);
  }

-- an image that was written is what the file shows and what the change decides
module _ (change : PageChange) (before bytes : List ℕ) (valid : IsChange change) (is : bytes ≡ restored change before) where
  long : length bytes ≡ change.commit * change.page_size
  long = ap length is ∙ length-resized (change.commit * change.page_size) (patched change.page_size before change.pages)

  page_is : (n : ℕ) → 1 ≤ n → n ≤ change.commit → page_at (restored_image change before) n ≡ Some (page_in change.page_size bytes n)
  page_is n first last = page_of change before valid n first last ∙ ap (λ (b : List ℕ). Some (page_in change.page_size b n)) (sym is)

  pub shows_restored : Shows (restored_image change before) bytes
  shows_restored = record {
    long = long ∙ sym (ap (λ (c : ℕ). c * change.page_size) (count change before valid));
    pages = λ n first last. page_is n first (omega (arith, last, count change before valid));
  }

  pub decides_restored : Decides change (restored_image change before) bytes
  decides_restored = record {
    page_size = refl;
    commit = count change before valid;
    pages = λ n first last. page_is n first last ∙ ap (λ (p : List ℕ). Some p) (either n first last);
    left = λ n first last data_page none. let room : n * change.page_size ≤ change.commit * change.page_size = mul-le-mul_right change.page_size last in omega (arith, room, long);
  }
    where
      either : (n : ℕ) → 1 ≤ n → n ≤ change.commit → page_in change.page_size bytes n ≡ unwrap_or (written change.pages n) (page_in change.page_size bytes n)
      either n first last = elim (cases_option (written change.pages n)) [
        | inl none ↦ sym (ap (λ (o : Option (List ℕ)). unwrap_or o (page_in change.page_size bytes n)) none)
        | inr some ↦ elim (cases_eq n (lock_page_of change.page_size)) [
          | inl lock ↦ let no : None ≡ Some some.0 = sym (ap (written change.pages) lock ∙ written-lock_page change valid) ∙ some.1 in absurd (cc)
          | inr data_page ↦
              page_in-data change.page_size bytes n data_page ∙ ap (λ (b : List ℕ). in_place change.page_size n b) is
              ∙ page_there change before valid n first last
              ∙ ap (λ (o : Option (List ℕ)). unwrap_or o (padded change.page_size n before)) some.1
              ∙ sym (ap (λ (o : Option (List ℕ)). unwrap_or o (page_in change.page_size bytes n)) some.1)
        ]
      ]

-- a change that holds every data page decides its image over any bytes
pub decides_whole : (change : PageChange) (bytes : List ℕ) → IsChange change → HoldsEveryPage change → Decides change (restored_image change bytes) bytes
decides_whole change bytes valid whole = record {
  page_size = refl;
  commit = count change bytes valid;
  pages = λ n first last. page_of change bytes valid n first last ∙ ap (λ (p : List ℕ). Some p) (either n first last);
  left = λ n first last data_page none. clash (written change.pages n) none (whole n first last data_page);
}
  where
    either : (n : ℕ) → 1 ≤ n → n ≤ change.commit → page_in change.page_size (restored change bytes) n ≡ unwrap_or (written change.pages n) (page_in change.page_size bytes n)
    either n first last = elim (cases_eq n (lock_page_of change.page_size)) [
      | inl lock ↦
          page_in-lock change.page_size (restored change bytes) n lock ∙ sym (page_in-lock change.page_size bytes n lock)
          ∙ sym (ap (λ (o : Option (List ℕ)). unwrap_or o (page_in change.page_size bytes n)) (ap (written change.pages) lock ∙ written-lock_page change valid))
      | inr data_page ↦ elim (cases_option (written change.pages n)) [
        | inl none ↦ clash (written change.pages n) none (whole n first last data_page)
        | inr some ↦
            page_in-data change.page_size (restored change bytes) n data_page
            ∙ page_there change bytes valid n first last
            ∙ ap (λ (o : Option (List ℕ)). unwrap_or o (padded change.page_size n bytes)) some.1
            ∙ sym (ap (λ (o : Option (List ℕ)). unwrap_or o (page_in change.page_size bytes n)) some.1)
      ]
    ]

-- a snapshot decides
module _ (names : List Entry) (f : Folder) (outline : Outline) (entries : List Entry) (tally : Tally) (listed : AreListed names f) (finds : FindsSnapshot f outline entries tally) where
  abbrev pub encoding : List ℕ
  encoding = bytes_of (f Snapshot)

  abbrev file : LtxFile
  file = file_of (bytes_of (f Snapshot))

  abbrev pub log_file : LogFile
  log_file = record { min = outline.header.min; max = outline.header.max; encoding = bytes_of (f Snapshot) }

  pub snapshot_held : HoldsFile Snapshot outline.header file f
  snapshot_held = record { octets = finds.read.octets; is = finds.read.is; header_is = ap (λ (o : Outline). o.header) finds.read.tells }

  unsettled : (image : DatabaseImage) → IsBySnapshot image encoding f → IsUnsettled image encoding names file.change f
  unsettled image by = record { by = by; tells = refl; others = no_others_listed names f listed }

  pub encoding_is : (store : StoreState) (by : StandsBySnapshot f store) → by.encoding ≡ encoding
  encoding_is store by = same_Some by.encoding encoding (sym by.by.stands ∙ bytes_are (f Snapshot) finds.there)

  pub unsettled_store : (store : StoreState) → Durable f store → IsUnsettled store.image encoding names file.change f
  unsettled_store store durable =
      let by = by_snapshot f store finds.there durable in
      unsettled store.image (subst (λ (t : List ℕ). IsBySnapshot store.image t f) (encoding_is store by) by.by)

  pub installed_store : (store : StoreState) → Durable f store → (c : Folder) → IsInstalled store.image log_file c → Durable c store
  installed_store store durable c installed =
      let by = by_snapshot f store finds.there durable in
      let same = encoding_is store by in
      durable_installed f c store by log_file (sym same)
      (ap (λ (t : List ℕ). (file_of t).header.min) same ∙ sym (ap (λ (o : Outline). o.header.min) finds.read.tells))
      (ap (λ (t : List ℕ). (file_of t).header.max) same ∙ sym (ap (λ (o : Outline). o.header.max) finds.read.tells)) installed

  first : file.header.min ≡ 1
  first = sym (ap (λ (o : Outline). o.header.min) finds.read.tells) ∙ finds.first

  pub unsettled_left : IsUnsettled (restored_image file.change (bytes_of (f Database))) encoding names file.change f
  unsettled_left =
      unsettled (restored_image file.change (bytes_of (f Database)))
      record {
        stands = bytes_are (f Snapshot) finds.there;
        decides = decides_whole file.change (bytes_of (f Database)) finds.read.is.valid.block.pages (finds.read.is.valid.block.snapshot_pages first);
      }

-- the mark decides
module _ (f : Folder) (entries : List Entry) (tally : Tally) (finds : FindsMark f entries tally) where
  pub is_by_mark : IsByMark f
  is_by_mark = record { no_snapshot = finds.no_snapshot; stands = finds.there }

  pub marked_store : (store : StoreState) → Durable f store → (c : Folder) → IsByMark c → Durable c store
  marked_store store durable c by = inr (inr (record { by = by; empty = (by_mark f store finds.no_snapshot finds.there durable).empty }))

-- the last file of the log decides
module _ (names : List Entry) (f : Folder) (outline : Outline) (entries : List Entry) (tally : Tally) (listed : AreListed names f) (finds : FindsLog f outline names entries tally) where
  abbrev last_encoding : List ℕ
  last_encoding = encoding_under outline f

  abbrev its : PageChange
  its = encoded_change (encoding_under outline f)

  pub last_held : HoldsFile (Ltx outline.header.min outline.header.max) outline.header (file_of (encoding_under outline f)) f
  last_held = record { octets = finds.read.octets; is = finds.read.is; header_is = ap (λ (o : Outline). o.header) finds.read.tells }

  pub last : LastIs (files_in names f) (file_of (encoding_under outline f))
  last = last_named (files_in names f) (file_of (encoding_under outline f)) finds.last_is

  pub tells_last : encoded_change last.named.encoding ≡ encoded_change (encoding_under outline f)
  tells_last = ap (λ (g : LtxFile). g.change) last.tells

  pub worn_store : (store : StoreState) → Durable f store → (c : Folder) → IsWorn its f c → Durable c store
  worn_store store durable c worn =
      let by = by_log f store finds.no_snapshot finds.no_mark durable in
      let same : files_in names f ≡ by.files = one names f listed finds.entries_are.log.ascends store by in
      let its_last : last_of by.files ≡ Some last.named = ap last_of (sym same) ∙ last.last_is in
      same_store names f listed finds.entries_are.log.ascends store by c (still store.image by.files last.named its its_last tells_last f c by.kept worn)

  pub rest_written : (new : History) → IsRewritten its f new → IsAtRest (restored_image its (bytes_of (f Database))) (files_in names f) false new
  rest_written new done =
      let made = restored_image its (bytes_of (f Database)) in
      let valid : IsChange its = finds.read.is.valid.block.pages in
      let is : bytes_of (now new Database) ≡ restored its (bytes_of (f Database)) = ap bytes_of done.database in
      record {
        kept = record {
          log = λ a b. done.others (Ltx a b) refl ∙ log_listed names f listed a b;
          no_snapshot = done.others Snapshot refl ∙ finds.no_snapshot;
          mark = ap is_some (done.others Dropped refl ∙ finds.no_mark);
          decided =
              decided_by (restored_image its (bytes_of (f Database))) (files_in names f) last.named its last.last_is tells_last
              (restored_image its (bytes_of (f Database))) (bytes_of (now new Database))
              (decides_restored its (bytes_of (f Database)) (bytes_of (now new Database)) valid is);
          bare = λ none. let no : None ≡ Some last.named = sym none ∙ last.last_is in absurd (cc);
        };
        shows = shows_restored its (bytes_of (f Database)) (bytes_of (now new Database)) valid is;
        settled = done.settled;
      }

-- there is no file
module _ (names : List Entry) (f : Folder) (entries : List Entry) (tally : Tally) (listed : AreListed names f) (finds : FindsNothing f names entries tally) where
  no_files : files_in names f ≡ []
  no_files = ap (λ (ns : List Entry). files_in ns f) finds.no_names

  pub rest_nothing : (h : History) → now h ≡ f → IsSettledBut Staged h → IsAtRest empty_image [] false h
  rest_nothing h same settled = record {
    kept = subst (λ (c : Folder). Kept empty_image [] false c) (sym same) record {
      log = λ a b. log_listed names f listed a b ∙ ap (λ (fs : List LogFile). encoding_of fs a b) no_files;
      no_snapshot = finds.no_snapshot;
      mark = ap is_some finds.no_mark;
      decided = record { none = λ _. refl; some = λ g some. let no : None ≡ Some g = some in absurd (cc) };
      bare = λ _ _. finds.no_bytes;
    };
    shows = subst (λ (c : Folder). Shows empty_image (bytes_of (c Database))) (sym same) (shows_nothing (bytes_of (f Database)) (ap length finds.no_bytes));
    settled = settled;
  }

-- what follows from what holds after Ok holds after Ok
pub on_ok : {T E P Q : Type 0} (result : Result T E) → (P → Q) → OnOk result P → OnOk result Q
on_ok (Ok x) follows is = follows is
on_ok (Err e) follows is = is

pub any_ok : {T E P : Type 0} (result : Result T E) → P → OnOk result P
any_ok (Ok x) p = p
any_ok (Err e) p = tt

-- where the mark doesn't decide
pub not_marked : {X : Type 0} (d e : Decider) → d ≡ e → is_marked e ≡ false → is_marked d ≡ true → X
not_marked d e is isnt marked = let no : false ≡ true = sym isnt ∙ ap is_marked (sym is) ∙ marked in absurd (cc)
