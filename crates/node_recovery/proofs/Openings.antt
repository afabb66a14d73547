-- The store that was decided is the one that the folder stood for.
use Rattle.std.proofs.Common.{◌≡◌, ℕ, ◌<◌, Bool, true, false, Some, List, [], ◌∷◌, length, map, get_or, refl, sym, ◌∙◌, ap, subst, arith}
use Rattle.std.specs.List.{range_with_len}
use Rattle.std.proofs.lemmas.Bool.{false≢true}
use Rattle.std.proofs.lemmas.List.{get_or-map, length-map}
use Rattle.lf_disk.specs.declared.name.FileName.TheVariants.{Database, Snapshot}
use Rattle.lf_disk.specs.Folder.{Folder, bytes_of}
use Rattle.lf_disk.specs.History.{History, now}
use Rattle.lf_base.specs.declared.pos.Pos.{Pos}
use Rattle.lf_sqlite_pages.specs.Header.{image_is_wal}
use Rattle.lf_sqlite_pages.specs.Image.{DatabaseImage, empty_image}
use Rattle.lf_sqlite_pages.specs.Change.{PageChange, IsChange}
use Rattle.world_laws.specs.Store.{StoreState}
use Rattle.txn_log.specs.declared.entry.Entry.{Entry}
use Rattle.txn_log.specs.Entries.{AreNamed}
use Rattle.txn_log.specs.Pages.{page_in}
use Rattle.txn_log.specs.Kept.{LogFile, file_of, encoded_change, last_of, Decides, IsAtRest}
use Rattle.txn_log.specs.Durable.{Durable, log_of}
use Rattle.txn_log.specs.Store.{files_in, entry_of, image_in, state_in, AreEntries, IsStore, IsShaped, IsSized}
use Rattle.txn_log.proofs.Installed.{alone}
use Rattle.txn_log.proofs.Puttings.{shows_after}
use Rattle.txn_log.proofs.Stores.{Tells, image_is, settles, state_now}
use Rattle.node_recovery.specs.declared.found.Decider.{Decider}
use Rattle.node_recovery.specs.declared.found.Decider.TheVariants as decider
use Rattle.node_recovery.specs.declared.outline.Outline.{Outline}
use Rattle.node_recovery.specs.declared.tally.Tally.{Tally}
use Rattle.node_recovery.specs.Agreeing.{IsTotal}
use Rattle.node_recovery.specs.Finding.{FindsBy, AreEnded, IsShapedAs}
use Rattle.node_recovery.specs.Finishing.{image_left, files_left, size_left, commit_left, is_marked}
use Rattle.node_recovery.specs.Listing.{AreListed}
use Rattle.node_recovery.specs.Outline.{encoding_under, IsOutlineIn}
use Rattle.node_recovery.specs.Summing.{restored, restored_image}
use Rattle.node_recovery.proofs.Finishings.{by_log, by_snapshot, by_mark, one, last, tells_last, encoding_is, log_file}
use Rattle.node_recovery.proofs.Judgings.{no_entries}
use Rattle.node_recovery.proofs.Restored.{count}

-- the fields fit together, over any disk
no_true : {X : Type 0} → false ≡ true → X
no_true same = absurd (false≢true same)

module _ (outline : Outline) (entries : List Entry) (sums : List ℕ) (is : AreEnded entries (Some outline) × IsTotal outline sums) where
  shaped_file : IsShaped outline.header.commit entries false sums
  shaped_file = record {
    count = is.1.0;
    limit = omega (arith, is.0.2.widths.commit);
    none = λ none. absurd (is.0.0 none);
    marked = λ same. no_true same;
    sum = λ some. ap (λ (p : Pos). p.sum) is.0.1 ∙ sym is.1.1;
    some = λ some. omega (arith, ap (λ (p : Pos). p.txid) is.0.1, is.0.2.min, is.0.2.max);
  }

  sized_file : IsSized outline.header.page_size outline.header.commit
  sized_file = record { sized = λ some. is.0.2.page_size; pages = λ some. is.0.2.page_size }

module _ (entries : List Entry) (sums : List ℕ) (none : entries ≡ []) (no_sums : sums ≡ []) where
  shaped_none : (dropped : Bool) → IsShaped 0 entries dropped sums
  shaped_none dropped = record {
    count = ap length no_sums;
    limit = omega arith;
    none = λ _. refl;
    marked = λ _. none;
    sum = λ some. absurd (some none);
    some = λ some. absurd (some none);
  }

sized_none : IsSized 0 0
sized_none = record { sized = λ some. absurd (omega (arith, some)); pages = λ some. absurd (omega (arith, some)) }

pub shaped_left : (d : Decider) (entries : List Entry) (sums : List ℕ) → IsShapedAs d entries sums → IsShaped (commit_left d) entries (is_marked d) sums
shaped_left (decider.Snapshot outline) entries sums is = shaped_file outline entries sums is
shaped_left (decider.Last outline) entries sums is = shaped_file outline entries sums is
shaped_left decider.Mark entries sums is = shaped_none entries sums is.0 is.1 true
shaped_left decider.Nothing entries sums is = shaped_none entries sums is.0 is.1 false

pub sized_left : (d : Decider) (entries : List Entry) (sums : List ℕ) → IsShapedAs d entries sums → IsSized (size_left d) (commit_left d)
sized_left (decider.Snapshot outline) entries sums is = sized_file outline entries sums is
sized_left (decider.Last outline) entries sums is = sized_file outline entries sums is
sized_left decider.Mark entries sums is = sized_none
sized_left decider.Nothing entries sums is = sized_none

-- entries that are those of files have their numbers
module _ (entries : List Entry) (files : List LogFile) (are : AreEntries entries files) where
  abbrev made : LogFile → Entry
  made g = entry_of (file_of g.encoding)

  pub long_entries : length entries ≡ length files
  long_entries = sym (ap length are.same) ∙ length-map files made

  at : (k : ℕ) (e : Entry) (g : LogFile) → k < length files → get_or entries k e ≡ made (get_or files k g)
  at k e g within = ap (λ (es : List Entry). get_or es k e) (sym are.same) ∙ get_or-map made files k g e within

  pub are_named : AreNamed entries files
  are_named = record {
    min = λ k e g within.
        let inside : k < length files = omega (arith, within, long_entries) in
        sym (ap (λ (x : Entry). x.min) (at k e g inside) ∙ are.log.min k g inside);
    max = λ k e g within.
        let inside : k < length files = omega (arith, within, long_entries) in
        sym (ap (λ (x : Entry). x.max) (at k e g inside) ∙ are.log.max k g inside);
  }

-- the image that a change decides is the one that is restored
pub decided_image : (change : PageChange) (image : DatabaseImage) (bytes : List ℕ) → IsChange change → Decides change image bytes → restored_image change bytes ≡ image
decided_image change image bytes valid is =
    let file : Folder = λ _. Some (restored change bytes) in
    let made : ℕ → ℕ → DatabaseImage = λ s c. record { page_size = s; pages = map (page_in s (restored change bytes)) (range_with_len 1 c) } in
    let same : made image.page_size (length image.pages) ≡ image = image_is image file (shows_after change image bytes valid is) in
    (λ i. made (sym is.page_size i) (sym is.commit i)) ∙ same

abbrev pub state_left : Decider → List Entry → Folder → StoreState
state_left d names f = record { image = image_left d f; log = log_of (files_left d names f); dropped = is_marked d }

-- a file's change has the size and the pages that its outline says
module _ (encoding : List ℕ) (outline : Outline) (read : IsOutlineIn encoding outline) where
  size_said : outline.header.page_size ≡ (encoded_change encoding).page_size
  size_said = ap (λ (o : Outline). o.header.page_size) read.tells ∙ sym read.is.valid.block.page_size

  commit_said : outline.header.commit ≡ (encoded_change encoding).commit
  commit_said = ap (λ (o : Outline). o.header.commit) read.tells ∙ sym read.is.valid.block.commit

module _ (names : List Entry) (f : Folder) (entries : List Entry) (tally : Tally) (listed : AreListed names f) where
  tells_none : entries ≡ [] → tally.sums.sums ≡ [] → Tells empty_image [] 0 0 entries tally.sums.sums
  tells_none none no_sums =
      let are : AreEntries entries [] = no_entries entries none in
      record { size_is = refl; commit_is = refl; log = are; named = are_named entries [] are; count = long_entries entries [] are; table = no_sums }

  -- the fields tell what is left
  tells_by : (d : Decider) → FindsBy f d names entries tally → Tells (image_left d f) (files_left d names f) (size_left d) (commit_left d) entries tally.sums.sums
  tells_by (decider.Snapshot outline) finds =
      let encoding = bytes_of (f Snapshot) in
      let g : LogFile = log_file names f outline entries tally listed finds in
      let are : AreEntries entries (g ∷ []) = record {
        log = alone g ∣ finds.read.is ∣₁ (sym (ap (λ (o : Outline). o.header.min) finds.read.tells)) (sym (ap (λ (o : Outline). o.header.max) finds.read.tells));
        same = ap (λ (o : Outline). Rattle.node_recovery.specs.Outline.entry_of o ∷ []) (sym finds.read.tells) ∙ sym finds.entries_are;
      } in
      record {
        size_is = size_said encoding outline finds.read;
        commit_is = commit_said encoding outline finds.read ∙ sym (count (encoded_change encoding) (bytes_of (f Database)) finds.read.is.valid.block.pages);
        log = are;
        named = are_named entries (g ∷ []) are;
        count = long_entries entries (g ∷ []) are;
        table = finds.summed.table;
      }
  tells_by (decider.Last outline) finds =
      let encoding = encoding_under outline f in
      record {
        size_is = size_said encoding outline finds.read;
        commit_is = commit_said encoding outline finds.read ∙ sym (count (encoded_change encoding) (bytes_of (f Database)) finds.read.is.valid.block.pages);
        log = finds.entries_are;
        named = are_named entries (files_in names f) finds.entries_are;
        count = long_entries entries (files_in names f) finds.entries_are;
        table = finds.summed.table;
      }
  tells_by decider.Mark finds = tells_none finds.no_entries finds.no_pages.sums
  tells_by decider.Nothing finds = tells_none finds.no_entries finds.no_pages.sums

  -- and the mode is that of the image
  pub mode_by : (d : Decider) → FindsBy f d names entries tally → tally.wal ≡ image_is_wal (image_left d f)
  mode_by (decider.Snapshot outline) finds = finds.summed.mode
  mode_by (decider.Last outline) finds = finds.summed.mode
  mode_by decider.Mark finds = finds.no_pages.wal
  mode_by decider.Nothing finds = finds.no_pages.wal

  -- and that is the store of the folder
  store_by : (d : Decider) → FindsBy f d names entries tally → (store : StoreState) → Durable f store → state_left d names f ≡ store
  store_by (decider.Snapshot outline) finds store durable =
      let by = by_snapshot f store finds.there durable in
      let change = encoded_change (bytes_of (f Snapshot)) in
      let same = encoding_is names f outline entries tally listed finds store by in
      let image : restored_image change (bytes_of (f Database)) ≡ store.image =
      decided_image change store.image (bytes_of (f Database)) finds.read.is.valid.block.pages (subst (λ (t : List ℕ). Decides (encoded_change t) store.image (bytes_of (f Database))) same by.by.decides) in
      let log : file_of (bytes_of (f Snapshot)) ∷ [] ≡ store.log = ap (λ (t : List ℕ). file_of t ∷ []) (sym same) ∙ sym by.log in
      λ i. record { image = image i; log = log i; dropped = sym by.unmarked i }
  store_by (decider.Last outline) finds store durable =
      let by = by_log f store finds.no_snapshot finds.no_mark durable in
      let change = encoded_change (encoding_under outline f) in
      let same : files_in names f ≡ by.files = one names f listed finds.entries_are.log.ascends store by in
      let its = last names f outline entries tally listed finds in
      let named : last_of by.files ≡ Some its.named = ap last_of (sym same) ∙ its.last_is in
      let tells : encoded_change its.named.encoding ≡ change = tells_last names f outline entries tally listed finds in
      let image : restored_image change (bytes_of (f Database)) ≡ store.image =
      decided_image change store.image (bytes_of (f Database)) finds.read.is.valid.block.pages
      (subst (λ (x : PageChange). Decides x store.image (bytes_of (f Database))) tells (by.kept.decided.some its.named named)) in
      let log : log_of (files_in names f) ≡ store.log = ap log_of same ∙ sym by.log in
      λ i. record { image = image i; log = log i; dropped = sym by.unmarked i }
  store_by decider.Mark finds store durable = sym (by_mark f store finds.no_snapshot finds.there durable).empty
  store_by decider.Nothing finds store durable =
      let by = by_log f store finds.no_snapshot finds.no_mark durable in
      let none : files_in names f ≡ [] = ap (λ (ns : List Entry). files_in ns f) finds.no_names in
      let same : files_in names f ≡ by.files = one names f listed (subst (λ (fs : List LogFile). Rattle.txn_log.specs.Kept.Ascends 0 fs) (sym none) tt) store by in
      let no_files : by.files ≡ [] = sym same ∙ none in
      let image : empty_image ≡ store.image = sym (by.kept.decided.none (ap last_of no_files)) in
      let log : [] ≡ store.log = sym (ap log_of no_files) ∙ sym by.log in
      λ i. record { image = image i; log = log i; dropped = sym by.unmarked i }

  module _ (d : Decider) (finds : FindsBy f d names entries tally) (h : History) (rest : IsAtRest (image_left d f) (files_left d names f) (is_marked d) h) where
    pub kept_left : IsStore h (size_left d) (commit_left d) entries (is_marked d) tally.sums.sums false 0 0
    kept_left = settles (image_left d f) (files_left d names f) (is_marked d) (size_left d) (commit_left d) entries tally.sums.sums h rest (tells_by d finds) 0 0

    now_is : state_in (size_left d) (commit_left d) entries (is_marked d) (now h) ≡ state_left d names f
    now_is = state_now (image_left d f) (files_left d names f) (is_marked d) (size_left d) (commit_left d) entries tally.sums.sums h rest (tells_by d finds)

    pub mode_left_is : tally.wal ≡ image_is_wal (image_in (size_left d) (commit_left d) (now h))
    mode_left_is = mode_by d finds ∙ sym (ap (λ (s : StoreState). image_is_wal s.image) now_is)

    pub state_is : (store : StoreState) → Durable f store → state_in (size_left d) (commit_left d) entries (is_marked d) (now h) ≡ store
    state_is store durable = now_is ∙ store_by d finds store durable
