-- A snapshot that was read is judged by what was taken in of it, and placed.
use Rattle.std.proofs.Common.{◌≡◌, inl, ℕ, ◌≤◌, Bool, false, Option, Some, Ok, List, [], IsTrue, sym, ◌∙◌, ap, subst, arith}
use Rattle.lf_disk.specs.declared.name.FileName.TheVariants.{Database, Staged}
use Rattle.lf_disk.specs.Folder.{Folder, bytes_of, SameBut}
use Rattle.lf_disk.specs.History.{History, now, EachMoment}
use Rattle.lf_disk.proofs.Moments.{joined, weakened}
use Rattle.lf_sqlite_pages.specs.Apply.{apply}
use Rattle.lf_sqlite_pages.specs.Change.{PageChange}
use Rattle.lf_sqlite_pages.specs.Complete.{completed}
use Rattle.lf_sqlite_pages.specs.Image.{DatabaseImage, empty_image}
use Rattle.lf_sqlite_pages.proofs.Completing.{completed-no_growth}
use Rattle.ltx_codec.specs.Fields.{AreBytes}
use Rattle.ltx_codec.specs.Format.{IsFile, IsLtx, file_encoding, no_meaning}
use Rattle.ltx_codec.specs.declared.file.Ltx.{Ltx}
use Rattle.ltx_codec.specs.declared.header.Header.{Header}
use Rattle.txn_log.specs.Apply.{whole_file}
use Rattle.txn_log.specs.BringingAnew.{IsOverAnewFrom, JudgesSnapshot, IsOverLog, log_file_of, PlacesSnapshot, ReadsAs, TellsAnew}
use Rattle.txn_log.specs.Draft.{sums_after}
use Rattle.txn_log.specs.FromSnapshot.{GaveSnapshot}
use Rattle.txn_log.specs.Installing.{IsKeptOrInstalled, PlacesAnew}
use Rattle.txn_log.specs.Intake.{HoldsUpTo}
use Rattle.txn_log.specs.Kept.{LogFile, file_of, Kept}
use Rattle.txn_log.specs.Modes.{wal_after}
use Rattle.txn_log.specs.Taking.{TakenIn, StagedIn}
use Rattle.txn_log.specs.TakingSource.{GaveTaken}
use Rattle.txn_log.specs.declared.entry.Entry.{Entry}
use Rattle.txn_log.specs.declared.outline.Outline.{Outline}
use Rattle.txn_log.specs.declared.publishing.Placed.{Placed}
use Rattle.txn_log.specs.declared.publishing.Placed.TheVariants as placed
use Rattle.txn_log.specs.declared.taking_source.Intake.{Intake}
use Rattle.txn_log.proofs.Bringings.{some_header}
use Rattle.txn_log.proofs.Installings.{decides-whole}
use Rattle.txn_log.proofs.Octets.{reads_back}
use Rattle.txn_log.proofs.Placings.{kept_same}

-- a file that makes no database larger lacks nothing
pub whole_is : (count : ℕ) (file : Ltx) → IsFile file → file.header.commit ≤ count → whole_file count file ≡ file
whole_is count file valid within = ap (λ (x : PageChange). record { header = file.header; change = x; post = file.post }) (completed-no_growth file.change count valid.block.pages (omega (arith, valid.block.commit, within)))

-- what is published of it reads as the file
pub reads_as : (count : ℕ) (encoding : List ℕ) (file : Ltx) → AreBytes encoding → IsLtx encoding file → file.header.commit ≤ count → ReadsAs file
reads_as count encoding file octets is within =
    let same : whole_file count file ≡ file = whole_is count file is.valid within in
    subst (λ (f : Ltx). file_of (file_encoding f no_meaning) ≡ f) same (reads_back count encoding file octets is (subst (λ (f : Ltx). IsFile f) (sym same) is.valid))

-- nothing is lost while only the staged file changes
pub kept_log : (image : DatabaseImage) (files : List LogFile) (dropped : Bool) (entries : List Entry) (start mid : History) → IsOverLog image files dropped entries start → EachMoment start mid (SameBut Staged (now start))
    → EachMoment start mid (Kept image files dropped)
kept_log image files dropped entries start mid over run =
    weakened start mid (SameBut Staged (now start)) (Kept image files dropped) run (λ c same. kept_same image files dropped (now start) c over.rest.kept same)

-- what is placed behind what was staged
anew_on : (image : DatabaseImage) (files : List LogFile) (dropped : Bool) (made : DatabaseImage) (file : LogFile) (start mid end : History) (how : Placed) → EachMoment start mid (Kept image files dropped)
    → PlacesAnew image files dropped made file mid how end → PlacesAnew image files dropped made file start how end
anew_on image files dropped made file start mid end placed.Unpublished first second = joined start mid end (Kept image files dropped) first second
anew_on image files dropped made file start mid end (placed.From tried) first second = (
  joined start mid end (IsKeptOrInstalled image files dropped made file) (weakened start mid (Kept image files dropped) (IsKeptOrInstalled image files dropped made file) first (λ c kept. inl kept)) second.0,
  second.1,
)
anew_on image files dropped made file start mid end placed.Whole first second = (
  joined start mid end (IsKeptOrInstalled image files dropped made file) (weakened start mid (Kept image files dropped) (IsKeptOrInstalled image files dropped made file) first (λ c kept. inl kept)) second.0,
  second.1,
)

-- a snapshot that was taken in over no sums, with room for every page that it may have
module _ (honest : Bool) (left left_now : Option (List ℕ)) (start mid : History) (room : ℕ) (entries : List Entry) (sums table : List ℕ) (count : ℕ) (outline : Outline) (taken : Option Intake) (intake : Intake) (none : sums ≡ []) (wide : 4294967295 ≤ count)
    (gave : GaveTaken honest (now start) left left_now taken table sums count false room outline mid)
    (judged : JudgesSnapshot taken room (record { header = outline.header; change = gave.change; post = outline.post }) (Ok intake)) where
  abbrev pub file : Ltx
  file = record { header = outline.header; change = gave.change; post = outline.post }

  pub it : TakenIn (Some intake) table sums count false room gave.encoding gave.change
  it = subst (λ (o : Option Intake). TakenIn o table sums count false room gave.encoding gave.change) judged.0 gave.taken_in

  pub staged : IsTrue honest → HoldsUpTo (now start) intake.receiving gave.change count mid
  staged is = subst (λ (o : Option Intake). StagedIn o (now start) gave.change count mid) judged.0 (gave.staged is)

  pub header : intake.receiving.header ≡ outline.header
  header = some_header table sums count false room gave.encoding file gave.octets gave.is intake it

  within : outline.header.commit ≤ count
  within = omega (arith, gave.is.valid.header.widths.commit, wide)

  same_change : completed gave.change count ≡ gave.change
  same_change = completed-no_growth gave.change count gave.is.valid.block.pages (omega (arith, gave.is.valid.block.commit, within))

  pub given : GaveSnapshot left left_now room file
  given = record {
    gave = record { encoding = gave.encoding; read = gave.read; end = gave.end; is = gave.is };
    first = judged.1;
    fits = judged.2;
  }

  pub back : ReadsAs file
  back = reads_as count gave.encoding file gave.octets gave.is within

  pub tells : TellsAnew intake.wal table file
  tells = record {
    table_is = it.3.table_is ∙ ap (λ (x : PageChange). sums_after sums x) same_change ∙ ap (λ (s : List ℕ). sums_after s gave.change) none;
    wal_is = it.3.wal_is ∙ ap (λ (x : PageChange). wal_after false x) same_change;
  }

  over_from : (image : DatabaseImage) (files : List LogFile) (dropped : Bool) → IsOverLog image files dropped entries start
      → IsOverAnewFrom (now start) image files dropped (apply empty_image gave.change) intake.receiving sums count entries outline.post gave.change file
  over_from image files dropped over = record {
    kept = over.rest.kept;
    valid = it.3.valid;
    up = it.3.up;
    is = λ i. record { header = sym header i; change = sym same_change i; post = outline.post };
    whole = gave.is.valid;
    would = record {
      decides = decides-whole gave.change gave.is.valid.block.pages (gave.is.valid.block.snapshot_pages judged.1) (bytes_of (now start Database));
      tells = ap (λ (f : Ltx). f.change) back;
      others = over.others;
    };
  }

  pub placed_snapshot : (end : History) (how : Placed) → (IsTrue honest → EachMoment start mid (SameBut Staged (now start)))
      → (IsTrue honest → (before : Folder) (image made : DatabaseImage) (files : List LogFile) (dropped : Bool) (change : PageChange) (whole : Ltx)
      → IsOverAnewFrom before image files dropped made intake.receiving sums count entries outline.post change whole → HoldsUpTo before intake.receiving change count mid
      → PlacesAnew image files dropped made (record { min = intake.receiving.header.min; max = intake.receiving.header.max; encoding = file_encoding whole no_meaning }) mid how end)
      → PlacesSnapshot honest start entries file how end
  placed_snapshot end how moments places is image files dropped over =
      let made : DatabaseImage = apply empty_image gave.change in
      anew_on image files dropped made (log_file_of file) start mid end how
      (kept_log image files dropped entries start mid over (moments is))
      (subst (λ (h : Header). PlacesAnew image files dropped made (record { min = h.min; max = h.max; encoding = file_encoding file no_meaning }) mid how end) header
      (places is (now start) image made files dropped gave.change file (over_from image files dropped over) (staged is)))
