-- A file that was read is judged by what was taken in of it.
use Rattle.std.proofs.Common.{◌≡◌, inl, ℕ, ◌<◌, ◌≤◌, Bool, Option, Some, None, Ok, List, IsTrue, sym, ◌∙◌, ap, subst, arith}
use Rattle.lf_disk.specs.declared.name.FileName.TheVariants.{Staged}
use Rattle.lf_disk.specs.Folder.{Folder, SameBut}
use Rattle.lf_disk.specs.History.{History, now, EachMoment}
use Rattle.lf_disk.proofs.Moments.{joined as joined_moments, weakened}
use Rattle.lf_sqlite_pages.specs.Apply.{apply}
use Rattle.lf_sqlite_pages.specs.Complete.{completed}
use Rattle.lf_sqlite_pages.specs.Image.{DatabaseImage}
use Rattle.ltx_codec.specs.Format.{file_encoding, no_meaning}
use Rattle.txn_log.specs.Apply.{whole_file}
use Rattle.txn_log.specs.Bringing.{JudgesTaken, IsBrought, IsOverGround, PlacesWhole, ReadsBack, TellsAfter}
use Rattle.txn_log.specs.Intake.{HoldsUpTo}
use Rattle.txn_log.specs.Kept.{LogFile, Kept}
use Rattle.txn_log.specs.Placing.{IsBetween, Places}
use Rattle.txn_log.specs.PlacingFrom.{IsOverFrom}
use Rattle.txn_log.specs.Taking.{StagedIn}
use Rattle.txn_log.specs.TakingSource.{GaveTaken}
use Rattle.txn_log.specs.declared.bringing.Ground.{Ground}
use Rattle.txn_log.specs.declared.outline.Outline.{Outline}
use Rattle.txn_log.specs.declared.publishing.Placed.{Placed}
use Rattle.txn_log.specs.declared.publishing.Placed.TheVariants as placed
use Rattle.txn_log.proofs.Octets.{reads_back}
use Rattle.txn_log.proofs.Placings.{kept_same}
use Rattle.page_checksum.specs.Sums.{flagged, joined}
use Rattle.lf_sqlite_pages.specs.Change.{PageChange}
use Rattle.ltx_codec.specs.Fields.{AreBytes}
use Rattle.ltx_codec.specs.Format.{IsLtx}
use Rattle.ltx_codec.specs.declared.file.Ltx.{Ltx}
use Rattle.ltx_codec.specs.declared.header.Header.{Header}
use Rattle.ltx_codec.proofs.FileLemmas.{file_is}
use Rattle.txn_log.specs.Apply.{sum_behind}
use Rattle.txn_log.specs.Taking.{TakenIn}
use Rattle.txn_log.specs.declared.taking_source.Intake.{Intake}

module _ (table sums : List ℕ) (count : ℕ) (wal : Bool) (room : ℕ) (encoding : List ℕ) (file : Ltx) (octets : AreBytes encoding) (is : IsLtx encoding file) where
  -- nothing was taken in of a file that is past the room
  pub none_room : TakenIn None table sums count wal room encoding file.change → room < file.header.commit
  none_room none =
      let of = file_is encoding file is octets in
      subst (λ (h : Header). room < h.commit) of.header (none (omega (arith, of.long)))

  -- and all of one that isn't
  pub some_room : (intake : Intake) → TakenIn (Some intake) table sums count wal room encoding file.change → file.header.commit ≤ room
  some_room intake it = subst (λ (h : Header). h.commit ≤ room) (file_is encoding file is octets).header it.2

  pub some_header : (intake : Intake) → TakenIn (Some intake) table sums count wal room encoding file.change → intake.receiving.header ≡ file.header
  some_header intake it = it.1 ∙ (file_is encoding file is octets).header

  -- the table has its sums
  pub some_sum : (intake : Intake) → TakenIn (Some intake) table sums count wal room encoding file.change → flagged (joined table) ≡ sum_behind count sums file
  some_sum intake it = ap (λ (t : List ℕ). flagged (joined t)) it.3.table_is

-- what is placed behind what was staged
placed_on : (image : DatabaseImage) (files : List LogFile) (dropped : Bool) (made : DatabaseImage) (file : LogFile) (start mid end : History) (how : Placed) → EachMoment start mid (Kept image files dropped)
    → Places image files dropped made file mid how end → Places image files dropped made file start how end
placed_on image files dropped made file start mid end placed.Unpublished first second = joined_moments start mid end (Kept image files dropped) first second
placed_on image files dropped made file start mid end (placed.From tried) first second = (
  joined_moments start mid end (IsBetween image files dropped made file) (weakened start mid (Kept image files dropped) (IsBetween image files dropped made file) first (λ c kept. inl kept)) second.0,
  second.1,
)
placed_on image files dropped made file start mid end placed.Whole first second = (
  joined_moments start mid end (IsBetween image files dropped made file) (weakened start mid (Kept image files dropped) (IsBetween image files dropped made file) first (λ c kept. inl kept)) second.0,
  second.1,
)

-- nothing is lost while only the staged file changes
pub kept_moments : (image : DatabaseImage) (files : List LogFile) (start mid : History) (ground : Ground) (sums : List ℕ) → IsOverGround image files start ground sums → EachMoment start mid (SameBut Staged (now start))
    → EachMoment start mid (Kept image files ground.dropped)
kept_moments image files start mid ground sums over run =
    weakened start mid (SameBut Staged (now start)) (Kept image files ground.dropped) run (λ c same. kept_same image files ground.dropped (now start) c over.rest.kept same)

-- a file that was taken in, and is taken
module _ (honest : Bool) (left left_now : Option (List ℕ)) (start mid : History) (ground : Ground) (sums table : List ℕ) (outline : Outline) (taken : Option Intake) (intake : Intake)
    (gave : GaveTaken honest (now start) left left_now taken table sums ground.commit ground.wal ground.room outline mid)
    (judged : JudgesTaken taken ground.room ground.position ground.page_size ground.commit sums (record { header = outline.header; change = gave.change; post = outline.post }) (Ok intake)) where
  abbrev pub file : Ltx
  file = record { header = outline.header; change = gave.change; post = outline.post }

  pub it : TakenIn (Some intake) table sums ground.commit ground.wal ground.room gave.encoding gave.change
  it = subst (λ (o : Option Intake). TakenIn o table sums ground.commit ground.wal ground.room gave.encoding gave.change) judged.0 gave.taken_in

  pub staged : IsTrue honest → HoldsUpTo (now start) intake.receiving gave.change ground.commit mid
  staged is = subst (λ (o : Option Intake). StagedIn o (now start) gave.change ground.commit mid) judged.0 (gave.staged is)

  pub header : intake.receiving.header ≡ outline.header
  header = some_header table sums ground.commit ground.wal ground.room gave.encoding file gave.octets gave.is intake it

  pub brought : IsBrought left left_now ground sums file
  brought = record {
    gave = record { encoding = gave.encoding; read = gave.read; end = gave.end; is = gave.is };
    room = judged.1;
    taken = judged.2;
  }

  pub back : ReadsBack ground.commit file
  back = reads_back ground.commit gave.encoding file gave.octets gave.is

  pub tells : TellsAfter intake.wal ground sums table file
  tells = record { table_is = it.3.table_is; wal_is = it.3.wal_is }

  over_from : (image : DatabaseImage) (files : List LogFile) → IsOverGround image files start ground sums
      → IsOverFrom (now start) image files ground.dropped intake.receiving sums ground.commit outline.post gave.change (whole_file ground.commit file)
  over_from image files over = record {
    kept = over.rest.kept;
    shows = over.rest.shows;
    empty = over.empty;
    valid = it.3.valid;
    up = it.3.up;
    is = ap (λ (h : Header). record { header = h; change = completed gave.change ground.commit; post = outline.post }) (sym header);
    whole = over.whole file gave.is.valid judged.2;
    read = back (over.whole file gave.is.valid judged.2);
    complete = over.complete file gave.is.valid judged.2;
  }

  pub placed_whole : (end : History) (how : Placed) → (IsTrue honest → EachMoment start mid (SameBut Staged (now start)))
      → (IsTrue honest → (before : Folder) (image : DatabaseImage) (files : List LogFile) (change : PageChange) (whole : Ltx)
      → IsOverFrom before image files ground.dropped intake.receiving sums ground.commit outline.post change whole → HoldsUpTo before intake.receiving change ground.commit mid
      → Places image files ground.dropped (apply image whole.change) (record { min = intake.receiving.header.min; max = intake.receiving.header.max; encoding = file_encoding whole no_meaning }) mid how end)
      → PlacesWhole honest start ground sums file how end
  placed_whole end how moments places is image files over =
      let whole : Ltx = whole_file ground.commit file in
      placed_on image files ground.dropped (apply image whole.change) (record { min = file.header.min; max = file.header.max; encoding = file_encoding whole no_meaning }) start mid end how
      (kept_moments image files start mid ground sums over (moments is))
      (subst (λ (h : Header). Places image files ground.dropped (apply image whole.change) (record { min = h.min; max = h.max; encoding = file_encoding whole no_meaning }) mid how end) header
      (places is (now start) image files gave.change whole (over_from image files over) (staged is)))

  pub unpublished : (end : History) → PlacesWhole honest start ground sums file placed.Unpublished end → IsTrue honest → (image : DatabaseImage) (files : List LogFile) → IsOverGround image files start ground sums
      → EachMoment start end (Kept image files ground.dropped)
  unpublished end places is image files over = places is image files over
