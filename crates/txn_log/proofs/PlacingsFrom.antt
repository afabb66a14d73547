-- A file that was received is sealed and published.
use Rattle.std.proofs.Common.{◌≡◌, inl, ℕ, Bool, List, sym, ◌∙◌, ap, subst, arith}
use Rattle.lf_disk.specs.declared.name.FileName.TheVariants.{Staged}
use Rattle.lf_disk.specs.Folder.{Folder, bytes_of, SameBut}
use Rattle.lf_disk.specs.History.{History, now, EachMoment}
use Rattle.lf_disk.specs.Publish.{IsStaged}
use Rattle.lf_disk.proofs.Moments.{joined, weakened}
use Rattle.lf_sqlite_pages.specs.Apply.{apply}
use Rattle.lf_sqlite_pages.specs.Change.{PageChange}
use Rattle.lf_sqlite_pages.specs.Complete.{completed, completed_page}
use Rattle.lf_sqlite_pages.specs.Image.{DatabaseImage}
use Rattle.lf_sqlite_pages.specs.Writes.{writes_of}
use Rattle.lf_sqlite_pages.specs.declared.page_write.PageWrite.{PageWrite}
use Rattle.ltx_codec.specs.Format.{file_encoding, no_meaning}
use Rattle.ltx_codec.specs.declared.file.Ltx.{Ltx}
use Rattle.ltx_codec.specs.declared.header.Header.{Header}
use Rattle.txn_log.specs.Intake.{HoldsUpTo}
use Rattle.txn_log.specs.Kept.{LogFile, Kept}
use Rattle.txn_log.specs.Placing.{IsBetween, IsTried}
use Rattle.txn_log.specs.PlacingFrom.{IsOverFrom}
use Rattle.txn_log.specs.Putting.{IsReady}
use Rattle.txn_log.specs.Receiving.{HasPassed}
use Rattle.txn_log.specs.Republishing.{HoldsFile}
use Rattle.txn_log.specs.Staging.{HoldsSoFar, front_encoding, IsStaging}
use Rattle.txn_log.specs.declared.receiving.Receiving.{Receiving}
use Rattle.txn_log.proofs.Placings.{kept_same}

-- what was received is whole once all of it was passed
module _ (received new : Receiving) (sums : List ℕ) (count : ℕ) (change : PageChange) (commit : change.commit ≡ received.header.commit)
    (passed : HasPassed new sums (completed_page change count)) (at_end : new.passed ≡ received.header.commit) (header : new.header ≡ received.header) where
  whole_pages : writes_of (completed_page change count) new.passed ≡ (completed change count).pages
  whole_pages = ap (writes_of (completed_page change count)) (at_end ∙ sym commit)

  pub whole_staging : (file : Ltx) → file.header ≡ received.header → file.change ≡ completed change count → IsStaging new.staging file.header file.change.pages
  whole_staging file header_is change_is =
      subst (λ (c : PageChange). IsStaging new.staging file.header c.pages) (sym change_is)
      (subst (λ (h : Header). IsStaging new.staging h (completed change count).pages) (header ∙ sym header_is)
      (subst (λ (ws : List PageWrite). IsStaging new.staging new.header ws) whole_pages passed.staging))

  pub whole_front : (file : Ltx) → file.header ≡ received.header → file.change ≡ completed change count → (before : Folder) (h : History) → HoldsUpTo before new change count h
      → HoldsSoFar before (front_encoding file.header file.change.pages) h
  whole_front file header_is change_is before h holds =
      subst (λ (c : PageChange). HoldsSoFar before (front_encoding file.header c.pages) h) (sym change_is)
      (subst (λ (hd : Header). HoldsSoFar before (front_encoding hd (completed change count).pages) h) (header ∙ sym header_is)
      (subst (λ (ws : List PageWrite). HoldsSoFar before (front_encoding new.header ws) h) whole_pages holds))

module _ (before : Folder) (image : DatabaseImage) (files : List LogFile) (dropped : Bool) (received : Receiving) (sums : List ℕ) (count post : ℕ) (change : PageChange) (file : Ltx)
    (over : IsOverFrom before image files dropped received sums count post change file) where
  pub header_is : file.header ≡ received.header
  header_is = ap (λ (f : Ltx). f.header) over.is

  pub change_is : file.change ≡ completed change count
  change_is = ap (λ (f : Ltx). f.change) over.is

  pub post_is : post ≡ file.post
  post_is = sym (ap (λ (f : Ltx). f.post) over.is)

  abbrev pub encoding : List ℕ
  encoding = file_encoding file no_meaning

  -- before it is published nothing is lost
  pub stays : (h mid : History) → EachMoment h mid (SameBut Staged before) → EachMoment h mid (Kept image files dropped)
  stays h mid run = weakened h mid (SameBut Staged before) (Kept image files dropped) run (λ c same. kept_same image files dropped before c over.kept same)

  pub ready : (h : History) → IsStaged before encoding h → IsReady image files dropped encoding file.change h
  ready h staged = record {
    before = before;
    staged = staged;
    kept = over.kept;
    shows = over.shows;
    tells = ap (λ (f : Ltx). f.change) over.read;
    valid = over.whole.block.pages;
    complete = over.complete;
  }

  -- the staged file is this one
  pub held : (h : History) (new : Receiving) (len : ℕ) → IsStaged before encoding h → new.header ≡ received.header → IsStaging new.staging file.header file.change.pages → len ≡ new.staging.len
      → HoldsFile Staged new.header len file (now h)
  held h new len staged header staging len_is = record {
    valid = over.whole;
    encoding = ap bytes_of staged.here;
    header_is = header ∙ sym header_is;
    len_is = len_is ∙ staging.len;
  }

  -- from the rename on
  pub goes : (h mid end : History) (hd : Header) → hd ≡ received.header → EachMoment h mid (SameBut Staged before) → EachMoment mid end (IsBetween image files dropped (apply image file.change) (record { min = hd.min; max = hd.max; encoding = encoding }))
      → EachMoment h end (IsBetween image files dropped (apply image file.change) (record { min = received.header.min; max = received.header.max; encoding = encoding }))
  goes h mid end hd header first second =
      let P : Folder → Type 0 = IsBetween image files dropped (apply image file.change) (record { min = received.header.min; max = received.header.max; encoding = encoding }) in
      joined h mid end P
      (weakened h mid (Kept image files dropped) P (stays h mid first) (λ c kept. inl kept))
      (subst (λ (x : Header). EachMoment mid end (IsBetween image files dropped (apply image file.change) (record { min = x.min; max = x.max; encoding = encoding }))) header second)

  pub tried : (mid end : History) (P : Folder → Type 0) (at : ℕ) → at ≡ mid.moment → IsStaged before encoding mid → EachMoment mid end P → IsTried encoding at end
  tried mid end P at at_is staged run = subst (λ (t : ℕ). IsTried encoding t end) (sym at_is) (record {
    past = run.later;
    read = ap bytes_of (run.past.seen mid.moment Staged (omega arith) ∙ staged.here);
  })
