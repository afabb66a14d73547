-- A snapshot that was received is sealed, and takes the place of a store.
use Rattle.std.proofs.Common.{◌≡◌, inl, inr, ℕ, Bool, List, sym, ◌∙◌, ap, subst, arith}
use Rattle.lf_disk.specs.declared.name.FileName.TheVariants.{Staged}
use Rattle.lf_disk.specs.Folder.{Folder, bytes_of, SameBut}
use Rattle.lf_disk.specs.History.{History, now, EachMoment}
use Rattle.lf_disk.specs.Publish.{IsStaged}
use Rattle.lf_disk.proofs.Moments.{joined, weakened}
use Rattle.lf_sqlite_pages.specs.Change.{PageChange}
use Rattle.lf_sqlite_pages.specs.Complete.{completed}
use Rattle.lf_sqlite_pages.specs.Image.{DatabaseImage}
use Rattle.ltx_codec.specs.Format.{file_encoding, no_meaning}
use Rattle.ltx_codec.specs.declared.file.Ltx.{Ltx}
use Rattle.ltx_codec.specs.declared.header.Header.{Header}
use Rattle.txn_log.specs.BringingAnew.{IsOverAnewFrom}
use Rattle.txn_log.specs.Installing.{IsReadyAnew, IsAsBeforeOrInstalled, IsKeptOrInstalled}
use Rattle.txn_log.specs.Kept.{LogFile, Kept}
use Rattle.txn_log.specs.Placing.{IsTried}
use Rattle.txn_log.specs.Republishing.{HoldsFile}
use Rattle.txn_log.specs.Staging.{IsStaging}
use Rattle.txn_log.specs.declared.entry.Entry.{Entry}
use Rattle.txn_log.specs.declared.receiving.Receiving.{Receiving}
use Rattle.txn_log.proofs.Placings.{kept_same}

module _ (before : Folder) (image : DatabaseImage) (files : List LogFile) (dropped : Bool) (made : DatabaseImage) (received : Receiving) (sums : List ℕ) (count : ℕ) (entries : List Entry) (post : ℕ) (change : PageChange) (file : Ltx)
    (over : IsOverAnewFrom before image files dropped made received sums count entries post change file) where
  pub header_is : file.header ≡ received.header
  header_is = ap (λ (f : Ltx). f.header) over.is

  pub change_is : file.change ≡ completed change count
  change_is = ap (λ (f : Ltx). f.change) over.is

  pub post_is : post ≡ file.post
  post_is = sym (ap (λ (f : Ltx). f.post) over.is)

  pub commit_is : change.commit ≡ received.header.commit
  commit_is = sym (ap (λ (x : PageChange). x.commit) change_is) ∙ over.whole.block.commit ∙ ap (λ (x : Header). x.commit) header_is

  abbrev pub encoding : List ℕ
  encoding = file_encoding file no_meaning

  -- before it is published nothing is lost
  pub stays : (h mid : History) → EachMoment h mid (SameBut Staged before) → EachMoment h mid (Kept image files dropped)
  stays h mid run = weakened h mid (SameBut Staged before) (Kept image files dropped) run (λ c same. kept_same image files dropped before c over.kept same)

  pub ready : (h : History) → IsStaged before encoding h → IsReadyAnew before made encoding entries file.change h
  ready h staged = record { staged = staged; would = over.would }

  -- the staged file is this one
  pub held : (h : History) (new : Receiving) (len : ℕ) → IsStaged before encoding h → new.header ≡ received.header → IsStaging new.staging file.header file.change.pages → len ≡ new.staging.len
      → HoldsFile Staged new.header len file (now h)
  held h new len staged header staging len_is = record {
    valid = over.whole;
    encoding = ap bytes_of staged.here;
    header_is = header ∙ sym header_is;
    len_is = len_is ∙ staging.len;
  }

  -- from the rename on
  pub goes : (h mid end : History) (hd : Header) → hd ≡ received.header → EachMoment h mid (SameBut Staged before)
      → EachMoment mid end (IsAsBeforeOrInstalled before made (record { min = hd.min; max = hd.max; encoding = encoding }))
      → EachMoment h end (IsKeptOrInstalled image files dropped made (record { min = received.header.min; max = received.header.max; encoding = encoding }))
  goes h mid end hd header first second =
      let file : LogFile = record { min = received.header.min; max = received.header.max; encoding = encoding } in
      let P : Folder → Type 0 = IsKeptOrInstalled image files dropped made file in
      joined h mid end P
      (weakened h mid (Kept image files dropped) P (stays h mid first) (λ c kept. inl kept))
      (weakened mid end (IsAsBeforeOrInstalled before made file) P
      (subst (λ (x : Header). EachMoment mid end (IsAsBeforeOrInstalled before made (record { min = x.min; max = x.max; encoding = encoding }))) header second)
      (λ c is. elim is [
        | inl same ↦ inl (kept_same image files dropped before c over.kept same)
        | inr there ↦ inr there
      ]))

  pub tried : (mid end : History) (P : Folder → Type 0) (at : ℕ) → at ≡ mid.moment → IsStaged before encoding mid → EachMoment mid end P → IsTried encoding at end
  tried mid end P at at_is staged run = subst (λ (t : ℕ). IsTried encoding t end) (sym at_is) (record {
    past = run.later;
    read = ap bytes_of (run.past.seen mid.moment Staged (omega arith) ∙ staged.here);
  })
