-- A store that was written is whole: its last file says so.
use Rattle.std.proofs.Common.{◌≡◌, ◌≢◌, ℕ, suc, ◌<◌, ◌≤◌, ◌^◌, Bool, List, [], ◌∷◌, inl, inr, Option, Some, None, length, get_or, fold, refl, sym, ◌∙◌, ap, subst, arith}
use Rattle.std.proofs.Math.Logic.{∥∥₁_elim}
use Rattle.std.proofs.Props.{props}
use Rattle.std.proofs.lemmas.Bool.{cases_lt}
use Rattle.page_checksum.specs.Sums.{flagged, joined}
use Rattle.lf_base.specs.declared.pos.Pos.{Pos}
use Rattle.lf_disk.specs.History.{History}
use Rattle.lf_sqlite_pages.specs.Apply.{apply}
use Rattle.lf_sqlite_pages.specs.Image.{DatabaseImage, IsImage, SameImage, empty_image}
use Rattle.lf_sqlite_pages.specs.LockPage.{IsWithinLimit}
use Rattle.lf_sqlite_pages.specs.PageSize.{IsPageSize}
use Rattle.ltx_codec.specs.Format.{IsLtx, IsFlagged}
use Rattle.ltx_codec.specs.Positions.{after}
use Rattle.ltx_codec.specs.Sums.{image_sum, sum_table}
use Rattle.ltx_codec.specs.declared.file.Ltx.{Ltx}
use Rattle.world_laws.specs.Answers.{snapshot_of}
use Rattle.world_laws.specs.SnapshotLaw.{IsFullStore}
use Rattle.world_laws.specs.Store.{StoreState, at, end_of}
use Rattle.world_laws.proofs.Snapshots.{whole-same}
use Rattle.txn_log.specs.declared.entry.Entry.{Entry}
use Rattle.txn_log.specs.Durable.{log_of, IsEncoding}
use Rattle.txn_log.specs.Kept.{LogFile, file_of, last_of, Decides, encoded_change}
use Rattle.txn_log.specs.Store.{image_in, files_in, state_of, meant, end_of_entries, IsStore, IsSized}
use Rattle.txn_log.proofs.Commits.{end_of-push}
use Rattle.txn_log.proofs.PagesRead.{is_image}
use Rattle.snapshot.proofs.StoreLemmas.{page_size-most}

-- the last file of some files
pub record IsLast (files : List LogFile) (file : LogFile) : Type 0 where
  pub last : last_of files ≡ Some file
  pub ends : end_of (log_of files) ≡ after (file_of file.encoding)
  pub place : ℕ
  pub within : place < length files
  pub found : (d : LogFile) → get_or files place d ≡ file

record Runs (x : LogFile) (xs : List LogFile) (o : Option LogFile) (p : Pos) (file : LogFile) : Type 0 where
  last : fold (λ _ (f : LogFile). Some f) o (x ∷ xs) ≡ Some file
  ends : fold (λ _ (l : Ltx). after l) p (log_of (x ∷ xs)) ≡ after (file_of file.encoding)
  place : ℕ
  within : place < length (x ∷ xs)
  found : (d : LogFile) → get_or (x ∷ xs) place d ≡ file

runs : (x : LogFile) (xs : List LogFile) (o : Option LogFile) (p : Pos) → (file : LogFile) × Runs x xs o p file
runs x [] o p = (x, record { last = refl; ends = refl; place = 0; within = omega arith; found = λ d. refl })
runs x (y ∷ ys) o p =
    let rest = runs y ys (Some x) (after (file_of x.encoding)) in
    (rest.0, record { last = rest.1.last; ends = rest.1.ends; place = suc rest.1.place; within = omega (arith, rest.1.within); found = rest.1.found })

pub last_is : (files : List LogFile) → 1 ≤ (end_of (log_of files)).txid → (file : LogFile) × IsLast files file
unfolding end_of
last_is [] some = absurd (omega (arith, some))
last_is (x ∷ xs) some =
    let it = runs x xs None (record { txid = 0; sum = 0 }) in
    (it.0, record { last = it.1.last; ends = it.1.ends; place = it.1.place; within = it.1.within; found = it.1.found })

pub some_entries : (entries : List Entry) → 1 ≤ (end_of_entries entries).txid → entries ≢ []
unfolding end_of_entries
some_entries [] some same = absurd (omega (arith, some))
some_entries (e ∷ es) some same = cc

-- what the last file's encoding says
sized_by : (encoding : List ℕ) → IsEncoding encoding → IsPageSize (encoded_change encoding).page_size
sized_by encoding is = ∥∥₁_elim is (hlevel props) (λ (it : IsLtx encoding (file_of encoding)). it.valid.block.pages.of_a_page_size)

limited_by : (encoding : List ℕ) → IsEncoding encoding → IsWithinLimit (encoded_change encoding).page_size (encoded_change encoding).commit
limited_by encoding is = ∥∥₁_elim is (hlevel props) (λ (it : IsLtx encoding (file_of encoding)). within it) where
  within : IsLtx encoding (file_of encoding) → IsWithinLimit (encoded_change encoding).page_size (encoded_change encoding).commit
  within it =
      subst (λ (s : ℕ). IsWithinLimit s (encoded_change encoding).commit) (sym it.valid.block.page_size)
      (subst (λ (n : ℕ). IsWithinLimit (file_of encoding).header.page_size n) (sym it.valid.block.commit) it.valid.header.commit)

flagged_by : (encoding : List ℕ) → IsEncoding encoding → IsFlagged (after (file_of encoding)).sum
flagged_by encoding is = ∥∥₁_elim is (hlevel props) (λ (it : IsLtx encoding (file_of encoding)). it.valid.post.flagged)

narrow_by : (encoding : List ℕ) → IsEncoding encoding → (after (file_of encoding)).sum < 2 ^ 64
narrow_by encoding is = ∥∥₁_elim is (hlevel props) (λ (it : IsLtx encoding (file_of encoding)). it.valid.post.width)

numbered_by : (encoding : List ℕ) → IsEncoding encoding → (after (file_of encoding)).txid < 2 ^ 64
numbered_by encoding is = ∥∥₁_elim is (hlevel props) (λ (it : IsLtx encoding (file_of encoding)). it.valid.header.widths.max)

module _ (h : History) (size commit : ℕ) (entries : List Entry) (dropped broken : Bool) (sums : List ℕ) (whole tried : ℕ)
    (is : IsStore h size commit entries dropped sums broken whole tried) where
  pub full : IsSized size commit → size < 2 ^ 32 → commit < 2 ^ 32 → 1 ≤ (at (state_of h size commit entries dropped broken whole)).txid →
      (at (state_of h size commit entries dropped broken whole)).sum ≡ flagged (joined sums) →
      ((image : DatabaseImage) → image_sum image ≡ flagged (joined (sum_table image))) → IsFullStore (state_of h size commit entries dropped broken whole)
  full sized small few some sum_is law =
      let f = h.seen (meant h broken whole) in
      let files : List LogFile = files_in entries f in
      let image : DatabaseImage = image_in size commit f in
      let last = last_is files some in
      let decides : Decides (encoded_change last.0.encoding) image _ = is.rest.kept.decided.some last.0 last.1.last in
      let encoding : IsEncoding last.0.encoding = subst (λ (l : LogFile). IsEncoding l.encoding) (last.1.found last.0) (is.log.log.encodings last.1.place last.0 last.1.within) in
      record {
        some = some;
        txid = subst (λ (p : Pos). p.txid < 2 ^ 64) (sym last.1.ends) (numbered_by last.0.encoding encoding);
        image = is_image size commit f is.rest.shows.long sized few;
        page_size = subst IsPageSize (sym decides.page_size) (sized_by last.0.encoding encoding);
        size_small = small;
        limit = subst (λ (s : ℕ). IsWithinLimit s (length image.pages)) (sym decides.page_size)
            (subst (λ (n : ℕ). IsWithinLimit (encoded_change last.0.encoding).page_size n) (sym decides.commit) (limited_by last.0.encoding encoding));
        sum = sum_is ∙ ap (λ (l : List ℕ). flagged (joined l)) is.table ∙ sym (law image);
        width = subst (λ (p : Pos). p.sum < 2 ^ 64) (sym last.1.ends) (narrow_by last.0.encoding encoding);
        flagged = subst (λ (p : Pos). IsFlagged p.sum) (sym last.1.ends) (flagged_by last.0.encoding encoding);
      }

pub made : (store : StoreState) → IsImage store.image → SameImage (apply empty_image (snapshot_of store).change) store.image
unfolding snapshot_of
made store valid = whole-same store.image valid

pub small_size : (size commit : ℕ) → IsSized size commit → size < 2 ^ 32
small_size size commit sized = elim (cases_lt 0 size) [
  | inl some ↦ omega (arith, page_size-most size (sized.sized some))
  | inr none ↦ omega (arith, none)
]

-- installed, the snapshot leads back to the position
pub leads_back : (store : StoreState) → end_of (snapshot_of store ∷ []) ≡ at store
unfolding snapshot_of
leads_back store = end_of-push [] (snapshot_of store)
