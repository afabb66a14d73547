-- The one file that is made of files that join one another.
use Rattle.std.proofs.Common.{◌≡◌, ℕ, zero, suc, ◌-◌, ◌^◌, ◌<◌, ◌≤◌, false, eqb, Some, List, [], ◌∷◌, length, get_or, refl, sym, ◌∙◌, ap, subst, arith, lit<}
use Rattle.std.specs.List.{All, slice_get}
use Rattle.std.specs.Option.{IsSome}
use Rattle.std.proofs.lemmas.Option.{slice_get_read, slice_get-get_or, get_or_from_slice_get}
use Rattle.std.proofs.lemmas.Bool.Decides.{nat_tests}
use Rattle.lf_sqlite_pages.specs.LockPage.{lock_page_of, IsDataPage}
use Rattle.lf_sqlite_pages.specs.Change.{PageChange, IsChange, written}
use Rattle.lf_sqlite_pages.proofs.Writes.{written-writes_of}
use Rattle.ltx_codec.specs.Format.{IsFile, IsHeader, IsFlagged}
use Rattle.ltx_codec.specs.declared.header.Header.{Header}
use Rattle.ltx_codec.specs.declared.file.Ltx.{Ltx}
use Rattle.ltx_compact.specs.Compaction.{Compacts, HoldsWhatIsLeft, IsFileButSum, header_of, page_of, data_page_of, pages_of}
use Rattle.ltx_compact.specs.Joining.{Joins, AllJoin}
use Rattle.ltx_compact.specs.Application.{DoesAsFiles}
use Rattle.ltx_compact.proofs.Applied.{apply-left, Fits-left, IsSome-page_of}

-- the parts make the one file
pub Compacts-made : (files : List Ltx) (first last : Ltx) (header : Header) (change : PageChange) → 0 < length files →
    first ≡ get_or files 0 first → last ≡ get_or files (length files - 1) last → header ≡ header_of first last →
    change ≡ record { page_size = header.page_size; commit = header.commit; pages = pages_of header.page_size files header.commit } →
    Compacts files (record { header = header; change = change; post = last.post })
Compacts-made files first last header change some first-read last-read header-is change-is =
    let left : Header → PageChange = λ h. record { page_size = h.page_size; commit = h.commit; pages = pages_of h.page_size files h.commit } in
    record {
      first = first;
      last = last;
      is_first = slice_get_read files (length files) 0 first refl some first-read;
      is_last = slice_get_read files (length files) (length files - 1) last refl (omega arith) last-read;
      header = header-is;
      change = change-is ∙ ap left header-is;
      post = refl;
    }

-- a data page that files leave
data_page_of-data : (size : ℕ) (files : List Ltx) (n : ℕ) → IsDataPage size n → data_page_of size files n ≡ page_of files n
data_page_of-data size files n data_page =
    let test : eqb n (lock_page_of size) ≡ false = grind (arith, nat_tests) in
    rw test refl

-- files that join, each of them sound
module _ (files : List Ltx) (joined : AllJoin files) (sound : All IsFile files) where
  -- each joins the one before it
  joins-at : (k : ℕ) (d : Ltx) → suc k < length files → Joins (get_or files k d) (get_or files (suc k) d)
  joins-at k d within =
      let two : suc (suc k) - 2 ≡ k = omega arith in
      let one : suc (suc k) - 1 ≡ suc k = omega arith in
      joined.join (suc (suc k)) (get_or files k d) (get_or files (suc k) d) within (record {
        second = omega arith;
        before_is = rw two (slice_get-get_or files k d (omega arith));
        file_is = rw one (slice_get-get_or files (suc k) d within);
      })

  -- all have the page size of the first, and end after its beginning
  size-at : (k : ℕ) (d : Ltx) → k < length files → (get_or files k d).header.page_size ≡ (get_or files 0 d).header.page_size
  size-at zero d within = refl
  size-at (suc k) d within = (joins-at k d within).page_size ∙ size-at k d (omega arith)

  ends-at : (k : ℕ) (d : Ltx) → k < length files → (get_or files 0 d).header.min ≤ (get_or files k d).header.max
  ends-at zero d within = (sound 0 d within).header.max
  ends-at (suc k) d within =
      let before = ends-at k d (omega arith) in
      let next = (joins-at k d within).transactions in
      omega (arith, before, next, (sound (suc k) d within).header.max)

  -- each change has the page size of the last file's header
  pub sizes : (last : Ltx) → slice_get files (length files - 1) ≡ Some last → All (λ file. file.change.page_size ≡ last.header.page_size) files
  sizes last is_last k d within =
      let end : get_or files (length files - 1) d ≡ last = get_or_from_slice_get files (length files - 1) last d is_last in
      (sound k d within).block.page_size ∙ size-at k d within ∙ sym (size-at (length files - 1) d (omega (arith, joined.some)))
      ∙ ap (λ (f : Ltx). f.header.page_size) end

  -- a file that stands in the list is sound
  sound-at : (k : ℕ) (file : Ltx) → k < length files → slice_get files k ≡ Some file → IsFile file
  sound-at k file within there = subst IsFile (get_or_from_slice_get files k file file there) (sound k file within)

  module _ (file : Ltx) (made : Compacts files file) where
    -- it holds what the files leave
    pub holds : HoldsWhatIsLeft files file.change
    holds =
        let P : PageChange → Type 0 = λ c. HoldsWhatIsLeft files c in
        subst P (sym made.change) (λ n first last data_page.
        written-writes_of (data_page_of made.last.header.page_size files) made.last.header.commit n first last ∙ data_page_of-data made.last.header.page_size files n data_page)

    last_sound : IsFile made.last
    last_sound = sound-at (length files - 1) made.last (omega (arith, joined.some)) made.is_last

    first_sound : IsFile made.first
    first_sound = sound-at 0 made.first joined.some made.is_first

    -- it does what the files do
    pub does : DoesAsFiles files file.change
    does =
        let size : file.change.page_size ≡ made.last.header.page_size = ap (λ (c : PageChange). c.page_size) made.change in
        let commit : file.change.commit ≡ made.last.header.commit = ap (λ (c : PageChange). c.commit) made.change in
        let Q : ℕ → Type 0 = λ s. All (λ f. f.change.page_size ≡ s) files in
        let sized : All (λ f. f.change.page_size ≡ file.change.page_size) files = subst Q (sym size) (sizes made.last made.is_last) in
        record {
          fits = Fits-left files file.change joined.some sized holds;
          same = apply-left files made.last file.change sized made.is_last (size ∙ sym last_sound.block.page_size)
              (commit ∙ sym last_sound.block.commit) holds;
        }

    first-of_size : (size : ℕ) → All (λ f. f.change.page_size ≡ size) files → made.first.change.page_size ≡ size
    first-of_size size sized =
        let d = made.first in
        ap (λ (f : Ltx). f.change.page_size) (sym (get_or_from_slice_get files 0 made.first d made.is_first)) ∙ sized 0 d joined.some

    begins_before_end : made.first.header.min ≤ made.last.header.max
    begins_before_end =
        let d = made.first in
        let start : get_or files 0 d ≡ made.first = get_or_from_slice_get files 0 made.first d made.is_first in
        let end : get_or files (length files - 1) d ≡ made.last = get_or_from_slice_get files (length files - 1) made.last d made.is_last in
        let P : Ltx → Type 0 = λ f. f.header.min ≤ made.last.header.max in
        let Q : Ltx → Type 0 = λ f. (get_or files 0 d).header.min ≤ f.header.max in
        subst P start (subst Q end (ends-at (length files - 1) d (omega (arith, joined.some))))

    -- of a snapshot and the files after it every data page is left
    every_page : made.first.header.min ≡ 1 → (n : ℕ) → 1 ≤ n → IsDataPage made.first.change.page_size n → IsSome (page_of files n)
    every_page snapshot = of_list files made.is_first
      where
        of_list : (list : List Ltx) → slice_get list 0 ≡ Some made.first → (n : ℕ) → 1 ≤ n → IsDataPage made.first.change.page_size n → IsSome (page_of list n)
        of_list [] is_first n above data_page = absurd cc
        of_list (f ∷ fs) is_first n above data_page =
            let same : made.first ≡ f = cc in
            let P : Ltx → Type 0 = λ g. IsSome (page_of (g ∷ fs) n) in
            subst P same (IsSome-page_of made.first fs n (first_sound.block.snapshot_pages snapshot) above data_page)

    header_sound : IsHeader (header_of made.first made.last)
    header_sound = record {
      widths = record {
        page_size = last_sound.header.widths.page_size;
        commit = last_sound.header.widths.commit;
        min = first_sound.header.widths.min;
        max = last_sound.header.widths.max;
        stamp = last_sound.header.widths.stamp;
        pre = first_sound.header.widths.pre;
        wal_offset = lit< tt;
        wal_size = lit< tt;
        wal_salt1 = lit< tt;
        wal_salt2 = lit< tt;
        node = last_sound.header.widths.node;
      };
      page_size = last_sound.header.page_size;
      commit = last_sound.header.commit;
      min = first_sound.header.min;
      max = begins_before_end;
      snapshot_pre = first_sound.header.snapshot_pre;
      delta_pre = first_sound.header.delta_pre;
    }

    -- it is a file, where a snapshot says the sum of its pages
    pub encodes : IsChange file.change → IsFileButSum file
    encodes valid =
        let P : Header → Type 0 = IsHeader in
        let head : IsHeader file.header = subst P (sym made.header) header_sound in
        let min : file.header.min ≡ made.first.header.min = ap (λ (h : Header). h.min) made.header in
        let size : file.header.page_size ≡ made.last.header.page_size = ap (λ (h : Header). h.page_size) made.header in
        let commit : file.header.commit ≡ made.last.header.commit = ap (λ (h : Header). h.commit) made.header in
        let W : ℕ → Type 0 = λ s. s < 2 ^ 64 in
        let change_size : file.change.page_size ≡ made.last.header.page_size = ap (λ (c : PageChange). c.page_size) made.change in
        let first_size : made.first.change.page_size ≡ made.last.header.page_size = first-of_size made.last.header.page_size (sizes made.last made.is_last) in
        record {
          header = head;
          block = record {
            page_size = ap (λ (c : PageChange). c.page_size) made.change ∙ sym size;
            commit = ap (λ (c : PageChange). c.commit) made.change ∙ sym commit;
            pages = valid;
            snapshot_pages = λ snapshot n first last data_page.
                let held : written file.change.pages n ≡ page_of files n = holds n first last data_page in
                rw held (every_page (sym min ∙ snapshot) n first (λ lock. data_page (lock ∙ ap lock_page_of (first_size ∙ sym change_size))));
          };
          post = λ sum. record {
            width = subst W (sym made.post) last_sound.post.width;
            flagged = subst IsFlagged (sym made.post) last_sound.post.flagged;
            empty = λ none. made.post ∙ last_sound.post.empty (sym commit ∙ none);
            snapshot = sum;
          };
        }
