-- The staged file, part by part.
use Rattle.std.proofs.Common.{◌≡◌, ℕ, ◌+◌, ◌<◌, List, [], ◌∷◌, ◌++◌, length, drop, Option, Some, None, Result, refl, sym, ◌∙◌, ap, arith}
use Rattle.std.proofs.lemmas.List.{take_all, drop_all, append-nil, append_assoc, length-append}
use Rattle.lf_base.specs.FileBytes.{overwritten}
use Rattle.lf_base.proofs.FileLemmas.{overwritten-there}
use Rattle.lf_disk.specs.declared.name.FileName.TheVariants.{Staged}
use Rattle.lf_disk.specs.Folder.{Folder, bytes_of, Same, SameBut}
use Rattle.lf_disk.specs.Change.{Edit, Step, OnFile, Perhaps, Becomes, Writes, SetsFile}
use Rattle.lf_disk.specs.Publish.{IsStaged}
use Rattle.lf_disk.specs.History.{History, now, Ticks, Moves, EachMoment}
use Rattle.lf_disk.proofs.Folders.{edited, perhaps_edited}
use Rattle.lf_disk.proofs.Moments.{started, goes_on}
use Rattle.std.specs.Int.{w32, w64, to_be_bytes}
use Rattle.page_checksum.specs.Crc.{after_bytes, all_ones}
use Rattle.page_checksum.proofs.CrcLemmas.{after_bytes-append}
use Rattle.lf_sqlite_pages.specs.declared.page_write.PageWrite.{PageWrite}
use Rattle.ltx_codec.specs.Format.{header_encoding, no_meaning, page_encoding, end_encoding, sealed, file_encoding}
use Rattle.ltx_codec.specs.declared.file.Ltx.{Ltx}
use Rattle.ltx_codec.specs.Encoding.{HasWritten}
use Rattle.ltx_codec.specs.declared.header.Header.{Header}
use Rattle.ltx_codec.proofs.PartLaws.{page_added, finished}
use Rattle.txn_log.specs.declared.staging.Staging.{Staging}
use Rattle.txn_log.specs.Staging.{HoldsSoFar, front_encoding, IsStaging}

-- a write at the end
pub overwritten-end : (piece encoding : List ℕ) → overwritten (length encoding) piece encoding ≡ encoding ++ piece
overwritten-end piece encoding =
    overwritten-there (length encoding) piece encoding (omega arith)
    ∙ ap (λ (l : List ℕ). l ++ piece ++ drop (length encoding + length piece) encoding) (take_all (length encoding) encoding (omega arith))
    ∙ ap (λ (l : List ℕ). encoding ++ piece ++ l) (drop_all (length encoding + length piece) encoding (omega arith))
    ∙ append-nil (encoding ++ piece)

-- a file with some bytes is there
pub some_bytes : (file : Option (List ℕ)) (encoding : List ℕ) → bytes_of file ≡ encoding → 0 < length encoding → file ≡ Some encoding
some_bytes None encoding is some = absurd (omega (arith, some, ap length is))
some_bytes (Some bytes) encoding is some = ap (λ (b : List ℕ). Some b) is

module _ (before : Folder) (encoding : List ℕ) (old : History) (so_far : HoldsSoFar before encoding old) where
  -- a call on the staged file
  pub edits : {T E : Type 0} (result : Result T E) (new : History) (sees : Step) (edit : Edit) → Ticks result old new → Moves sees (OnFile Staged edit) old new → EachMoment old new (SameBut Staged before)
  edits result new sees edit ticks moves = goes_on result old old new (SameBut Staged before) (started old (SameBut Staged before) so_far.left) ticks (edited Staged before sees edit old new so_far.left moves)

  pub holds_more : (new : History) (len : ℕ) (piece : List ℕ) (edit : Edit) → len ≡ length encoding → Moves (OnFile Staged (Writes len piece)) (OnFile Staged edit) old new → HoldsSoFar before (encoding ++ piece) new
  holds_more new len piece edit is moves = record {
    seen = λ n other. moves.seen.elsewhere n other ∙ so_far.seen n other;
    here = ap bytes_of moves.seen.here ∙ ap (overwritten len piece) so_far.here ∙ ap (λ (k : ℕ). overwritten k piece encoding) is ∙ overwritten-end piece encoding;
    left = edited Staged before (OnFile Staged (Writes len piece)) edit old new so_far.left moves;
  }

  -- what stands there at first
  pub starts : EachMoment old old (SameBut Staged before)
  starts = started old (SameBut Staged before) so_far.left

-- a page more
module _ (staging : Staging) (header : Header) (pages : List PageWrite) (number : ℕ) (prefix page : List ℕ) (is : prefix ≡ to_be_bytes w32 number) (so_far : IsStaging staging header pages) where
  abbrev pub pages_after : List PageWrite
  pages_after = pages ++ record { number = number; bytes = page } ∷ []

  added : HasWritten (after_bytes staging.register (page_encoding number page)) header pages_after (front_encoding header pages ++ page_encoding number page)
  added = page_added staging.register number header pages (front_encoding header pages) page so_far.written

  pub page_encoding-is : front_encoding header pages ++ prefix ++ page ≡ front_encoding header pages_after
  page_encoding-is = append_assoc (front_encoding header pages) prefix page ∙ ap (λ (p : List ℕ). front_encoding header pages ++ (p ++ page)) is ∙ added.encoding_is

  pub mid_long : (mid : Staging) → mid.len ≡ staging.len + length prefix → mid.len ≡ length (front_encoding header pages ++ prefix)
  mid_long mid len = len ∙ ap (λ (k : ℕ). k + length prefix) so_far.len ∙ sym (length-append (front_encoding header pages) prefix)

  pub page-staging : (mid new : Staging) → mid.len ≡ staging.len + length prefix → new.len ≡ mid.len + length page → mid.register ≡ after_bytes staging.register prefix → new.register ≡ after_bytes mid.register page
      → IsStaging new header pages_after
  page-staging mid new first second register last = record {
    written = record {
      register_is =
          last ∙ ap (λ (r : ℕ). after_bytes r page) register ∙ sym (after_bytes-append staging.register prefix page)
          ∙ ap (λ (p : List ℕ). after_bytes staging.register (p ++ page)) is ∙ added.register_is ∙ ap (after_bytes all_ones) added.encoding_is;
      encoding_is = refl;
    };
    len =
        second ∙ ap (λ (k : ℕ). k + length page) (mid_long mid first) ∙ sym (length-append (front_encoding header pages ++ prefix) page) ∙ ap length page_encoding-is;
  }

-- the header
pub first-encoding : (header : Header) (bytes : List ℕ) → bytes ≡ header_encoding header no_meaning → bytes ≡ front_encoding header []
first-encoding header bytes is = is ∙ sym (append-nil (header_encoding header no_meaning))

pub first-staging : (header : Header) (bytes : List ℕ) (staging : Staging) → bytes ≡ header_encoding header no_meaning → staging.len ≡ length bytes → staging.register ≡ after_bytes all_ones bytes → IsStaging staging header []
first-staging header bytes staging is len register = record {
  written = record {
    register_is = register ∙ ap (after_bytes all_ones) (first-encoding header bytes is);
    encoding_is = refl;
  };
  len = len ∙ ap length (first-encoding header bytes is);
}

-- the trailer
module _ (staging : Staging) (file : Ltx) (so_far : IsStaging staging file.header file.change.pages) (post : ℕ) (same : post ≡ file.post) where
  abbrev pub front : List ℕ
  front = front_encoding file.header file.change.pages

  sum_is : (sum : ℕ) → sum ≡ sealed (after_bytes (after_bytes staging.register (to_be_bytes w32 0)) (to_be_bytes w64 post)) → sum ≡ sealed (after_bytes staging.register (end_encoding file.post))
  sum_is sum is =
      is ∙ ap sealed (sym (after_bytes-append staging.register (to_be_bytes w32 0) (to_be_bytes w64 post)))
      ∙ ap (λ (p : ℕ). sealed (after_bytes staging.register (end_encoding p))) same

  pub sealed-encoding : (trailer : List ℕ) (sum : ℕ) → trailer ≡ to_be_bytes w64 post ++ to_be_bytes w64 sum
      → sum ≡ sealed (after_bytes (after_bytes staging.register (to_be_bytes w32 0)) (to_be_bytes w64 post)) → front ++ to_be_bytes w32 0 ++ trailer ≡ file_encoding file no_meaning
  sealed-encoding trailer sum is sealing =
      ap (λ (t : List ℕ). front ++ to_be_bytes w32 0 ++ t) is
      ∙ append_assoc front (to_be_bytes w32 0) (to_be_bytes w64 post ++ to_be_bytes w64 sum)
      ∙ ap (λ (t : List ℕ). front ++ t) (sym (append_assoc (to_be_bytes w32 0) (to_be_bytes w64 post) (to_be_bytes w64 sum)))
      ∙ ap (λ (p : ℕ). front ++ (end_encoding p ++ to_be_bytes w64 sum)) same
      ∙ ap (λ (s : ℕ). front ++ (end_encoding file.post ++ to_be_bytes w64 s)) (sum_is sum sealing)
      ∙ finished staging.register file front so_far.written

-- the staged file is synced
pub syncs : (before : Folder) (encoding : List ℕ) (old new : History) → HoldsSoFar before encoding old → 0 < length encoding → Moves Same (SetsFile Staged (now old Staged)) old new → IsStaged before encoding new
syncs before encoding old new held some moves =
    let there : now old Staged ≡ Some encoding = some_bytes (now old Staged) encoding held.here some in
    record {
      seen = λ n other. moves.seen n ∙ held.seen n other;
      here = moves.seen Staged ∙ there;
      others = edited Staged before Same (Becomes (now old Staged)) old new held.left moves;
      whole = λ c may. (moves.left c may).2.here ∙ there;
    }

pub perhaps_syncs : {T E : Type 0} (result : Result T E) (before : Folder) (encoding : List ℕ) (old new : History) → HoldsSoFar before encoding old → Ticks result old new
    → Moves Same (Perhaps (SetsFile Staged (now old Staged))) old new → EachMoment old new (SameBut Staged before)
perhaps_syncs result before encoding old new held ticks moves =
    goes_on result old old new (SameBut Staged before) (started old (SameBut Staged before) held.left) ticks
    (perhaps_edited Staged before Same (Becomes (now old Staged)) old new held.left moves)

-- any file is long
pub long-enough : (front trailer : List ℕ) → length trailer ≡ 16 → 0 < length (front ++ trailer)
long-enough front trailer is = omega (arith, is, length-append front trailer)

pub behind_long : (encoding piece : List ℕ) (old new : ℕ) → old ≡ length encoding → new ≡ old + length piece → new ≡ length (encoding ++ piece)
behind_long encoding piece old new is more = more ∙ ap (λ (k : ℕ). k + length piece) is ∙ sym (length-append encoding piece)
