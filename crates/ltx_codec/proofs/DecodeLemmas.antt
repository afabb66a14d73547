-- What was read is an encoding of what it says.
use Rattle.std.proofs.Common.{◌≡◌, ℕ, ◌+◌, ◌<◌, ◌≤◌, ◌^◌, List, ◌++◌, length, take, drop, arith, refl, sym, ap, subst, inl, inr, ◌∙◌}
use Rattle.std.specs.Int.{w32, w64, to_be_bytes}
use Rattle.std.proofs.lemmas.Bool.{cases_lt, cases_eq}
use Rattle.std.proofs.lemmas.List.{length-take, length-drop}
use Rattle.std.proofs.Math.Seq.{take-add}
use Rattle.lf_sqlite_pages.specs.LockPage.{IsDataPage, data_page_after}
use Rattle.lf_sqlite_pages.specs.Change.{PageChange, IsChange, last_number}
use Rattle.ltx_codec.specs.Fields.{AreBytes, stated_page_size, stated_commit, stated_min, stated_max, stated_pre, header_in}
use Rattle.ltx_codec.specs.Format.{header_encoding, pages_encoding, summed_encoding, file_encoding, file_sum, IsHeader, IsBlock, IsPostSum, IsLtx}
use Rattle.ltx_codec.specs.Places.{number_place, number_at, number_before, writes_in}
use Rattle.ltx_codec.specs.Sums.{sum_of_writes}
use Rattle.ltx_codec.specs.HeaderRules.{IsThere}
use Rattle.ltx_codec.specs.Block.{HasHeader, IsRead, IsNextNumber}
use Rattle.ltx_codec.specs.steps.Trailer.{HasTrailer}
use Rattle.ltx_codec.specs.declared.file.Ltx.{Ltx}
use Rattle.ltx_codec.proofs.DataPages.{after-least, follows-end}
use Rattle.ltx_codec.proofs.EncodingLemmas.{four_spelled, eight_spelled, four_below, eight_below}
use Rattle.lf_base.specs.Endian.{be32_at, be64_at}

-- the front of the bytes up to a field's end is the front before it and the field's encoding
four_more : (at : ℕ) (bytes front : List ℕ) (n : ℕ) → AreBytes bytes → at + 4 ≤ length bytes → n ≡ be32_at at bytes → take at bytes ≡ front
    → take (at + 4) bytes ≡ front ++ to_be_bytes w32 n
four_more at bytes front n fits room n-is front-is =
    take-add at 4 bytes
    ∙ ap (λ (d : List ℕ). d ++ take 4 (drop at bytes)) front-is
    ∙ ap (λ (d : List ℕ). front ++ d) (sym (four_spelled at bytes fits room))
    ∙ ap (λ (m : ℕ). front ++ to_be_bytes w32 m) (sym n-is)

eight_more : (at : ℕ) (bytes front : List ℕ) (n : ℕ) → AreBytes bytes → at + 8 ≤ length bytes → n ≡ be64_at at bytes → take at bytes ≡ front
    → take (at + 8) bytes ≡ front ++ to_be_bytes w64 n
eight_more at bytes front n fits room n-is front-is =
    take-add at 8 bytes
    ∙ ap (λ (d : List ℕ). d ++ take 8 (drop at bytes)) front-is
    ∙ ap (λ (d : List ℕ). front ++ d) (sym (eight_spelled at bytes fits room))
    ∙ ap (λ (m : ℕ). front ++ to_be_bytes w64 m) (sym n-is)

-- a sound header is the encoding of its fields
header_spelled : (bytes : List ℕ) → HasHeader bytes → take 100 bytes ≡ header_encoding (header_in bytes) (take 20 (drop 80 bytes))
header_spelled bytes h =
    let fits = h.octets in
    let whole = h.whole in
    let e4 = h.fields.magic_is (record { within = omega arith; there = omega arith }) in
    let e8 = four_more 4 bytes _ 0 fits (omega arith) (sym (h.fields.flags (record { within = omega arith; there = omega arith }))) e4 in
    let e12 = four_more 8 bytes _ (stated_page_size bytes) fits (omega arith) refl e8 in
    let e16 = four_more 12 bytes _ (stated_commit bytes) fits (omega arith) refl e12 in
    let e24 = eight_more 16 bytes _ (stated_min bytes) fits (omega arith) refl e16 in
    let e32 = eight_more 24 bytes _ (stated_max bytes) fits (omega arith) refl e24 in
    let e40 = eight_more 32 bytes _ (be64_at 32 bytes) fits (omega arith) refl e32 in
    let e48 = eight_more 40 bytes _ (stated_pre bytes) fits (omega arith) refl e40 in
    let e56 = eight_more 48 bytes _ (be64_at 48 bytes) fits (omega arith) refl e48 in
    let e64 = eight_more 56 bytes _ (be64_at 56 bytes) fits (omega arith) refl e56 in
    let e68 = four_more 64 bytes _ (be32_at 64 bytes) fits (omega arith) refl e64 in
    let e72 = four_more 68 bytes _ (be32_at 68 bytes) fits (omega arith) refl e68 in
    let e80 = eight_more 72 bytes _ (be64_at 72 bytes) fits (omega arith) refl e72 in
    take-add 80 20 bytes ∙ ap (λ (d : List ℕ). d ++ take 20 (drop 80 bytes)) e80

-- the fields of a sound header meet the rules
header_sound : (bytes : List ℕ) → HasHeader bytes → IsHeader (header_in bytes)
header_sound bytes h =
    let whole = h.whole in
    let there : (e : ℕ) → e ≤ 100 → IsThere bytes 103 e = λ (e : ℕ) (le : e ≤ 100). record { within = omega arith; there = omega arith } in
    let fits = h.octets in
    record {
      widths = record {
        page_size = four_below 8 bytes fits;
        commit = four_below 12 bytes fits;
        min = eight_below 16 bytes fits;
        max = eight_below 24 bytes fits;
        stamp = eight_below 32 bytes fits;
        pre = eight_below 40 bytes fits;
        wal_offset = eight_below 48 bytes fits;
        wal_size = eight_below 56 bytes fits;
        wal_salt1 = four_below 64 bytes fits;
        wal_salt2 = four_below 68 bytes fits;
        node = eight_below 72 bytes fits;
      };
      page_size = h.fields.page_size (there 12 (omega arith));
      commit = h.fields.commit (there 16 (omega arith));
      min = h.fields.min (there 24 (omega arith));
      max = h.fields.max (there 32 (omega arith));
      snapshot_pre = h.fields.snapshot_pre (there 48 (omega arith));
      delta_pre = h.fields.delta_pre (there 48 (omega arith));
    }

-- the file that the bytes spell
abbrev file_of : List ℕ → PageChange → ℕ → Ltx
file_of bytes change sum = record { header = header_in bytes; change = change; post = sum }

-- the reserved bytes
abbrev reserved_in : List ℕ → List ℕ
reserved_in bytes = take 20 (drop 80 bytes)

module _ (bytes : List ℕ) (change : PageChange) (sum : ℕ) (read : IsRead bytes change (length change.pages)) (number : IsNextNumber bytes (length change.pages))
    (ends : number_at bytes (length change.pages) ≡ 0) (trailer : HasTrailer bytes (length change.pages) sum) where
  -- the encoding before the file sum
  summed_spelled : take (number_place bytes (length change.pages) + 12) bytes ≡ summed_encoding (file_of bytes change sum) (reserved_in bytes)
  summed_spelled =
      let place = number_place bytes (length change.pages) in
      let fits = read.header.octets in
      let head = header_spelled bytes read.header in
      let block = read.holds.encoding ∙ ap (λ (d : List ℕ). d ++ pages_encoding change.pages) head in
      let zero_spelled = four_more place bytes _ 0 fits number.there (sym ends) block in
      let room = trailer.there in
      let sum_spelled = eight_more (place + 4) bytes _ sum fits (omega (arith, room)) trailer.sum_is zero_spelled in
      let same : place + 12 ≡ (place + 4) + 8 = omega arith in
      ap (λ (n : ℕ). take n bytes) same ∙ sum_spelled

  -- the whole encoding
  encoding_spelled : take (number_place bytes (length change.pages) + 20) bytes ≡ file_encoding (file_of bytes change sum) (reserved_in bytes)
  encoding_spelled =
      let place = number_place bytes (length change.pages) in
      let room = trailer.there in
      let seal : file_sum (summed_encoding (file_of bytes change sum) (reserved_in bytes)) ≡ be64_at (place + 12) bytes =
      ap file_sum (sym summed_spelled) ∙ sym trailer.file_sum_is in
      let same : place + 20 ≡ (place + 12) + 8 = omega arith in
      ap (λ (n : ℕ). take n bytes) same
      ∙ eight_more (place + 12) bytes (summed_encoding (file_of bytes change sum) (reserved_in bytes)) (file_sum (summed_encoding (file_of bytes change sum) (reserved_in bytes))) read.header.octets (omega (arith, room)) seal summed_spelled

  block_sound : IsChange change → IsBlock (header_in bytes) change
  block_sound valid = record {
    page_size = read.holds.page_size;
    commit = read.holds.commit;
    pages = valid;
    snapshot_pages = λ snapshot n first within data_page.
        let size = stated_page_size bytes in
        let last = last_number change.pages in
        let end = follows-end (header_in bytes) (number_before bytes (length change.pages)) (number_at bytes (length change.pages)) number.may ends snapshot in
        let past : stated_commit bytes < data_page_after size last = subst (λ (m : ℕ). stated_commit bytes < data_page_after size m) (sym read.holds.last) end in
        elim (cases_lt last n) [
          | inl behind ↦ absurd (omega (arith, past, within, read.holds.commit, after-least size last n behind (subst (λ (s : ℕ). IsDataPage s n) read.holds.page_size data_page)))
          | inr before ↦ read.holds.each snapshot n first before data_page
        ];
  }

  sum_sound : IsPostSum (header_in bytes) change sum
  sum_sound = record {
    width = rw trailer.sum_is (eight_below (number_place bytes (length change.pages) + 4) bytes read.header.octets);
    flagged = elim (cases_lt sum (2 ^ 63)) [ inl low ↦ absurd (trailer.right (inl low)) | inr high ↦ high ];
    empty = λ none. elim (cases_eq sum (2 ^ 63)) [ inl same ↦ same | inr other ↦ absurd (trailer.right (inr (inl (none, other)))) ];
    snapshot = λ snapshot.
        let pages_sum = sum_of_writes (writes_in bytes (length change.pages)) in
        elim (cases_eq sum pages_sum) [
          | inl same ↦ same ∙ ap sum_of_writes (sym read.holds.writes)
          | inr other ↦ absurd (trailer.right (inr (inr (snapshot, other))))
        ];
  }

  -- the front of the bytes is an encoding of the file
  pub is_ltx : IsChange change → IsLtx (take (number_place bytes (length change.pages) + 20) bytes) (file_of bytes change sum)
  is_ltx valid = record {
    valid = record { header = header_sound bytes read.header; block = block_sound valid; post = sum_sound };
    reserved = reserved_in bytes;
    room =
        let whole = read.header.whole in
        omega (arith, length-take 20 (drop 80 bytes), length-drop 80 bytes);
    encoding = encoding_spelled;
  }
