-- The encoding of a file breaks no rule.
use Rattle.std.proofs.Common.{◌≡◌, ◌≢◌, ℕ, ◌+◌, ◌<◌, ◌≤◌, ◌^◌, true, false, List, [], ◌∷◌, ◌++◌, length, take, drop, map, arith, refl, sym, ap, subst, inl, inr, ◌∙◌, append_assoc, length-append}
use Rattle.std.specs.Prelude.{All, IsSome, Option}
use Rattle.std.specs.List.{range_with_len}
use Rattle.std.specs.Int.{w32, w64, to_be_bytes, from_be_bytes}
use Rattle.std.proofs.lemmas.List.{take_at, drop_at, append_cancel_right, get_or_append_left, get_or_past}
use Rattle.std.proofs.lemmas.Bool.{cases_lt}
use Rattle.std.proofs.lemmas.List.Elements.{All-head, All-tail, All-weaker}
use Rattle.std.proofs.lemmas.Nat.{from_be_bytes-to_be_bytes_4, from_be_bytes-to_be_bytes_8}
use borrow.Author.Count.{below_more}
use Rattle.page_checksum.specs.Crc.{crc}
use Rattle.page_checksum.proofs.CrcLemmas.{crc_fits, flagged_fits}
use Rattle.lf_sqlite_pages.specs.LockPage.{IsDataPage, data_page_after}
use Rattle.lf_sqlite_pages.specs.Change.{AscendsAbove, written}
use Rattle.lf_sqlite_pages.specs.declared.page_write.PageWrite.{PageWrite}
use Rattle.ltx_codec.specs.Fields.{AreBytes, stated_flags, stated_page_size, stated_commit, stated_min, header_in}
use Rattle.ltx_codec.specs.Format.{header_encoding, pages_encoding, summed_encoding, file_encoding, file_sum, IsFile, IsLtx}
use Rattle.ltx_codec.specs.Places.{IsBroken, IsSoundBefore, IsEarliest, HasBlock, number_place, number_at, number_before, page_in, write_in, writes_in, HasPages, IsWrongSum}
use Rattle.ltx_codec.specs.Sums.{sum_of_writes}
use Rattle.ltx_codec.specs.Numbering.{MayFollow}
use Rattle.ltx_codec.specs.HeaderRules.{HasSoundFields}
use Rattle.ltx_codec.specs.Block.{IsNextNumber}
use Rattle.ltx_codec.specs.declared.header.Header.{Header}
use Rattle.ltx_codec.specs.declared.file.Ltx.{Ltx}
use Rattle.ltx_codec.specs.declared.fault.LtxFault.{LtxFault}
use Rattle.ltx_codec.specs.declared.fault.LtxFault.TheVariants as fault
use Rattle.ltx_codec.proofs.HeaderLemmas.{sound_fields}
use Rattle.ltx_codec.proofs.BlockLemmas.{next_place, past_page, only_tail}
use Rattle.ltx_codec.proofs.DataPages.{after-above, after-data, after-least, written-other, first-written}
use Rattle.ltx_codec.proofs.EncodingLemmas.{before_more}
use Rattle.ltx_codec.proofs.LawLemmas.{AreWhole, tail_whole, file_whole, parts, header_again, header_length}
use Rattle.lf_base.specs.Endian.{be32_at, be64_at}

-- the number that stands behind a front of the bytes
four_here : (place : ℕ) (bytes front more : List ℕ) (n : ℕ) → bytes ≡ front ++ (to_be_bytes w32 n ++ more) → length front ≡ place → n < 2 ^ 32 → be32_at place bytes ≡ n
unfolding be32_at
four_here place bytes front more n split len small =
    let behind : drop place bytes ≡ to_be_bytes w32 n ++ more = ap (λ (l : List ℕ). drop place l) split ∙ drop_at front (to_be_bytes w32 n ++ more) place len in
    ap (λ (l : List ℕ). from_be_bytes w32 (take 4 l)) behind ∙ from_be_bytes-to_be_bytes_4 n small

eight_here : (place : ℕ) (bytes front more : List ℕ) (n : ℕ) → bytes ≡ front ++ (to_be_bytes w64 n ++ more) → length front ≡ place → n < 2 ^ 64 → be64_at place bytes ≡ n
unfolding be64_at
eight_here place bytes front more n split len small =
    let behind : drop place bytes ≡ to_be_bytes w64 n ++ more = ap (λ (l : List ℕ). drop place l) split ∙ drop_at front (to_be_bytes w64 n ++ more) place len in
    ap (λ (l : List ℕ). from_be_bytes w64 (take 8 l)) behind ∙ from_be_bytes-to_be_bytes_8 n small

-- in a snapshot each data page behind the one before is left
abbrev pub Continues : List ℕ → ℕ → List PageWrite → Type 0
Continues bytes prev ws =
    stated_min bytes ≡ 1 → (n : ℕ) → prev < n → n ≤ stated_commit bytes → IsDataPage (stated_page_size bytes) n → IsSome (written ws n)

-- how far an encoding is sound: up to its k-th number, behind which these pages follow
pub record IsSoundTo (bytes : List ℕ) (prev k : ℕ) (ws : List PageWrite) (front more : List ℕ) : Type 0 where
  pub split : bytes ≡ front ++ (pages_encoding ws ++ (to_be_bytes w32 0 ++ more))
  pub place : length front ≡ number_place bytes k
  pub before : number_before bytes k ≡ prev
  pub pages : HasPages bytes k
  pub sound : IsSoundBefore bytes (number_place bytes k + 1)
  pub whole : AreWhole (stated_page_size bytes) prev ws
  pub within : All (λ (w : PageWrite). w.number ≤ stated_commit bytes) ws
  pub data_pages : All (λ (w : PageWrite). IsDataPage (stated_page_size bytes) w.number) ws
  pub continues : Continues bytes prev ws

-- what is known at the end of the block
pub record IsSoundToEnd (bytes : List ℕ) (k : ℕ) (front more : List ℕ) : Type 0 where
  pub split : bytes ≡ front ++ (to_be_bytes w32 0 ++ more)
  pub place : length front ≡ number_place bytes k
  pub pages : HasPages bytes k
  pub sound : IsSoundBefore bytes (number_place bytes k + 1)
  pub number : IsNextNumber bytes k
  pub ends : number_at bytes k ≡ 0

module _ (bytes : List ℕ) where
  end_here : (prev k : ℕ) (front more : List ℕ) → IsSoundTo bytes prev k [] front more → IsSoundToEnd bytes k front more
  end_here prev k front more h =
      let ends : number_at bytes k ≡ 0 = four_here (number_place bytes k) bytes front more 0 h.split h.place (omega arith) in
      let len : length bytes ≡ length front + length (to_be_bytes w32 0 ++ more) = ap length h.split ∙ length-append front (to_be_bytes w32 0 ++ more) in
      record {
        split = h.split;
        place = h.place;
        pages = h.pages;
        sound = h.sound;
        number = record {
          there = omega (arith, len, h.place);
          may = record {
            in_order = λ rule. rule.0 ends;
            in_range = λ rule. omega (arith, rule.0, ends);
            none_left_out = λ rule. elim rule.1 [
              | inl skips ↦ omega (arith, skips.0, ends)
              | inr early ↦
                  let size = stated_page_size bytes in
                  let next = data_page_after size prev in
                  let no : false ≡ true = h.continues rule.0 next (after-above size prev) (subst (λ (m : ℕ). data_page_after size m ≤ stated_commit bytes) h.before early.1) (after-data size prev) in
                  cc
            ];
          };
        };
        ends = ends;
      }

  -- a snapshot's next page is the next data page
  next_continues : (prev : ℕ) (w : PageWrite) (ws : List PageWrite) → prev < w.number → w.number ≤ stated_commit bytes → IsDataPage (stated_page_size bytes) w.number
      → AscendsAbove w.number ws → Continues bytes prev (w ∷ ws) → stated_min bytes ≡ 1 → w.number ≡ data_page_after (stated_page_size bytes) prev
  next_continues prev w ws above within data_page ascends continues snapshot =
      let size = stated_page_size bytes in
      let next = data_page_after size prev in
      let low : next ≤ w.number = after-least size prev w.number above data_page in
      let some : IsSome (written (w ∷ ws) next) = continues snapshot next (after-above size prev) (omega (arith, low, within)) (after-data size prev) in
      omega (arith, low, first-written next w ws ascends some)

  rest_continues : (prev : ℕ) (w : PageWrite) (ws : List PageWrite) → prev < w.number → Continues bytes prev (w ∷ ws) → Continues bytes w.number ws
  rest_continues prev w ws above continues snapshot n behind within data_page =
      let differs : n ≢ w.number = λ same. omega (arith, same, behind) in
      subst (λ (o : Option (List ℕ)). IsSome o) (written-other w ws n differs) (continues snapshot n (omega (arith, above, behind)) within data_page)

  page_here : (prev k : ℕ) (w : PageWrite) (ws : List PageWrite) (front more : List ℕ) → IsSoundTo bytes prev k (w ∷ ws) front more
      → (number_at bytes k ≡ w.number) × (page_in bytes k ≡ w.bytes) × IsSoundTo bytes w.number (k + 1) ws (front ++ to_be_bytes w32 w.number ++ w.bytes) more
  page_here prev k w ws front more h =
      let behind : List ℕ = pages_encoding ws ++ (to_be_bytes w32 0 ++ more) in
      let size : length w.bytes ≡ stated_page_size bytes = All-head (λ (v : PageWrite). length v.bytes ≡ stated_page_size bytes) w ws h.whole.whole in
      let small : w.number < 2 ^ 32 = All-head (λ (v : PageWrite). v.number < 2 ^ 32) w ws h.whole.small in
      let at_number : bytes ≡ front ++ (to_be_bytes w32 w.number ++ (w.bytes ++ behind)) =
      h.split ∙ ap (λ (l : List ℕ). front ++ (to_be_bytes w32 w.number ++ l)) (append_assoc w.bytes (pages_encoding ws) (to_be_bytes w32 0 ++ more)) in
      let at_page : bytes ≡ (front ++ to_be_bytes w32 w.number) ++ (w.bytes ++ behind) =
      at_number ∙ sym (append_assoc front (to_be_bytes w32 w.number) (w.bytes ++ behind)) in
      let after : bytes ≡ (front ++ to_be_bytes w32 w.number ++ w.bytes) ++ behind =
      at_page ∙ sym (append_assoc (front ++ to_be_bytes w32 w.number) w.bytes behind) in
      let number : number_at bytes k ≡ w.number = four_here (number_place bytes k) bytes front (w.bytes ++ behind) w.number at_number h.place small in
      let page_place : length (front ++ to_be_bytes w32 w.number) ≡ number_place bytes k + 4 =
      length-append front (to_be_bytes w32 w.number) ∙ ap (λ (n : ℕ). n + 4) h.place in
      let page : page_in bytes k ≡ w.bytes =
      ap (λ (l : List ℕ). take (stated_page_size bytes) l) (ap (λ (l : List ℕ). drop (number_place bytes k + 4) l) at_page ∙ drop_at (front ++ to_be_bytes w32 w.number) (w.bytes ++ behind) (number_place bytes k + 4) page_place)
      ∙ take_at w.bytes behind (stated_page_size bytes) size in
      let next_at : length (front ++ to_be_bytes w32 w.number ++ w.bytes) ≡ number_place bytes (k + 1) =
      let both = length-append (front ++ to_be_bytes w32 w.number) w.bytes in
      omega (arith, both, page_place, size, next_place bytes k) in
      let len : length bytes ≡ length (front ++ to_be_bytes w32 w.number ++ w.bytes) + length behind =
      ap length after ∙ length-append (front ++ to_be_bytes w32 w.number ++ w.bytes) behind in
      let room : number_place bytes (k + 1) ≤ length bytes = omega (arith, len, next_at) in
      let above : prev < w.number = h.whole.ascends.0 in
      let more_pages : number_at bytes k ≢ 0 = λ zero-is. omega (arith, number, zero-is, above) in
      let within : w.number ≤ stated_commit bytes = All-head (λ (v : PageWrite). v.number ≤ stated_commit bytes) w ws h.within in
      let data_page : IsDataPage (stated_page_size bytes) w.number = All-head (λ (v : PageWrite). IsDataPage (stated_page_size bytes) v.number) w ws h.data_pages in
      let may_follow : MayFollow (header_in bytes) prev w.number = record {
        in_order = λ rule. omega (arith, rule.1, above);
        in_range = λ rule. elim rule.1 [ inl past ↦ omega (arith, past, within) | inr lock ↦ data_page lock ];
        none_left_out = λ rule. elim rule.1 [
          | inl skips ↦ skips.3 (next_continues prev w ws above within data_page h.whole.ascends.1 h.continues rule.0)
          | inr early ↦ omega (arith, early.0, above)
        ];
      } in
      let next_number : IsNextNumber bytes k = record {
        there = omega (arith, room, next_place bytes k);
        may = subst (λ (m : ℕ). MayFollow (header_in bytes) m (number_at bytes k)) (sym h.before) (subst (λ (m : ℕ). MayFollow (header_in bytes) prev m) (sym number) may_follow);
      } in (
        number,
        page,
        record {
          split = after;
          place = next_at;
          before = before_more bytes k ∙ number;
          pages = below_more (λ j. number_at bytes j ≢ 0) k h.pages more_pages;
          sound = past_page bytes k h.pages h.sound next_number more_pages room;
          whole = tail_whole (stated_page_size bytes) prev w ws h.whole;
          within = All-tail (λ (v : PageWrite). v.number ≤ stated_commit bytes) w ws h.within;
          data_pages = All-tail (λ (v : PageWrite). IsDataPage (stated_page_size bytes) v.number) w ws h.data_pages;
          continues = rest_continues prev w ws above h.continues;
        },
      )

  same_write : (m n : ℕ) (p q : List ℕ) → m ≡ n → p ≡ q → (let v : PageWrite = record { number = m; bytes = p } in v) ≡ record { number = n; bytes = q }
  same_write m n p q numbers pages = cc

  -- to the end of the block, and the pages on the way
  pub walk : (ws : List PageWrite) (prev k : ℕ) (front more : List ℕ) → IsSoundTo bytes prev k ws front more
      → (end : ℕ) × (end ≡ k + length ws) × (map (write_in bytes) (range_with_len k (length ws)) ≡ ws) × ((reached : List ℕ) × IsSoundToEnd bytes end reached more)
  walk [] prev k front more h = (k, omega arith, refl, (front, end_here prev k front more h))
  walk (w ∷ ws) prev k front more h =
      let here = page_here prev k w ws front more h in
      let there = walk ws w.number (k + 1) (front ++ to_be_bytes w32 w.number ++ w.bytes) more here.2 in
      (there.0, omega (arith, there.1), ap (λ (v : PageWrite). v ∷ map (write_in bytes) (range_with_len (k + 1) (length ws))) (same_write (number_at bytes k) w.number (page_in bytes k) w.bytes here.0 here.1) ∙ ap (λ (l : List PageWrite). w ∷ l) there.2, there.3)

AreBytes-front : (front rest : List ℕ) → AreBytes (front ++ rest) → AreBytes front
AreBytes-front front rest fits i =
    elim (cases_lt i (length front)) [
      | inl lt ↦ subst (λ (n : ℕ). n < 256) (get_or_append_left front rest 0 i lt) (fits i)
      | inr le ↦ rw (get_or_past front i 0 le) (omega arith)
    ]

-- the sum of bytes has 64 bits
file_sum_fits : (bytes : List ℕ) → AreBytes bytes → file_sum bytes < 2 ^ 64
file_sum_fits bytes fits = flagged_fits (crc bytes) (crc_fits bytes fits)

-- an encoding and what follows it, as bytes
module _ (file : Ltx) (reserved rest bytes : List ℕ) (valid : IsFile file) (reserved_room : length reserved ≡ 20)
    (whole : bytes ≡ file_encoding file reserved ++ rest) (fits : AreBytes bytes) where
  pub split : bytes ≡ header_encoding file.header reserved ++ (pages_encoding file.change.pages ++ (to_be_bytes w32 0 ++ (to_be_bytes w64 file.post ++ (to_be_bytes w64 (file_sum (summed_encoding file reserved)) ++ rest))))
  split = whole ∙ parts file reserved rest

  pub header_is : header_in bytes ≡ file.header
  header_is = ap header_in split ∙ header_again file.header reserved
      (pages_encoding file.change.pages ++ (to_be_bytes w32 0 ++ (to_be_bytes w64 file.post ++ (to_be_bytes w64 (file_sum (summed_encoding file reserved)) ++ rest)))) valid.header.widths

  page_size_is : stated_page_size bytes ≡ file.header.page_size
  page_size_is = ap (λ (h : Header). h.page_size) header_is

  commit_is : stated_commit bytes ≡ file.header.commit
  commit_is = ap (λ (h : Header). h.commit) header_is

  min_is : stated_min bytes ≡ file.header.min
  min_is = ap (λ (h : Header). h.min) header_is

  flags_are : (rest' : List ℕ) → stated_flags (header_encoding file.header reserved ++ rest') ≡ 0
  unfolding be32_at
  flags_are rest' = refl

  fields_sound : HasSoundFields bytes 100
  fields_sound = record {
    magic_is = λ _. ap (λ (l : List ℕ). take 4 l) split;
    flags = λ _. ap (λ (l : List ℕ). stated_flags l) split ∙ flags_are _;
    page_size = λ _. rw page_size_is valid.header.page_size;
    commit = λ _. rw (page_size_is, commit_is) valid.header.commit;
    min = λ _. rw min_is valid.header.min;
    max = λ _. rw (min_is, ap (λ (h : Header). h.max) header_is) valid.header.max;
    snapshot_pre = λ _ snapshot. ap (λ (h : Header). h.pre) header_is ∙ valid.header.snapshot_pre (sym min_is ∙ snapshot);
    delta_pre = λ _ delta. rw (ap (λ (h : Header). h.pre) header_is) (valid.header.delta_pre (λ one. delta (min_is ∙ one)));
  }

  -- the encoding is sound up to the block
  pub to_block : IsSoundTo bytes 0 0 file.change.pages (header_encoding file.header reserved) (to_be_bytes w64 file.post ++ (to_be_bytes w64 (file_sum (summed_encoding file reserved)) ++ rest))
  to_block =
      let head : length (header_encoding file.header reserved) ≡ 100 = header_length file.header reserved reserved_room in
      let first : number_place bytes 0 ≡ 100 = omega arith in
      let len : length bytes ≡ length (header_encoding file.header reserved) + length (pages_encoding file.change.pages ++ (to_be_bytes w32 0 ++ (to_be_bytes w64 file.post ++ (to_be_bytes w64 (file_sum (summed_encoding file reserved)) ++ rest)))) =
      ap length split ∙ length-append (header_encoding file.header reserved) _ in
      let room : 100 ≤ length bytes = omega (arith, len, head) in
      let before : IsSoundBefore bytes 101 = sound_fields bytes 100 fields_sound (omega arith) room in
      let start : 101 ≡ number_place bytes 0 + 1 = omega arith in
      record {
        split = split;
        place = head ∙ sym first;
        before = refl;
        pages = λ j below. absurd (omega (arith, below));
        sound = subst (λ (n : ℕ). IsSoundBefore bytes n) start before;
        whole = subst (λ (n : ℕ). AreWhole n 0 file.change.pages) (sym page_size_is) (file_whole file valid);
        within = All-weaker (λ (w : PageWrite). w.number ≤ file.change.commit) (λ (w : PageWrite). w.number ≤ stated_commit bytes)
            (λ (w : PageWrite) (le : w.number ≤ file.change.commit). omega (arith, le, commit_is, valid.block.commit)) file.change.pages valid.block.pages.within;
        data_pages = subst (λ (size : ℕ). All (λ (w : PageWrite). IsDataPage size w.number) file.change.pages) (valid.block.page_size ∙ sym page_size_is) valid.block.pages.data_pages;
        continues = λ snapshot n above within data_page. valid.block.snapshot_pages (sym min_is ∙ snapshot) n (omega (arith, above)) (omega (arith, within, commit_is, valid.block.commit))
            (subst (λ (size : ℕ). IsDataPage size n) (page_size_is ∙ sym valid.block.page_size) data_page);
      }

  -- where the block of the encoding ends, and the pages in it
  pub ends_at : (k : ℕ) × (k ≡ length file.change.pages) × HasBlock bytes k × (length (file_encoding file reserved) ≡ number_place bytes k + 20) × (writes_in bytes k ≡ file.change.pages)
      × (be64_at (number_place bytes k + 4) bytes ≡ file.post)
  ends_at =
      let post_encoding : List ℕ = to_be_bytes w64 file.post in
      let seal : List ℕ = to_be_bytes w64 (file_sum (summed_encoding file reserved)) in
      let front : List ℕ = header_encoding file.header reserved ++ pages_encoding file.change.pages in
      let walked = walk bytes file.change.pages 0 0 (header_encoding file.header reserved) (post_encoding ++ (seal ++ rest)) to_block in
      let k = walked.0 in
      let e = walked.3.1 in
      let end_is : k ≡ length file.change.pages = omega (arith, walked.1) in
      let front_split : bytes ≡ front ++ (to_be_bytes w32 0 ++ (post_encoding ++ (seal ++ rest))) =
      split ∙ sym (append_assoc (header_encoding file.header reserved) (pages_encoding file.change.pages) (to_be_bytes w32 0 ++ (post_encoding ++ (seal ++ rest)))) in
      let same_front : walked.3.0 ≡ front = append_cancel_right walked.3.0 front (to_be_bytes w32 0 ++ (post_encoding ++ (seal ++ rest))) (sym e.split ∙ front_split) in
      let front_place : length front ≡ number_place bytes k = ap length (sym same_front) ∙ e.place in
      let encoding_length : length (file_encoding file reserved) ≡ number_place bytes k + 20 =
      omega (
        arith,
        front_place,
        length-append front (to_be_bytes w32 0),
        length-append (front ++ to_be_bytes w32 0) post_encoding,
        length-append (summed_encoding file reserved) seal,
      ) in
      let post_place : length (front ++ to_be_bytes w32 0) ≡ number_place bytes k + 4 = length-append front (to_be_bytes w32 0) ∙ ap (λ (n : ℕ). n + 4) front_place in
      let post_split : bytes ≡ (front ++ to_be_bytes w32 0) ++ (post_encoding ++ (seal ++ rest)) =
      front_split ∙ sym (append_assoc front (to_be_bytes w32 0) (post_encoding ++ (seal ++ rest))) in
      let post_is : be64_at (number_place bytes k + 4) bytes ≡ file.post =
      eight_here (number_place bytes k + 4) bytes (front ++ to_be_bytes w32 0) (seal ++ rest) file.post post_split post_place valid.post.width in
      (k, end_is, record { pages = e.pages; ends = e.ends; there = e.number.there }, encoding_length, ap (λ (n : ℕ). writes_in bytes n) end_is ∙ walked.2, post_is)

  -- what breaks a rule stands behind the encoding
  breaks_behind : (f : LtxFault) (q : ℕ) → IsBroken bytes f q → (f ≡ fault.Tail) × (length (file_encoding file reserved) < q)
  breaks_behind f q broken =
      let post_encoding : List ℕ = to_be_bytes w64 file.post in
      let seal : List ℕ = to_be_bytes w64 (file_sum (summed_encoding file reserved)) in
      let front : List ℕ = header_encoding file.header reserved ++ pages_encoding file.change.pages in
      let walked = walk bytes file.change.pages 0 0 (header_encoding file.header reserved) (to_be_bytes w64 file.post ++ (to_be_bytes w64 (file_sum (summed_encoding file reserved)) ++ rest)) to_block in
      let k = walked.0 in
      let e = walked.3.1 in
      let place = number_place bytes k in
      let front_split : bytes ≡ front ++ (to_be_bytes w32 0 ++ (post_encoding ++ (seal ++ rest))) =
      split ∙ sym (append_assoc (header_encoding file.header reserved) (pages_encoding file.change.pages) (to_be_bytes w32 0 ++ (post_encoding ++ (seal ++ rest)))) in
      let same_front : walked.3.0 ≡ front = append_cancel_right walked.3.0 front (to_be_bytes w32 0 ++ (post_encoding ++ (seal ++ rest))) (sym e.split ∙ front_split) in
      let front_place : length front ≡ place = ap length (sym same_front) ∙ e.place in
      let post_place : length (front ++ to_be_bytes w32 0) ≡ place + 4 = length-append front (to_be_bytes w32 0) ∙ ap (λ (n : ℕ). n + 4) front_place in
      let post_split : bytes ≡ (front ++ to_be_bytes w32 0) ++ (post_encoding ++ (seal ++ rest)) =
      front_split ∙ sym (append_assoc front (to_be_bytes w32 0) (post_encoding ++ (seal ++ rest))) in
      let post_is : be64_at (place + 4) bytes ≡ file.post = eight_here (place + 4) bytes (front ++ to_be_bytes w32 0) (seal ++ rest) file.post post_split post_place valid.post.width in
      let seal_place : length (summed_encoding file reserved) ≡ place + 12 =
      let both = length-append (front ++ to_be_bytes w32 0) post_encoding in
      omega (arith, both, post_place) in
      let seal_split : bytes ≡ summed_encoding file reserved ++ (seal ++ rest) =
      post_split ∙ sym (append_assoc (front ++ to_be_bytes w32 0) post_encoding (seal ++ rest)) in
      let summed_fits : AreBytes (summed_encoding file reserved) = AreBytes-front (summed_encoding file reserved) (seal ++ rest) (subst AreBytes seal_split fits) in
      let seal_is : be64_at (place + 12) bytes ≡ file_sum (summed_encoding file reserved) =
      eight_here (place + 12) bytes (summed_encoding file reserved) rest (file_sum (summed_encoding file reserved)) seal_split seal_place (file_sum_fits (summed_encoding file reserved) summed_fits) in
      let summed : take (place + 12) bytes ≡ summed_encoding file reserved =
      ap (λ (l : List ℕ). take (place + 12) l) seal_split ∙ take_at (summed_encoding file reserved) (seal ++ rest) (place + 12) seal_place in
      let end_is : k ≡ length file.change.pages = omega (arith, walked.1) in
      let writes : writes_in bytes k ≡ file.change.pages = ap (λ (n : ℕ). writes_in bytes n) end_is ∙ walked.2 in
      let right : IsWrongSum bytes k (be64_at (place + 4) bytes) → ⊥ = λ (wrong : IsWrongSum bytes k (be64_at (place + 4) bytes)). elim wrong [
        | inl low ↦ omega (arith, low, post_is, valid.post.flagged)
        | inr other ↦ elim other [
          | inl empty ↦ empty.1 (post_is ∙ valid.post.empty (sym commit_is ∙ empty.0))
          | inr snapshot ↦ snapshot.1 (post_is ∙ valid.post.snapshot (sym min_is ∙ snapshot.0) ∙ ap sum_of_writes (sym writes))
        ]
      ] in
      let len : length bytes ≡ length (summed_encoding file reserved) + length (seal ++ rest) = ap length seal_split ∙ length-append (summed_encoding file reserved) (seal ++ rest) in
      let room : place + 20 ≤ length bytes = omega (arith, len, seal_place) in
      let found = only_tail bytes k e.pages e.sound e.number e.ends right room (seal_is ∙ ap file_sum (sym summed)) f q broken in
      let encoding_length : length (file_encoding file reserved) ≡ place + 20 = length-append (summed_encoding file reserved) seal ∙ ap (λ (n : ℕ). n + 8) seal_place ∙ omega arith in
      (found.0, omega (arith, found.1, encoding_length))

-- the encoding of a file breaks no rule
pub encoding_sound : (encoding rest : List ℕ) (file : Ltx) (f : LtxFault) (place : ℕ) → AreBytes (encoding ++ rest) → IsLtx encoding file
    → IsBroken (encoding ++ rest) f place → (f ≡ fault.Tail) × (length encoding < place)
encoding_sound encoding rest file f place fits is broken =
    let found = breaks_behind file is.reserved rest (encoding ++ rest) is.valid is.room (ap (λ (l : List ℕ). l ++ rest) is.encoding) fits f place broken in
    (found.0, omega (arith, found.1, ap length is.encoding))

-- bytes behind the encoding of a file are its tail
pub behind_file : (encoding rest : List ℕ) (file : Ltx) → AreBytes (encoding ++ rest) → IsLtx encoding file → 0 < length rest → IsEarliest (encoding ++ rest) fault.Tail
behind_file encoding rest file fits is some =
    let end = ends_at file is.reserved rest (encoding ++ rest) is.valid is.room (ap (λ (l : List ℕ). l ++ rest) is.encoding) fits in
    let long : length encoding ≡ number_place (encoding ++ rest) end.0 + 20 = ap length is.encoding ∙ end.3 in
    record {
      place = length encoding + 1;
      broken = record { breaks = (end.0, end.2, omega (arith, long)); there = omega (arith, some, length-append encoding rest) };
      earliest = λ f q broken. omega (arith, (encoding_sound encoding rest file f q fits is broken).1);
    }
