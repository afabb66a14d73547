-- A page number, and a page, that come in pieces.
use Rattle.std.proofs.Common.{◌≡◌, ◌≢◌, ℕ, ◌+◌, ◌<◌, ◌≤◌, Bool, true, false, cond, List, [], ◌∷◌, ◌++◌, length, take, drop, arith, refl, sym, ap, subst, inl, inr, ◌∙◌, length-append, add-zero}
use Rattle.std.specs.Prelude.{bit_xor}
use Rattle.std.specs.Int.Bits.{xor_assoc}
use Rattle.std.proofs.lemmas.Nat.{xor_comm}
use Rattle.std.proofs.lemmas.Bool.{cases_lt}
use Rattle.std.proofs.lemmas.List.{take_all, drop_all, length-drop, drop-drop, take-append-drop}
use Rattle.page_checksum.specs.Crc.{after_bytes, all_ones}
use Rattle.page_checksum.specs.Sums.{page_sum_of}
use Rattle.page_checksum.proofs.CrcLemmas.{after_bytes-append}
use Rattle.lf_sqlite_pages.specs.LockPage.{IsDataPage}
use Rattle.lf_sqlite_pages.specs.Change.{PageChange, IsChange, with_page}
use Rattle.lf_sqlite_pages.specs.declared.page_write.PageWrite.{PageWrite}
use Rattle.lf_sqlite_pages.proofs.Changes.{IsChange-push, FitsAtEnd}
use Rattle.ltx_codec.specs.Fields.{AreBytes, stated_page_size, stated_min, header_in}
use Rattle.ltx_codec.specs.Sums.{joined_sums}
use Rattle.ltx_codec.specs.Places.{number_place, number_at, number_before, page_in}
use Rattle.ltx_codec.specs.Block.{HoldsPages, IsRead, IsNextNumber}
use Rattle.ltx_codec.specs.Decoding.{HasFed, held_part, ShowsPage, IsRefusedWithin}
use Rattle.ltx_codec.specs.steps.Feeding.{HasPagesOf, HasNumber}
use Rattle.ltx_codec.specs.declared.decoder.Decoder.{Decoder}
use Rattle.ltx_codec.specs.declared.header.Header.{Header}
use Rattle.ltx_codec.specs.declared.fault.LtxFault.{LtxFault}
use Rattle.ltx_codec.specs.Numbering.{MayFollow, BreaksNumbering}
use Rattle.ltx_codec.proofs.NumberLemmas.{IsKth, number_sound, number_refused, numbering_found}
use Rattle.ltx_codec.proofs.BlockLemmas.{next_place, short_number, short_page}
use Rattle.ltx_codec.proofs.DataPages.{follows-above, follows-within, follows-data}
use Rattle.ltx_codec.proofs.EncodingLemmas.{before_more, AreBytes-drop}
use Rattle.ltx_codec.proofs.ReadLemmas.{read_next}
use Rattle.ltx_codec.proofs.FeedLemmas.{Stays, piece_rest, told_part}
use Rattle.ltx_codec.proofs.PieceLemmas.{Grows, held_untold, pages_longer, pages_of, fed_of, held_length, held_is_rest, next_longer, number_kept, four_rest}
use Rattle.ltx_codec.proofs.HeaderLemmas.{within_not_past}
use Rattle.lf_base.specs.Endian.{be32_at}

-- less than a number is held
pub number_goes_on : (old new : Decoder) (limit : ℕ) (encoding more : List ℕ) → HasFed old limit encoding → old.in_block ≡ true → Grows old new more → AreBytes more
    → length new.held.items < 4 → HasFed new limit (encoding ++ more)
number_goes_on old new limit encoding more fed stage grows fits few =
    let p = pages_of old limit encoding fed stage in
    let has = pages_longer old new limit encoding more p.0 p.1 grows fits in
    let k = length p.0.pages in
    let read = has.block.read in
    let len = held_length new limit (encoding ++ more) p.0 has (grows.told ∙ grows.untold) in
    fed_of new limit (encoding ++ more) p.0 has
    (record { page = λ there more. absurd (omega (arith, there, len, few)); end = λ there ends. absurd (omega (arith, there, len, few)) })
    (short_number (encoding ++ more) k read.pages read.sound (omega (arith, len, few)) read.there)

-- the number is held, and more of its part comes
pub number_longer : (old new : Decoder) (limit : ℕ) (encoding more : List ℕ) (change : PageChange) (number : ℕ) → HasNumber old limit encoding change number → Grows old new more → AreBytes more
    → HasNumber new limit (encoding ++ more) change number
number_longer old new limit encoding more change number has grows fits =
    let k = length change.pages in
    let read = has.feeding.block.read in record {
      feeding = pages_longer old new limit encoding more change has.feeding grows fits;
      sound = next_longer encoding more change k read has.sound;
      number_is = has.number_is ∙ number_kept encoding more read.header k has.sound.there;
    }

-- less than a page is held behind its number
pub page_goes_on : (d : Decoder) (limit : ℕ) (encoding : List ℕ) (change : PageChange) (number : ℕ) → HasNumber d limit encoding change number → number ≢ 0 → d.told ≡ false
    → length d.held.items < 4 + d.header.page_size → HasFed d limit encoding
page_goes_on d limit encoding change number has some untold few =
    let k = length change.pages in
    let read = has.feeding.block.read in
    let size : d.header.page_size ≡ stated_page_size encoding = ap (λ (h : Header). h.page_size) has.feeding.block.header in
    let len = held_length d limit encoding change has.feeding untold in
    let held : length (held_part d) ≡ length d.held.items = ap length (held_untold d untold) in
    fed_of d limit encoding change has.feeding
    (record { page = λ there more. omega (arith, held, few, size); end = λ there ends. absurd (some (has.number_is ∙ ends)) })
    (short_page encoding k read.pages read.sound has.sound (λ zero. some (has.number_is ∙ zero)) (omega (arith, len, few, size, next_place encoding k)))

-- the sums of pages and of one more
sums_more : (ws : List PageWrite) (w : PageWrite) → joined_sums (ws ++ w ∷ []) ≡ bit_xor (joined_sums ws) (page_sum_of w.number w.bytes)
sums_more [] w = xor_comm (page_sum_of w.number w.bytes) 0
sums_more (v ∷ ws) w =
    ap (λ (s : ℕ). bit_xor (page_sum_of v.number v.bytes) s) (sums_more ws w)
    ∙ sym (xor_assoc (page_sum_of v.number v.bytes) (joined_sums ws) (page_sum_of w.number w.bytes))

-- one more page in the change
pub page_valid : (change : PageChange) (number : ℕ) (page : List ℕ) → IsChange change → FitsAtEnd change (record { number = number; bytes = page }) → IsChange (with_page change number page)
page_valid change number page valid fits = IsChange-push change change (record { number = number; bytes = page }) (change.pages ++ record { number = number; bytes = page } ∷ []) valid refl fits refl

-- the next page of the block goes to the end of the change
pub fits_next : (encoding : List ℕ) (change : PageChange) (number : ℕ) (page : List ℕ) → HoldsPages encoding change (length change.pages) → IsNextNumber encoding (length change.pages)
    → number ≡ number_at encoding (length change.pages) → number ≢ 0 → length page ≡ change.page_size → FitsAtEnd change (record { number = number; bytes = page })
fits_next encoding change number page holds next is some whole =
    let k = length change.pages in
    let some_at : number_at encoding k ≢ 0 = λ zero. some (is ∙ zero) in
    record {
      above = omega (arith, holds.last, is, follows-above (header_in encoding) (number_before encoding k) (number_at encoding k) next.may some_at);
      within = omega (arith, holds.commit, is, follows-within (header_in encoding) (number_before encoding k) (number_at encoding k) next.may some_at);
      holds_data = subst (λ (n : ℕ). IsDataPage change.page_size n) (sym is)
          (subst (λ (size : ℕ). IsDataPage size (number_at encoding k)) (sym holds.page_size) (follows-data (header_in encoding) (number_before encoding k) (number_at encoding k) next.may some_at));
      whole = whole;
    }

-- what is left and what is taken when a page is whole
pub record TakesPage (old new : Decoder) (number : ℕ) : Type 0 where
  pub stays : Stays old new
  pub stage : new.in_block ≡ old.in_block
  pub header : new.header ≡ old.header
  pub held : new.held.items ≡ old.held.items
  pub number_is : new.number ≡ number
  pub told : new.told ≡ true
  pub register : new.register ≡ after_bytes old.register old.held.items
  pub sums : old.header.min ≡ 1 → new.sums ≡ bit_xor old.sums (page_sum_of number (drop 4 old.held.items))

module _ (old new : Decoder) (limit : ℕ) (encoding : List ℕ) (change : PageChange) (number : ℕ) (has : HasNumber old limit encoding change number) (some : number ≢ 0)
    (untold : old.told ≡ false) (whole : length old.held.items ≡ 4 + old.header.page_size) (takes : TakesPage old new number) where
  size_is : old.header.page_size ≡ stated_page_size encoding
  size_is = ap (λ (h : Header). h.page_size) has.feeding.block.header

  ends_at : length encoding ≡ number_place encoding (length change.pages + 1)
  ends_at = omega (arith, held_length old limit encoding change has.feeding untold, whole, size_is, next_place encoding (length change.pages))

  page_is : drop 4 old.held.items ≡ page_in encoding (length change.pages)
  page_is =
      let at = number_place encoding (length change.pages) in
      let rest : drop 4 old.held.items ≡ drop (at + 4) encoding = ap (λ (d : List ℕ). drop 4 d) (held_is_rest old limit encoding change has.feeding untold) ∙ drop-drop 4 at encoding in
      rest ∙ sym (take_all (stated_page_size encoding) (drop (at + 4) encoding) (omega (arith, length-drop (at + 4) encoding, ends_at, next_place encoding (length change.pages))))

  page_length : length (drop 4 old.held.items) ≡ stated_page_size encoding
  page_length = omega (arith, length-drop 4 old.held.items, whole, size_is)

  count : length (with_page change number (drop 4 old.held.items)).pages ≡ length change.pages + 1
  count = length-append change.pages (record { number = number; bytes = drop 4 old.held.items } ∷ [])

  read_more : IsRead encoding (with_page change number (drop 4 old.held.items)) (length change.pages + 1)
  read_more = read_next encoding change (length change.pages) number (drop 4 old.held.items) has.feeding.block.read has.sound has.number_is some page_is (omega (arith, ends_at))

  register_is : new.register ≡ after_bytes all_ones encoding
  register_is =
      let at = number_place encoding (length change.pages) in
      takes.register
      ∙ ap (λ (r : ℕ). after_bytes r old.held.items) has.feeding.block.register
      ∙ sym (after_bytes-append all_ones (take at encoding) old.held.items)
      ∙ ap (λ (d : List ℕ). after_bytes all_ones (take at encoding ++ d)) (held_is_rest old limit encoding change has.feeding untold)
      ∙ ap (after_bytes all_ones) (take-append-drop at encoding)

  sums_is : stated_min encoding ≡ 1 → new.sums ≡ joined_sums (with_page change number (drop 4 old.held.items)).pages
  sums_is snapshot =
      takes.sums (ap (λ (h : Header). h.min) has.feeding.block.header ∙ snapshot)
      ∙ ap (λ (s : ℕ). bit_xor s (page_sum_of number (drop 4 old.held.items))) (has.feeding.block.sums snapshot)
      ∙ sym (sums_more change.pages (record { number = number; bytes = drop 4 old.held.items }))

  valid_more : IsChange (with_page change number (drop 4 old.held.items))
  valid_more =
      let holds = has.feeding.block.read.holds in
      page_valid change number (drop 4 old.held.items) has.feeding.block.valid
      (fits_next encoding change number (drop 4 old.held.items) holds has.sound has.number_is some (page_length ∙ sym holds.page_size))

  pub page_ends : ShowsPage new limit number encoding
  page_ends =
      let read = read_more in
      let end = ends_at in
      record {
        index = length change.pages;
        pages = read.pages;
        ends = end;
        number_is = has.number_is;
        shown = ap (λ (d : List ℕ). drop 4 d) takes.held ∙ page_is;
        header = takes.header ∙ has.feeding.block.header;
        fed = fed_of new limit encoding (with_page change number (drop 4 old.held.items)) (record {
          octets = has.feeding.octets;
          sound = takes.stays.fault ∙ has.feeding.sound;
          limit_is = takes.stays.limit ∙ has.feeding.limit_is;
          within = has.feeding.within;
          block = record {
            stage = takes.stage ∙ has.feeding.block.stage;
            valid = valid_more;
            read = subst (λ (j : ℕ). IsRead encoding (with_page change number (drop 4 old.held.items)) j) (sym count) read;
            header = takes.header ∙ has.feeding.block.header;
            number = takes.number_is ∙ has.number_is ∙ sym (before_more encoding (length change.pages)) ∙ ap (number_before encoding) (sym count);
            held = ap (λ (b : Bool). cond b [] new.held.items) takes.told
                ∙ sym (ap (λ (j : ℕ). drop (number_place encoding j) encoding) count ∙ drop_all (number_place encoding (length change.pages + 1)) encoding (omega (arith, end)));
            register = register_is ∙ ap (after_bytes all_ones) (sym (ap (λ (j : ℕ). take (number_place encoding j) encoding) count ∙ take_all (number_place encoding (length change.pages + 1)) encoding (omega (arith, end))));
            sums = sums_is;
          };
        }) (told_part new encoding (length (with_page change number (drop 4 old.held.items)).pages) takes.told) (short_number encoding (length change.pages + 1) read.pages read.sound (omega (arith, end)) (omega (arith, end)));
      }

-- the piece ends in a page
pub page_more : (old new : Decoder) (limit : ℕ) (encoding piece : List ℕ) (first : ℕ) (change : PageChange) (number : ℕ) → HasNumber old limit (encoding ++ take first piece) change number → number ≢ 0
    → Grows old new (drop first piece) → AreBytes piece → length new.held.items < 4 + new.header.page_size → HasFed new limit (encoding ++ piece)
page_more old new limit encoding piece first change number has some grows fits few =
    let longer = number_longer old new limit (encoding ++ take first piece) (drop first piece) change number has grows (AreBytes-drop first piece fits) in
    subst (λ (t : List ℕ). HasFed new limit t) (piece_rest encoding piece first)
    (page_goes_on new limit ((encoding ++ take first piece) ++ drop first piece) change number longer some (grows.told ∙ grows.untold) few)

-- a number that is held
module _ (old new : Decoder) (limit : ℕ) (encoding more : List ℕ) (number : ℕ) (fed : HasFed old limit encoding) (stage : old.in_block ≡ true) (grows : Grows old new more) (fits : AreBytes more)
    (held : 4 ≤ length new.held.items) (number_is : number ≡ be32_at 0 new.held.items) where
  has_pages : HasPagesOf new limit (encoding ++ more) (pages_of old limit encoding fed stage).0
  has_pages = pages_longer old new limit encoding more (pages_of old limit encoding fed stage).0 (pages_of old limit encoding fed stage).1 grows fits

  pub kth : IsKth (encoding ++ more) (length (pages_of old limit encoding fed stage).0.pages) new.header new.number number
  kth =
      let has = has_pages in
      let at = number_place (encoding ++ more) (length (pages_of old limit encoding fed stage).0.pages) in
      record {
        header_is = has.block.header;
        before_is = has.block.number;
        number_is = number_is ∙ ap (be32_at 0) (held_is_rest new limit (encoding ++ more) (pages_of old limit encoding fed stage).0 has (grows.told ∙ grows.untold))
            ∙ four_rest at 0 (encoding ++ more) ∙ ap (λ (p : ℕ). be32_at p (encoding ++ more)) (add-zero at);
        there = omega (arith, held_length new limit (encoding ++ more) (pages_of old limit encoding fed stage).0 has (grows.told ∙ grows.untold), held);
      }

  pub number_held : MayFollow new.header new.number number → HasNumber new limit (encoding ++ more) (pages_of old limit encoding fed stage).0 number
  number_held may = record {
    feeding = has_pages;
    sound = number_sound (encoding ++ more) (length (pages_of old limit encoding fed stage).0.pages) new.header new.number number kth may;
    number_is = kth.number_is;
  }

  pub end_held : number ≡ 0 → MayFollow new.header new.number number → HasNumber new limit (encoding ++ more) (pages_of old limit encoding fed stage).0 0
  end_held ends may = subst (λ (n : ℕ). HasNumber new limit (encoding ++ more) (pages_of old limit encoding fed stage).0 n) ends (number_held may)

  pub number_refused_at : (f : LtxFault) → BreaksNumbering new.header new.number number f → IsRefusedWithin limit (encoding ++ more) f
  number_refused_at f rule =
      let read = has_pages.block.read in (
        numbering_found new.header new.number number f rule,
        inl (
          number_refused (encoding ++ more) (length (pages_of old limit encoding fed stage).0.pages) new.header new.number number kth read.pages read.sound f rule,
          within_not_past limit (encoding ++ more) has_pages.within,
        ),
      )

  -- how much is held with the number
  module _ (short : length old.held.items < 4 → length new.held.items ≤ 4) (none : 4 ≤ length old.held.items → length more ≡ 0) where
    old_place : 4 ≤ length old.held.items → number_place encoding (length (pages_of old limit encoding fed stage).0.pages) + 4 ≤ length encoding
    old_place enough = omega (arith, held_length old limit encoding (pages_of old limit encoding fed stage).0 (pages_of old limit encoding fed stage).1 grows.untold, enough)

    old_number : 4 ≤ length old.held.items → number_at encoding (length (pages_of old limit encoding fed stage).0.pages) ≡ number
    old_number enough =
        number_kept encoding more (pages_of old limit encoding fed stage).1.block.read.header (length (pages_of old limit encoding fed stage).0.pages) (old_place enough) ∙ sym kth.number_is

    old_held : length (held_part old) ≡ length old.held.items
    old_held = ap length (held_untold old grows.untold)

    new_held : length new.held.items ≡ length old.held.items + length more
    new_held = ap length grows.held ∙ length-append old.held.items more

    pub number_in_page : number ≢ 0 → (length new.held.items ≤ 4 + new.header.page_size) × (length new.held.items < length more + (4 + new.header.page_size))
    number_in_page some = elim (cases_lt (length old.held.items) 4) [
      | inl few ↦ (omega (arith, short few), omega (arith, few, new_held))
      | inr enough ↦
          let size : old.header.page_size ≡ stated_page_size encoding = ap (λ (h : Header). h.page_size) (pages_of old limit encoding fed stage).1.block.header in
          let size-new : new.header.page_size ≡ old.header.page_size = ap (λ (h : Header). h.page_size) grows.header in
          let part = (pages_of old limit encoding fed stage).2.page (old_place enough) (λ zero. some (sym (old_number enough) ∙ zero)) in
          (omega (arith, part, old_held, new_held, none enough, size, size-new), omega (arith, part, old_held, new_held, size, size-new))
    ]

    pub number_in_trailer : number ≡ 0 → (length new.held.items ≤ 20) × (length new.held.items < length more + (20))
    number_in_trailer ends = elim (cases_lt (length old.held.items) 4) [
      | inl few ↦ (omega (arith, short few), omega (arith, few, new_held))
      | inr enough ↦
          let part = (pages_of old limit encoding fed stage).2.end (old_place enough) (old_number enough ∙ ends) in
          (omega (arith, part, old_held, new_held, none enough), omega (arith, part, old_held, new_held))
    ]
