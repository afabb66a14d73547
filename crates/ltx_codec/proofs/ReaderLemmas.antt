-- The whole pages of an encoding that goes on by some bytes of a piece.
use Rattle.std.proofs.Common.{◌≡◌, ◌≢◌, ℕ, ◌+◌, ◌-◌, ◌<◌, ◌≤◌, List, [], ◌∷◌, ◌++◌, length, take, drop, arith, refl, sym, ap, subst, inl, inr, ◌∙◌, length-append}
use Rattle.std.proofs.lemmas.Bool.{cases_lt, cases_order}
use Rattle.std.proofs.lemmas.List.{length-take, length-drop, take_all}
use Rattle.lf_sqlite_pages.specs.PageSize.{IsPageSize, is_page_size}
use Rattle.lf_sqlite_pages.specs.Change.{PageChange, empty_change, with_page}
use Rattle.lf_sqlite_pages.proofs.Changes.{FitsAtEnd}
use Rattle.ltx_codec.specs.Fields.{AreBytes, stated_page_size, stated_commit}
use Rattle.ltx_codec.specs.Places.{IsBroken, IsEarliest, IsFound, HasPages, number_place, number_at, page_in}
use Rattle.ltx_codec.specs.Block.{HasHeader, IsRead, IsNextNumber}
use Rattle.ltx_codec.specs.Decoding.{HasFed, NoneEndsBefore, ShowsHeader, ShowsPage, IsRefusedWithin}
use Rattle.ltx_codec.specs.WholePages.{HoldsWholePages, HasTaken, largest_page}
use Rattle.ltx_codec.specs.declared.decoder.Decoder.{Decoder}
use Rattle.ltx_codec.specs.declared.fault.LtxFault.{LtxFault}
use Rattle.ltx_codec.specs.declared.fault.LtxFault.TheVariants as fault
use Rattle.ltx_codec.proofs.AgreeLemmas.{Agree, longer, turned, pages_same}
use Rattle.ltx_codec.proofs.BlockLemmas.{later_place, next_place}
use Rattle.ltx_codec.proofs.FeedLemmas.{read_none, none_valid}
use Rattle.ltx_codec.proofs.PageLemmas.{page_valid, fits_next}
use Rattle.ltx_codec.proofs.PartLemmas.{grown_length}
use Rattle.ltx_codec.proofs.PieceLemmas.{read_longer, place_kept, two_taken}
use Rattle.ltx_codec.proofs.ReadLemmas.{read_next}

-- an encoding of a hundred bytes has a header
pub whole_header : (d : Decoder) (limit : ℕ) (encoding : List ℕ) → HasFed d limit encoding → 100 ≤ length encoding → HasHeader encoding
whole_header d limit encoding fed long = elim fed.stage [
  | inl head ↦ absurd (omega (arith, long, head.short))
  | inr block ↦ block.1.read.header
]

-- a number meets its rules where bytes are only missing
next_number : (encoding : List ℕ) (k : ℕ) → IsEarliest encoding fault.Short → HasPages encoding k → number_place encoding k + 4 ≤ length encoding → IsNextNumber encoding k
next_number encoding k short pages there = record {
  there = there;
  may = record {
    in_order = λ rule. unbroken fault.PageOrder (record { breaks = (k, pages, refl, rule); there = there });
    in_range = λ rule. unbroken fault.PageRange (record { breaks = (k, pages, refl, rule); there = there });
    none_left_out = λ rule. unbroken fault.NotWhole (record { breaks = (k, pages, refl, rule); there = there });
  };
}
  where
    unbroken : (f : LtxFault) → IsBroken encoding f (number_place encoding k + 4) → ⊥
    unbroken f broken = omega (arith, short.earliest f (number_place encoding k + 4) broken, short.broken.breaks.0, there)

-- the encoding with some bytes of a piece begins as the encoding with fewer of them
fewer_taken : (encoding piece : List ℕ) (m n : ℕ) → m ≤ n → Agree (encoding ++ take n piece) (encoding ++ take m piece) (length (encoding ++ take m piece))
fewer_taken encoding piece m n le =
    let sum : m + (n - m) ≡ n = omega arith in
    let split : encoding ++ take n piece ≡ (encoding ++ take m piece) ++ take (n - m) (drop m piece) = ap (λ (i : ℕ). encoding ++ take i piece) (sym sum) ∙ two_taken encoding piece m (n - m) in
    subst (λ (t : List ℕ). Agree t (encoding ++ take m piece) (length (encoding ++ take m piece))) (sym split)
    (turned (encoding ++ take m piece) ((encoding ++ take m piece) ++ take (n - m) (drop m piece)) (length (encoding ++ take m piece)) (longer (encoding ++ take m piece) (take (n - m) (drop m piece))))

module _ (encoding piece : List ℕ) (n bound : ℕ) (within : n ≤ length piece) (none : NoneEndsBefore encoding piece bound) where
  -- the header was whole before the piece, if it does not end in it
  pub header_before : 100 ≤ length (encoding ++ take n piece) → 100 < length encoding + bound → 100 ≤ length encoding
  header_before long far = elim (cases_lt (length encoding) 100) [
    | inl few ↦
        let m = 100 - length encoding in
        let grown = grown_length encoding piece n within in
        absurd (none m (omega (arith, few)) (omega (arith, few, far)) (inl (omega (arith, few, long, grown, grown_length encoding piece m (omega (arith, few, long, grown))))))
    | inr enough ↦ enough
  ]

  -- no more pages are whole than before the piece
  pub none_whole : (change : PageChange) → HoldsWholePages encoding change → HasPages (encoding ++ take n piece) (length change.pages + 1)
      → number_place (encoding ++ take n piece) (length change.pages + 1) ≤ length (encoding ++ take n piece)
      → number_place (encoding ++ take n piece) (length change.pages + 1) < length encoding + bound → ⊥
  none_whole change holds pages room near =
      let k = length change.pages in
      let head = holds.read.header in
      let long : 100 ≤ length encoding = head.whole in
      let at = place_kept encoding (take n piece) head (k + 1) in
      let grown = grown_length encoding piece n within in
      elim (cases_lt (length encoding) (number_place encoding (k + 1))) [
        | inl behind ↦
            let m = number_place encoding (k + 1) - length encoding in
            let few : m ≤ n = omega (arith, behind, at, room, grown) in
            let grown-m = grown_length encoding piece m (omega (arith, few, within)) in
            let ends : length (encoding ++ take m piece) ≡ number_place encoding (k + 1) = omega (arith, grown-m, behind) in
            let fewer = pages_same (encoding ++ take n piece) (encoding ++ take m piece) (length (encoding ++ take m piece)) (fewer_taken encoding piece m n few) (omega (arith, ends)) (k + 1) (omega (arith, ends, at)) pages in
            none m (omega (arith, behind)) (omega (arith, behind, near, at)) (inr (k, fewer, ends ∙ place_kept encoding (take m piece) head (k + 1)))
        | inr before ↦
            let fewer = pages_same (encoding ++ take n piece) encoding (length encoding) (turned encoding (encoding ++ take n piece) (length encoding) (longer encoding (take n piece))) (omega (arith, long)) (k + 1) (omega (arith, before, at)) pages in
            omega (arith, holds.last fewer, before)
      ]

-- the piece ends in a part
pub whole_more : (change : PageChange) (encoding piece : List ℕ) → HoldsWholePages encoding change → AreBytes (encoding ++ piece) → NoneEndsBefore encoding piece (length piece + 1)
    → HoldsWholePages (encoding ++ piece) change
whole_more change encoding piece holds octets none =
    let all : take (length piece) piece ≡ piece = take_all (length piece) piece (omega arith) in
    let same : encoding ++ take (length piece) piece ≡ encoding ++ piece = ap (λ (l : List ℕ). encoding ++ l) all in
    let grown = length-append encoding piece in
    let k = length change.pages in
    record {
      valid = holds.valid;
      read = read_longer encoding piece change k holds.read octets;
      last = λ pages. elim (cases_lt (length (encoding ++ piece)) (number_place (encoding ++ piece) (k + 1))) [
        | inl less ↦ less
        | inr room ↦ absurd (none_whole encoding piece (length piece) (length piece + 1) (omega arith) none change holds
            (subst (λ (t : List ℕ). HasPages t (k + 1)) (sym same) pages)
            (subst (λ (t : List ℕ). number_place t (k + 1) ≤ length t) (sym same) room)
            (subst (λ (t : List ℕ). number_place t (k + 1) < length encoding + (length piece + 1)) (sym same) (omega (arith, room, grown))))
      ];
    }

pub taken_more : (old new : Decoder) (change : PageChange) (encoding piece : List ℕ) → HasTaken old change encoding → HasFed new largest_page (encoding ++ piece) → NoneEndsBefore encoding piece (length piece + 1)
    → HasTaken new change (encoding ++ piece)
taken_more old new change encoding piece taken fed none =
    let all : take (length piece) piece ≡ piece = take_all (length piece) piece (omega arith) in
    let same : encoding ++ take (length piece) piece ≡ encoding ++ piece = ap (λ (l : List ℕ). encoding ++ l) all in
    let grown = length-append encoding piece in
    record {
      fed = fed;
      pages = λ long. whole_more change encoding piece
          (taken.pages (header_before encoding piece (length piece) (length piece + 1) (omega arith) none (omega (arith, ap length same, long)) (omega (arith, grown, long))))
          fed.octets none;
    }

-- the header is whole
pub whole_none : (d : Decoder) (limit : ℕ) (encoding : List ℕ) → ShowsHeader d limit encoding → HoldsWholePages encoding (empty_change (stated_page_size encoding) (stated_commit encoding))
whole_none d limit encoding shows =
    let head = whole_header d limit encoding shows.fed (omega (arith, shows.ends)) in
    record {
      valid = none_valid (stated_page_size encoding) (stated_commit encoding) (head.fields.page_size (record { within = omega arith; there = omega (arith, shows.ends) }));
      read = read_none encoding head;
      last = λ _. omega (arith, shows.ends);
    }

pub taken_header : (d : Decoder) (encoding : List ℕ) → ShowsHeader d largest_page encoding → HasTaken d (empty_change (stated_page_size encoding) (stated_commit encoding)) encoding
taken_header d encoding shows = record { fed = shows.fed; pages = λ _. whole_none d largest_page encoding shows }

-- the page size of a whole header is one of SQLite's
pub shown_size : (d : Decoder) (encoding : List ℕ) → ShowsHeader d largest_page encoding → IsPageSize (stated_page_size encoding)
shown_size d encoding shows =
    let long : 100 ≤ length encoding = omega (arith, shows.ends) in
    (whole_header d largest_page encoding shows.fed long).fields.page_size (record { within = omega arith; there = omega (arith, long) })

-- no page size is past the largest
size_within : (n : ℕ) → IsPageSize n → n ≤ largest_page
unfolding is_page_size
size_within n is = grind arith

-- a reader whose limit is the largest page refuses nothing by it
pub refused_at : (encoding : List ℕ) (f : LtxFault) → IsRefusedWithin largest_page encoding f → IsFound f × IsEarliest encoding f
refused_at encoding f refused = elim refused.1 [
  | inl found ↦ (refused.0, found.0)
  | inr past ↦ absurd (omega (
    arith,
    past.1.sound fault.PageSize 12 (record {
      breaks = (refl, λ size. omega (arith, size_within (stated_page_size encoding) size, past.1.past));
      there = past.1.there;
    }),
  ))
]

-- a page ends with some bytes of the piece
module _ (new : Decoder) (limit : ℕ) (change : PageChange) (encoding piece : List ℕ) (used number : ℕ) (holds : HoldsWholePages encoding change) (some : 1 ≤ used) (within : used ≤ length piece)
    (none : NoneEndsBefore encoding piece used) (shows : ShowsPage new limit number (encoding ++ take used piece)) where
  -- the page that ends is the next one
  next_is : shows.index ≡ length change.pages
  next_is =
      let k = length change.pages in
      let bytes = encoding ++ take used piece in
      let grown = grown_length encoding piece used within in
      elim (cases_order shows.index k) [
        | inl same ↦ same
        | inr other ↦ elim other [
          | inl before ↦ absurd (omega (arith, later_place bytes shows.index k before, next_place bytes shows.index, shows.ends, place_kept encoding (take used piece) holds.read.header k, holds.read.there, grown, some))
          | inr after ↦
              let far = later_place bytes k shows.index after in
              let here : number_place bytes (k + 1) < length bytes = omega (arith, far, next_place bytes k, next_place bytes shows.index, shows.ends) in
              absurd (none_whole encoding piece used used within none change holds (λ j less. shows.pages j (omega (arith, less, after))) (omega (arith, here)) (omega (arith, here, grown)))
        ]
      ]

  room_is : length (encoding ++ take used piece) ≡ number_place (encoding ++ take used piece) (length change.pages + 1)
  room_is = shows.ends ∙ ap (λ (i : ℕ). number_place (encoding ++ take used piece) (i + 1)) next_is

  pages_are : HasPages (encoding ++ take used piece) (length change.pages + 1)
  pages_are = subst (λ (i : ℕ). HasPages (encoding ++ take used piece) (i + 1)) next_is shows.pages

  number_is : number ≡ number_at (encoding ++ take used piece) (length change.pages)
  number_is = shows.number_is ∙ ap (number_at (encoding ++ take used piece)) next_is

  page_is : drop 4 new.held.items ≡ page_in (encoding ++ take used piece) (length change.pages)
  page_is = shows.shown ∙ ap (page_in (encoding ++ take used piece)) next_is

  more_is : number ≢ 0
  more_is zero = pages_are (length change.pages) (omega arith) (sym number_is ∙ zero)

  number_sound : IsNextNumber (encoding ++ take used piece) (length change.pages)
  number_sound = next_number (encoding ++ take used piece) (length change.pages) shows.fed.unfinished (λ j less. pages_are j (omega (arith, less)))
      (omega (arith, room_is, next_place (encoding ++ take used piece) (length change.pages)))

  read_before : IsRead (encoding ++ take used piece) change (length change.pages)
  read_before = read_longer encoding (take used piece) change (length change.pages) holds.read shows.fed.octets

  -- it goes to the end of the change
  next_fits : FitsAtEnd change (record { number = number; bytes = drop 4 new.held.items })
  next_fits =
      let k = length change.pages in
      let bytes = encoding ++ take used piece in
      let read = read_before in
      let page_length : length (drop 4 new.held.items) ≡ stated_page_size bytes =
      ap length page_is ∙ omega (arith, length-take (stated_page_size bytes) (drop (number_place bytes k + 4) bytes), length-drop (number_place bytes k + 4) bytes, room_is, next_place bytes k) in
      fits_next bytes change number (drop 4 new.held.items) read.holds number_sound number_is more_is (page_length ∙ sym read.holds.page_size)

  -- and the change with it holds the pages
  pub whole_page : HoldsWholePages (encoding ++ take used piece) (with_page change number (drop 4 new.held.items))
  whole_page =
      let k = length change.pages in
      let bytes = encoding ++ take used piece in
      let page = drop 4 new.held.items in
      let count : length (with_page change number page).pages ≡ k + 1 = length-append change.pages (record { number = number; bytes = page } ∷ []) in
      record {
        valid = page_valid change number page holds.valid next_fits;
        read = subst (λ (j : ℕ). IsRead bytes (with_page change number page) j) (sym count) (read_next bytes change k number page read_before number_sound number_is more_is page_is (omega (arith, room_is)));
        last = λ _. omega (arith, room_is, count, next_place bytes (k + 1), ap (λ (j : ℕ). number_place bytes (j + 1)) count);
      }

-- the same of what the decoder and the change have taken
module _ (old new : Decoder) (change : PageChange) (encoding piece : List ℕ) (used number : ℕ) (taken : HasTaken old change encoding) (some : 1 ≤ used) (within : used ≤ length piece)
    (none : NoneEndsBefore encoding piece used) (shows : ShowsPage new largest_page number (encoding ++ take used piece)) where
  holds_before : HoldsWholePages encoding change
  holds_before =
      let grown = grown_length encoding piece used within in
      taken.pages (header_before encoding piece used used within none (omega (arith, shows.ends)) (omega (arith, grown, shows.ends)))

  pub page_fits : FitsAtEnd change (record { number = number; bytes = drop 4 new.held.items })
  page_fits = next_fits new largest_page change encoding piece used number holds_before some within none shows

  pub taken_page : HasTaken new (with_page change number (drop 4 new.held.items)) (encoding ++ take used piece)
  taken_page = record { fed = shows.fed; pages = λ _. whole_page new largest_page change encoding piece used number holds_before some within none shows }
