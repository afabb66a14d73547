-- Which bytes of a piece end a part.
use Rattle.std.proofs.Common.{◌≡◌, ℕ, ◌+◌, ◌-◌, ◌<◌, ◌≤◌, ◌⊎◌, false, List, ◌++◌, length, take, drop, arith, sym, ap, subst, inl, inr, ◌∙◌, length-append}
use Rattle.std.proofs.lemmas.Bool.{cases_lt, cases_order}
use Rattle.std.proofs.lemmas.List.{length-take}
use Rattle.lf_sqlite_pages.specs.Change.{PageChange}
use Rattle.ltx_codec.specs.Fields.{AreBytes, stated_page_size}
use Rattle.ltx_codec.specs.Places.{number_place, number_at}
use Rattle.ltx_codec.specs.Block.{HasHeader, IsRead}
use Rattle.ltx_codec.specs.Decoding.{NoneEndsBefore}
use Rattle.ltx_codec.specs.steps.Feeding.{HasPagesOf, HasNumber}
use Rattle.ltx_codec.specs.declared.decoder.Decoder.{Decoder}
use Rattle.ltx_codec.specs.declared.header.Header.{Header}
use Rattle.ltx_codec.proofs.BlockLemmas.{later_place, next_place}
use Rattle.ltx_codec.proofs.EncodingLemmas.{AreBytes-take}
use Rattle.ltx_codec.proofs.FeedLemmas.{AreBytes-append}
use Rattle.ltx_codec.proofs.PieceLemmas.{header_longer, place_kept, number_kept, size_kept, two_taken, held_length}

pub grown_length : (encoding piece : List ℕ) (m : ℕ) → m ≤ length piece → length (encoding ++ take m piece) ≡ length encoding + m
grown_length encoding piece m le = omega (arith, length-append encoding (take m piece), length-take m piece)

-- before the header is whole no part ends
pub none_in_header : (encoding piece : List ℕ) (n : ℕ) → length encoding + n ≤ 100 → NoneEndsBefore encoding piece n
none_in_header encoding piece n few m some less ends =
    let short : length (encoding ++ take m piece) < 100 = omega (arith, length-append encoding (take m piece), length-take m piece) in
    elim ends [
      | inl header ↦ omega (arith, short, header)
      | inr page ↦ omega (arith, short, page.2)
    ]

-- what bounds the bytes: the next page is not whole, or the block has ended
abbrev pub StaysInPart : List ℕ → List ℕ → ℕ → ℕ → ℕ → Type 0
StaysInPart encoding piece k used n = (length encoding + n ≤ number_place encoding (k + 1))
    ⊎ (number_at (encoding ++ take used piece) k ≡ 0)

-- in the block no part ends before the page or the file does
pub none_in_block : (encoding piece : List ℕ) (change : PageChange) (used n : ℕ) → IsRead encoding change (length change.pages) → AreBytes piece → used ≤ length piece → n ≤ used + 1
    → StaysInPart encoding piece (length change.pages) used n → NoneEndsBefore encoding piece n
none_in_block encoding piece change used n read fits within near stays m some less ends =
    let k = length change.pages in
    let head = read.header in
    let whole : 100 ≤ length encoding = head.whole in
    let there : number_place encoding k ≤ length encoding = read.there in
    let m-in : m ≤ length piece = omega arith in
    let long = grown_length encoding piece m m-in in
    elim ends [
      | inl header ↦ omega (arith, header, long, whole)
      | inr page ↦
          let at = place_kept encoding (take m piece) head (page.0 + 1) in
          elim (cases_lt page.0 k) [
            | inl before ↦ omega (arith, at, page.2, long, later_place encoding page.0 k before, next_place encoding page.0, there)
            | inr behind ↦
                let far : number_place encoding (k + 1) ≤ length (encoding ++ take m piece) = far_enough encoding k page.0 (length (encoding ++ take m piece)) behind (at ∙ sym page.2) in
                elim stays [
                  | inl next ↦ omega (arith, far, long, next)
                  | inr last ↦ page.1 k (omega (arith, behind)) (number_kept_to encoding piece k m used head (AreBytes-append encoding (take m piece) head.octets (AreBytes-take m piece fits)) (omega arith)
                      (omega (arith, far, next_place encoding k, place_kept encoding (take m piece) head k)) ∙ last)
                ]
          ]
    ]
  where
    far_enough : (encoding : List ℕ) (k j len : ℕ) → k ≤ j → number_place encoding (j + 1) ≡ len → number_place encoding (k + 1) ≤ len
    far_enough encoding k j len le at = elim (cases_order k j) [
      | inl same ↦ subst (λ (i : ℕ). number_place encoding (i + 1) ≤ len) (sym same) (omega (arith, at))
      | inr other ↦ elim other [
        | inl before ↦ omega (arith, at, later_place encoding (k + 1) (j + 1) (omega (arith, before)))
        | inr after ↦ absurd (omega (arith, le, after))
      ]
    ]

    number_kept_to : (encoding piece : List ℕ) (k m used : ℕ) → HasHeader encoding → AreBytes (encoding ++ take m piece) → m ≤ used
        → number_place (encoding ++ take m piece) k + 4 ≤ length (encoding ++ take m piece) → number_at (encoding ++ take m piece) k ≡ number_at (encoding ++ take used piece) k
    number_kept_to encoding piece k m used head octets le room =
        let rest = take (used - m) (drop m piece) in
        let sum : m + (used - m) ≡ used = omega arith in
        let split : encoding ++ take used piece ≡ (encoding ++ take m piece) ++ rest = ap (λ (i : ℕ). encoding ++ take i piece) (sym sum) ∙ two_taken encoding piece m (used - m) in
        number_kept (encoding ++ take m piece) rest (header_longer encoding (take m piece) head octets) k room
        ∙ ap (λ (t : List ℕ). number_at t k) (sym split)

-- less than a page is held behind its number: the next page does not end
pub page_bound : (old : Decoder) (limit : ℕ) (encoding piece : List ℕ) (first : ℕ) (change : PageChange) → HasPagesOf old limit (encoding ++ take first piece) change → old.told ≡ false
    → IsRead encoding change (length change.pages) → first ≤ length piece → (more : ℕ) → length old.held.items + more ≤ 4 + old.header.page_size
    → length encoding + (first + more) ≤ number_place encoding (length change.pages + 1)
page_bound old limit encoding piece first change has untold read within more few =
    let k = length change.pages in
    let size : old.header.page_size ≡ stated_page_size (encoding ++ take first piece) = ap (λ (h : Header). h.page_size) has.block.header in
    omega (
      arith,
      held_length old limit (encoding ++ take first piece) change has untold,
      grown_length encoding piece first within,
      few,
      size,
      size_kept encoding (take first piece) read.header,
      place_kept encoding (take first piece) read.header k,
      next_place encoding k,
    )

-- the number that ends the block stays where it is
pub end_stays : (old : Decoder) (limit : ℕ) (encoding piece : List ℕ) (first : ℕ) (change : PageChange) → HasNumber old limit (encoding ++ take first piece) change 0 → (more : ℕ)
    → number_at (encoding ++ take (first + more) piece) (length change.pages) ≡ 0
end_stays old limit encoding piece first change has more =
    ap (λ (t : List ℕ). number_at t (length change.pages)) (two_taken encoding piece first more)
    ∙ sym (number_kept (encoding ++ take first piece) (take more (drop first piece)) has.feeding.block.read.header (length change.pages) has.sound.there)
    ∙ sym has.number_is

-- while a number is not whole no part ends
pub none_in_number : (old : Decoder) (limit : ℕ) (encoding piece : List ℕ) (change : PageChange) → HasPagesOf old limit encoding change → old.told ≡ false → AreBytes piece → (first : ℕ)
    → first ≤ length piece → first ≤ 4 - length old.held.items → NoneEndsBefore encoding piece first
none_in_number old limit encoding piece change has untold fits first within few = elim (cases_lt (length old.held.items) 4) [
  | inl short ↦
      none_in_block encoding piece change first first has.block.read fits within (omega arith)
      (inl (omega (arith, short, few, held_length old limit encoding change has untold, next_place encoding (length change.pages))))
  | inr enough ↦ λ m some less ends. absurd (omega (arith, enough, few, some, less))
]
