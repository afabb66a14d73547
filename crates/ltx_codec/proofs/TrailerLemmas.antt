-- A trailer that comes in pieces.
use Rattle.std.proofs.Common.{◌≡◌, ℕ, ◌+◌, ◌<◌, Bool, true, false, cond, List, [], ◌++◌, length, take, drop, arith, refl, sym, ap, subst, inl, inr, ◌∙◌}
use Rattle.std.specs.Prelude.{bit_xor}
use Rattle.std.proofs.lemmas.List.{take_all}
use Rattle.std.proofs.Math.Seq.{take-add}
use Rattle.page_checksum.specs.Crc.{after_bytes, all_ones, crc}
use Rattle.page_checksum.specs.Sums.{flagged}
use Rattle.page_checksum.proofs.CrcLemmas.{after_bytes-append}
use Rattle.lf_sqlite_pages.specs.Change.{PageChange}
use Rattle.ltx_codec.specs.Fields.{AreBytes, stated_commit, stated_min, header_in}
use Rattle.ltx_codec.specs.Format.{file_sum, sealed, IsLtx}
use Rattle.ltx_codec.specs.Sums.{sum_of_writes}
use Rattle.ltx_codec.specs.Places.{IsWrongPost, IsWrongSum, number_place, number_at, writes_in}
use Rattle.ltx_codec.specs.steps.Trailer.{HasTrailer}
use Rattle.ltx_codec.specs.Decoding.{HasFed, held_part, IsRefusedWithin, ShowsFile}
use Rattle.ltx_codec.specs.steps.Feeding.{HasNumber, HasRightSums, BreaksSums}
use Rattle.ltx_codec.specs.declared.decoder.Decoder.{Decoder}
use Rattle.ltx_codec.specs.declared.header.Header.{Header}
use Rattle.ltx_codec.specs.declared.fault.LtxFault.{LtxFault}
use Rattle.ltx_codec.specs.declared.fault.LtxFault.TheVariants as fault
use Rattle.ltx_codec.proofs.BlockLemmas.{wrong_sum, past_sum, short_trailer, wrong_file_sum}
use Rattle.ltx_codec.proofs.DecodeLemmas.{is_ltx}
use Rattle.ltx_codec.proofs.FeedLemmas.{Stays, nothing_read, piece_rest}
use Rattle.ltx_codec.proofs.EncodingLemmas.{AreBytes-drop}
use Rattle.ltx_codec.proofs.PageLemmas.{number_longer}
use Rattle.ltx_codec.proofs.PieceLemmas.{Grows, fed_of, held_untold, held_length, held_is_rest, eight_rest}
use Rattle.ltx_codec.proofs.HeaderLemmas.{within_not_past}
use Rattle.lf_base.specs.Endian.{be64_at}

sealed_is : (bytes : List ℕ) (register : ℕ) → register ≡ after_bytes all_ones bytes → sealed register ≡ file_sum bytes
unfolding crc
sealed_is bytes register is = ap (λ (r : ℕ). flagged (bit_xor r all_ones)) is

module _ (d : Decoder) (limit : ℕ) (encoding : List ℕ) (change : PageChange) (has : HasNumber d limit encoding change 0) (untold : d.told ≡ false) where
  post_at : be64_at 4 d.held.items ≡ be64_at (number_place encoding (length change.pages) + 4) encoding
  post_at = ap (be64_at 4) (held_is_rest d limit encoding change has.feeding untold) ∙ eight_rest (number_place encoding (length change.pages)) 4 encoding

  sum_at : be64_at 12 d.held.items ≡ be64_at (number_place encoding (length change.pages) + 12) encoding
  sum_at = ap (be64_at 12) (held_is_rest d limit encoding change has.feeding untold) ∙ eight_rest (number_place encoding (length change.pages)) 12 encoding

  commit_is : d.header.commit ≡ stated_commit encoding
  commit_is = ap (λ (h : Header). h.commit) has.feeding.block.header

  min_is : d.header.min ≡ stated_min encoding
  min_is = ap (λ (h : Header). h.min) has.feeding.block.header

  sums_are : stated_min encoding ≡ 1 → flagged d.sums ≡ sum_of_writes (writes_in encoding (length change.pages))
  sums_are snapshot = ap flagged (has.feeding.block.sums snapshot) ∙ ap sum_of_writes has.feeding.block.read.holds.writes

  wrong_is : (s : ℕ) → IsWrongPost d.header (flagged d.sums) s → IsWrongSum encoding (length change.pages) s
  wrong_is s wrong = elim wrong [
    | inl low ↦ inl low
    | inr other ↦ elim other [
      | inl empty ↦ inr (inl (sym commit_is ∙ empty.0, empty.1))
      | inr snapshot ↦ inr (inr (sym min_is ∙ snapshot.0, λ same. snapshot.1 (same ∙ sym (sums_are (sym min_is ∙ snapshot.0)))))
    ]
  ]

  right_is : (s : ℕ) → (IsWrongPost d.header (flagged d.sums) s → ⊥) → IsWrongSum encoding (length change.pages) s → ⊥
  right_is s right wrong = elim wrong [
    | inl low ↦ right (inl low)
    | inr other ↦ elim other [
      | inl empty ↦ right (inr (inl (commit_is ∙ empty.0, empty.1)))
      | inr snapshot ↦ right (inr (inr (min_is ∙ snapshot.0, λ same. snapshot.1 (same ∙ sums_are snapshot.0))))
    ]
  ]

  right_at : (IsWrongPost d.header (flagged d.sums) (be64_at 4 d.held.items) → ⊥) → IsWrongSum encoding (length change.pages) (be64_at (number_place encoding (length change.pages) + 4) encoding) → ⊥
  right_at right = subst (λ (s : ℕ). IsWrongSum encoding (length change.pages) s → ⊥) post_at (right_is (be64_at 4 d.held.items) right)

  register_is : after_bytes d.register (take 12 d.held.items) ≡ after_bytes all_ones (take (number_place encoding (length change.pages) + 12) encoding)
  register_is =
      let at = number_place encoding (length change.pages) in
      ap (λ (r : ℕ). after_bytes r (take 12 d.held.items)) has.feeding.block.register
      ∙ sym (after_bytes-append all_ones (take at encoding) (take 12 d.held.items))
      ∙ ap (λ (l : List ℕ). after_bytes all_ones (take at encoding ++ take 12 l)) (held_is_rest d limit encoding change has.feeding untold)
      ∙ ap (after_bytes all_ones) (sym (take-add at 12 encoding))

  seal_is : sealed (after_bytes d.register (take 12 d.held.items)) ≡ file_sum (take (number_place encoding (length change.pages) + 12) encoding)
  seal_is = sealed_is (take (number_place encoding (length change.pages) + 12) encoding) (after_bytes d.register (take 12 d.held.items)) register_is

  long : length encoding ≡ number_place encoding (length change.pages) + length d.held.items
  long = held_length d limit encoding change has.feeding untold

  ends : number_at encoding (length change.pages) ≡ 0
  ends = sym has.number_is

  -- a wrong sum is refused
  pub trailer_refused : (f : LtxFault) → BreaksSums d.header d.sums d.register d.held.items f → IsRefusedWithin limit encoding f
  trailer_refused fault.PostSum rule =
      let read = has.feeding.block.read in
      let at = long in (
        tt,
        inl (
          wrong_sum encoding (length change.pages) read.pages read.sound has.sound ends (omega (arith, at, rule.0))
              (subst (λ (s : ℕ). IsWrongSum encoding (length change.pages) s) post_at (wrong_is (be64_at 4 d.held.items) rule.1)),
          within_not_past limit encoding has.feeding.within,
        ),
      )
  trailer_refused (fault.FileSum want got) rule =
      let read = has.feeding.block.read in
      let at = long in (
        tt,
        inl (
          wrong_file_sum encoding (length change.pages) read.pages read.sound has.sound ends (right_at rule.1) want got (omega (arith, at, rule.0))
              (rule.2 ∙ seal_is) (rule.3 ∙ sum_at) rule.4,
          within_not_past limit encoding has.feeding.within,
        ),
      )
  trailer_refused fault.Short rule = absurd rule
  trailer_refused fault.Magic rule = absurd rule
  trailer_refused fault.Compressed rule = absurd rule
  trailer_refused fault.UnknownFlags rule = absurd rule
  trailer_refused fault.PageSize rule = absurd rule
  trailer_refused fault.Txid rule = absurd rule
  trailer_refused fault.Commit rule = absurd rule
  trailer_refused fault.PreSum rule = absurd rule
  trailer_refused fault.PageOrder rule = absurd rule
  trailer_refused fault.PageRange rule = absurd rule
  trailer_refused fault.NotWhole rule = absurd rule
  trailer_refused fault.Tail rule = absurd rule
  trailer_refused fault.NoMemory rule = absurd rule

  module _ (right : HasRightSums d.header d.sums d.register d.held.items) where
    -- the trailer is not whole
    pub trailer_goes_on : length d.held.items < 20 → HasFed d limit encoding
    trailer_goes_on few =
        let read = has.feeding.block.read in
        let at = long in
        let held : length (held_part d) ≡ length d.held.items = ap length (held_untold d untold) in
        fed_of d limit encoding change has.feeding
        (record { page = λ there more. absurd (more ends); end = λ there end. omega (arith, held, few) })
        (short_trailer encoding (length change.pages) read.pages read.sound has.sound ends (omega (arith, at, few))
        (λ room. past_sum encoding (length change.pages) read.pages read.sound has.sound ends (right_at (right.post (omega (arith, at, room)))) room))

    -- the file is whole
    pub trailer_ends : (new : Decoder) → length d.held.items ≡ 20 → Stays d new → new.post ≡ be64_at 4 d.held.items → new.header ≡ d.header → new.told ≡ true → new.in_block ≡ false
        → ShowsFile new limit encoding
    trailer_ends new whole stays post header told stage =
        let read = has.feeding.block.read in
        let at = long in
        let k = length change.pages in
        let trailer : HasTrailer encoding k new.post = record {
          there = omega (arith, at, whole);
          sum_is = post ∙ post_at;
          right = subst (λ (s : ℕ). IsWrongSum encoding k s → ⊥) (sym post) (right_is (be64_at 4 d.held.items) (right.post (omega (arith, whole))));
          file_sum_is = sym sum_at ∙ right.file_sum (omega (arith, whole)) ∙ seal_is;
        } in
        record {
          file = record { header = header_in encoding; change = change; post = new.post };
          is = subst (λ (t : List ℕ). IsLtx t (record { header = header_in encoding; change = change; post = new.post })) (take_all (number_place encoding k + 20) encoding (omega (arith, at, whole)))
              (is_ltx encoding change new.post read has.sound ends trailer has.feeding.block.valid);
          header = header ∙ has.feeding.block.header;
          post = refl;
          fed = record {
            unfinished = nothing_read;
            octets = λ i. omega arith;
            sound = stays.fault ∙ has.feeding.sound;
            limit_is = stays.limit ∙ has.feeding.limit_is;
            within = λ room. absurd (omega (arith, room));
            stage = inl (record {
              stage = stage;
              short = omega arith;
              held = ap (λ (b : Bool). cond b [] new.held.items) told;
            });
          };
        }

-- the piece ends in the trailer
pub trailer_more : (old new : Decoder) (limit : ℕ) (encoding piece : List ℕ) (first : ℕ) (change : PageChange) → HasNumber old limit (encoding ++ take first piece) change 0
    → Grows old new (drop first piece) → AreBytes piece → HasRightSums new.header new.sums new.register new.held.items → length new.held.items < 20 → HasFed new limit (encoding ++ piece)
trailer_more old new limit encoding piece first change has grows fits right few =
    let longer = number_longer old new limit (encoding ++ take first piece) (drop first piece) change 0 has grows (AreBytes-drop first piece fits) in
    subst (λ (t : List ℕ). HasFed new limit t) (piece_rest encoding piece first)
    (trailer_goes_on new limit ((encoding ++ take first piece) ++ drop first piece) change longer (grows.told ∙ grows.untold) right few)
