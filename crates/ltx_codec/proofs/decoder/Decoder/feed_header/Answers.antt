use Rattle.std.proofs.Common.{◌≡◌, ◌<◌, ◌≤◌, ◌+◌, ◌++◌, ℕ, List, length, take, refl, sym, ap, arith, ◌∙◌, subst, length-append}
use Rattle.std.proofs.lemmas.List.{length-take, take_all}
use Rattle.page_checksum.specs.Crc.{after_bytes, all_ones}
use Rattle.ltx_codec.specs.HeaderRules.{HasSoundFields}
use Rattle.ltx_codec.specs.Fields.{stated_page_size, header_in}
use Rattle.ltx_codec.specs.Decoding.{IsRefusedWithin, IsWithin}
use Rattle.ltx_codec.proofs.FeedLemmas.{held_is, header_short, refused_first, header_goes_on, header_ends}
use Rattle.ltx_codec.proofs.PartLemmas.{none_in_header}
use Rattle.ltx_codec.proofs.EncodingLemmas.{AreBytes-take}
use Rattle.lf_sqlite_pages.proofs.LockPages.{page_size-positive}
use Rattle.ltx_codec.proofs.decoder.Decoder.feed_header.Goals as goal

pub returns-in-Err-clause-gives : goal.returns-in-Err-clause-gives
returns-in-Err-clause-gives c limit encoding fed =
    let held : c.as_slice.result.now ≡ encoding ++ take c.fill-used.result c.args.piece.now =
    c.as_slice.ensures.value ∙ c.fill-used.ensures.items ∙ ap (λ (l : List ℕ). l ++ take c.fill-used.result c.args.piece.now) (held_is c.args.self.now limit encoding fed c.requires.stage c.requires.untold) in
    let refused : IsRefusedWithin limit c.as_slice.result.now c.in-Err.fault = subst (λ (n : ℕ). IsRefusedWithin n c.as_slice.result.now c.in-Err.fault) fed.limit_is c.in-Err.ensures.fault in
    let grown = length-append c.args.self.now.held.items (take c.fill-used.result c.args.piece.now) in
    refused_first limit encoding c.args.piece.now c.fill-used.result c.in-Err.fault (omega (arith, c.fill-used.ensures.count))
    (none_in_header encoding c.args.piece.now c.fill-used.result (omega (
      arith,
      c.fill-used.ensures.count,
      c.fill-used.ensures.size,
      c.fill-used.ensures.len,
      ap length c.fill-used.ensures.items,
      grown,
      length-take c.fill-used.result c.args.piece.now,
      header_short c.args.self.now limit encoding fed c.requires.stage,
      ap length (held_is c.args.self.now limit encoding fed c.requires.stage c.requires.untold),
    )))
    (subst (λ (l : List ℕ). IsRefusedWithin limit l c.in-Err.fault) held refused)

pub returns-clause-gives : goal.returns-clause-gives
returns-clause-gives c limit encoding fed =
    let piece = c.args.piece.now in
    let front = take c.fill-used.result piece in
    let now = c.start_block.new.self.held.items in
    let same : c.as_slice.result.now ≡ now = c.as_slice.ensures.value ∙ sym (ap (λ v. v.items) c.start_block.ensures.held) in
    let sound : HasSoundFields now 103 = subst (λ (l : List ℕ). HasSoundFields l 103) same c.in_default.ensures.ok in
    let within : IsWithin c.args.self.now.limit now = subst (λ (l : List ℕ). IsWithin c.args.self.now.limit l) same c.in_default.ensures.within in
    let grown : now ≡ c.args.self.now.held.items ++ front = sym same ∙ c.as_slice.ensures.value ∙ c.fill-used.ensures.items in
    let used : c.fill-used.result ≤ length piece = omega arith in
    let before : length c.args.self.now.held.items < 100 =
    rw (held_is c.args.self.now limit encoding fed c.requires.stage c.requires.untold) (header_short c.args.self.now limit encoding fed c.requires.stage) in
    let length-is : length now ≡ 100 =
    omega (arith, ap length same, c.as_slice.ensures.len, ap length grown, length-append c.args.self.now.held.items front, length-take c.fill-used.result piece, before) in
    let header : c.start_block.new.self.header ≡ header_in now = c.start_block.ensures.header ∙ ap header_in (sym c.as_slice.ensures.value ∙ same) in
    let register : c.start_block.new.self.register ≡ after_bytes all_ones now = c.start_block.ensures.register ∙ ap (after_bytes all_ones) (sym c.as_slice.ensures.value ∙ same) in (
      omega (arith, before, length-is, ap length grown, length-append c.args.self.now.held.items front, length-take c.fill-used.result piece, used),
      used,
      none_in_header encoding piece c.fill-used.result (omega (
        arith,
        length-is,
        ap length grown,
        length-append c.args.self.now.held.items front,
        length-take c.fill-used.result piece,
        ap length (held_is c.args.self.now limit encoding fed c.requires.stage c.requires.untold),
      )),
      header_ends c.args.self.now c.start_block.new.self limit encoding front fed
          (record { fault = c.start_block.ensures.same.1; limit = c.start_block.ensures.same.0 })
          (AreBytes-take c.fill-used.result piece (λ i. omega (arith, c.type_inv.piece i))) c.requires.stage c.requires.untold grown sound within length-is header register
          c.start_block.ensures.begins.0 c.start_block.ensures.begins.1 c.start_block.ensures.begins.2 c.start_block.ensures.begins.3,
    )

pub returns-then-len-lt-HEADER-clause-gives : goal.returns-then-len-lt-HEADER-clause-gives
returns-then-len-lt-HEADER-clause-gives c limit encoding fed =
    let piece = c.args.piece.now in
    let held-is = held_is c.args.self.now limit encoding fed c.requires.stage c.requires.untold in
    let all : take c.fill-used.result piece ≡ piece =
    take_all c.fill-used.result piece (omega (arith, c.fill-used.ensures.count, c.fill-used.ensures.len, c.len.ensures, c.if-len-lt-HEADER.true)) in
    let held : c.fill-used.new.held.items ≡ c.args.self.now.held.items ++ piece = c.fill-used.ensures.items ∙ ap (λ (l : List ℕ). c.args.self.now.held.items ++ l) all in
    let few : length c.fill-used.new.held.items < 100 = omega (arith, c.fill-used.ensures.size, c.len.ensures, c.if-len-lt-HEADER.true) in
    let grown : length c.fill-used.new.held.items ≡ length encoding + length piece = ap length held ∙ length-append c.args.self.now.held.items piece ∙ ap (λ (n : ℕ). n + length piece) (ap length held-is) in (
      header_goes_on c.args.self.now _ limit encoding piece fed (record { fault = refl; limit = refl }) (λ i. omega (arith, c.type_inv.piece i)) c.requires.stage c.requires.untold refl refl held
          (subst (λ (l : List ℕ). HasSoundFields l 103) c.as_slice.ensures.value c.in_default.ensures.ok)
          (subst (λ (l : List ℕ). IsWithin c.args.self.now.limit l) c.as_slice.ensures.value c.in_default.ensures.within) few,
      none_in_header encoding piece (length piece + 1) (omega (arith, few, grown)),
    )

pub start_block-requires-clause-sized : goal.start_block-requires-clause-sized
start_block-requires-clause-sized c =
    let sound : HasSoundFields c.fill-used.new.held.items 103 = subst (λ (l : List ℕ). HasSoundFields l 103) c.as_slice.ensures.value c.in_default.ensures.ok in
    page_size-positive (stated_page_size c.fill-used.new.held.items)
    (sound.page_size (record { within = omega arith; there = omega (arith, c.fill-used.ensures.size, c.len.ensures, c.if-len-lt-HEADER.false) }))
