use Rattle.std.proofs.Common.{◌≡◌, ◌≢◌, ◌<◌, ◌≤◌, ◌+◌, ◌-◌, ◌++◌, ℕ, List, length, take, refl, ap, arith, ◌∙◌, inl, length-append}
use Rattle.std.proofs.lemmas.List.{take_all, length-take}
use Rattle.ltx_codec.proofs.PageLemmas.{number_goes_on, number_held, end_held, number_refused_at, number_in_page, number_in_trailer}
use Rattle.ltx_codec.proofs.PieceLemmas.{Grows, pages_of, held_length}
use Rattle.ltx_codec.proofs.BlockLemmas.{next_place}
use Rattle.ltx_codec.proofs.PartLemmas.{none_in_block, none_in_number}
use Rattle.ltx_codec.specs.Places.{number_place}
use Rattle.ltx_codec.proofs.FeedLemmas.{refused_first}
use Rattle.ltx_codec.proofs.EncodingLemmas.{AreBytes-take}
use Rattle.ltx_codec.specs.declared.decoder.Decoder.{Decoder}
use Rattle.ltx_codec.proofs.decoder.Decoder.feed_block.Goals as goal
use Rattle.lf_base.specs.Endian.{be32_at}

pub returns-then-len-lt-NUMBER-clause-gives : goal.returns-then-len-lt-NUMBER-clause-gives
returns-then-len-lt-NUMBER-clause-gives c limit encoding fed =
    let piece = c.args.piece.now in
    let all : take c.fill-first.result piece ≡ piece =
    take_all c.fill-first.result piece (omega (arith, c.fill-first.ensures.count, c.fill-first.ensures.len, c.len.ensures, c.if-len-lt-NUMBER.true)) in
    let old = c.args.self.now in
    let p = pages_of old limit encoding fed c.requires.stage in
    let grown = ap length c.fill-first.ensures.items in
    let bound : length encoding + (length piece + 1) ≤ number_place encoding (length p.0.pages + 1) =
    omega (
      arith,
      held_length old limit encoding p.0 p.1 c.requires.untold,
      next_place encoding (length p.0.pages),
      c.fill-first.ensures.size,
      c.len.ensures,
      c.if-len-lt-NUMBER.true,
      grown,
      length-append old.held.items (take c.fill-first.result piece),
      ap length all,
    ) in (
      number_goes_on c.args.self.now _ limit encoding piece fed c.requires.stage
          (record {
            stays = record { fault = refl; limit = refl };
            untold = c.requires.untold;
            told = refl;
            stage = refl;
            header = refl;
            number = refl;
            sums = refl;
            register = refl;
            held = c.fill-first.ensures.items ∙ ap (λ (l : List ℕ). c.args.self.now.held.items ++ l) all;
          })
          (λ i. omega (arith, c.type_inv.piece i))
          (omega (arith, c.fill-first.ensures.size, c.len.ensures, c.if-len-lt-NUMBER.true)),
      none_in_block encoding piece p.0 (length piece) (length piece + 1) p.1.block.read (λ i. omega (arith, c.type_inv.piece i)) (omega arith) (omega arith) (inl bound),
    )

pub returns-in-Err-clause-gives : goal.returns-in-Err-clause-gives
returns-in-Err-clause-gives c limit encoding fed =
    let old = c.args.self.now in
    let piece = c.args.piece.now in
    let more = take c.fill-first.result piece in
    let fits = AreBytes-take c.fill-first.result piece (λ i. omega (arith, c.type_inv.piece i)) in
    let held : 4 ≤ length c.fill-first.new.held.items = omega (arith, c.fill-first.ensures.size, c.len.ensures, c.if-len-lt-NUMBER.false) in
    let number-is : c.be32_at-number.result ≡ be32_at 0 c.fill-first.new.held.items = c.be32_at-number.ensures ∙ ap (be32_at 0) c.as_slice.ensures.value in
    let mid : Decoder = record {
      limit = old.limit;
      held = c.fill-first.new.held;
      told = old.told;
      in_block = old.in_block;
      header = old.header;
      number = old.number;
      sums = old.sums;
      register = old.register;
      post = old.post;
      fault = old.fault;
      sized = old.sized;
      room = (omega (arith, old.room.0, c.fill-first.ensures.capacity), omega (arith, old.room.1, c.fill-first.ensures.capacity), old.room.2);
    } in
    let grows : Grows old mid more = record {
      stays = record { fault = refl; limit = refl };
      untold = c.requires.untold;
      told = refl;
      stage = refl;
      header = refl;
      number = refl;
      sums = refl;
      register = refl;
      held = c.fill-first.ensures.items;
    } in
    let refused = number_refused_at old mid limit encoding more c.be32_at-number.result fed c.requires.stage grows fits held number-is c.in-Err.fault c.in-Err.ensures.fault in
    let p = pages_of old limit encoding fed c.requires.stage in
    let grown : length c.fill-first.new.held.items ≡ length old.held.items + length more = ap length c.fill-first.ensures.items ∙ length-append old.held.items more in
    let count : c.fill-first.result ≤ 4 - length old.held.items =
    omega (arith, c.fill-first.ensures.count, c.fill-first.ensures.size, c.fill-first.ensures.len, grown, length-take c.fill-first.result piece) in
    refused_first limit encoding piece c.fill-first.result c.in-Err.fault (omega (arith, c.fill-first.ensures.count))
    (none_in_number old limit encoding piece p.0 p.1 c.requires.untold (λ i. omega (arith, c.type_inv.piece i)) c.fill-first.result (omega (arith, c.fill-first.ensures.count)) count) refused

pub returns-then-number-eq0-clause-gives : goal.returns-then-number-eq0-clause-gives
returns-then-number-eq0-clause-gives c limit encoding fed =
    let old = c.args.self.now in
    let piece = c.args.piece.now in
    let more = take c.fill-first.result piece in
    let fits = AreBytes-take c.fill-first.result piece (λ i. omega (arith, c.type_inv.piece i)) in
    let held : 4 ≤ length c.fill-first.new.held.items = omega (arith, c.fill-first.ensures.size, c.len.ensures, c.if-len-lt-NUMBER.false) in
    let number-is : c.be32_at-number.result ≡ be32_at 0 c.fill-first.new.held.items = c.be32_at-number.ensures ∙ ap (be32_at 0) c.as_slice.ensures.value in
    let grown : length c.fill-first.new.held.items ≡ length old.held.items + length more = ap length c.fill-first.ensures.items ∙ length-append old.held.items more in
    let few : length old.held.items < 4 → length c.fill-first.new.held.items ≤ 4 =
    λ (less : length old.held.items < 4). omega (arith, grown, c.fill-first.ensures.size, c.fill-first.ensures.len, c.fill-first.ensures.count, length-take c.fill-first.result piece) in
    let none : 4 ≤ length old.held.items → length more ≡ 0 =
    λ (enough : 4 ≤ length old.held.items). omega (arith, grown, c.fill-first.ensures.size, c.fill-first.ensures.len, c.fill-first.ensures.count, length-take c.fill-first.result piece) in
    let mid : Decoder = record {
      limit = old.limit;
      held = c.fill-first.new.held;
      told = old.told;
      in_block = old.in_block;
      header = old.header;
      number = old.number;
      sums = old.sums;
      register = old.register;
      post = old.post;
      fault = old.fault;
      sized = old.sized;
      room = (omega (arith, old.room.0, c.fill-first.ensures.capacity), omega (arith, old.room.1, c.fill-first.ensures.capacity), old.room.2);
    } in
    let grows : Grows old mid more = record {
      stays = record { fault = refl; limit = refl };
      untold = c.requires.untold;
      told = refl;
      stage = refl;
      header = refl;
      number = refl;
      sums = refl;
      register = refl;
      held = c.fill-first.ensures.items;
    } in
    let zero : c.be32_at-number.result ≡ 0 = omega arith in
    let first-is : length more ≡ c.fill-first.result = omega (arith, length-take c.fill-first.result piece, c.fill-first.ensures.count) in
    let part = number_in_trailer old mid limit encoding more c.be32_at-number.result fed c.requires.stage grows fits held number-is few none zero in
    c.feed_trailer.ensures.gives limit encoding (pages_of old limit encoding fed c.requires.stage).0
    (end_held old _ limit encoding more c.be32_at-number.result fed c.requires.stage (record {
      stays = record { fault = refl; limit = refl };
      untold = c.requires.untold;
      told = refl;
      stage = refl;
      header = refl;
      number = refl;
      sums = refl;
      register = refl;
      held = c.fill-first.ensures.items;
    }) fits held number-is zero c.in_default.ensures.ok) (pages_of old limit encoding fed c.requires.stage).1.block.read part.0 (omega (arith, part.1, first-is))

pub returns-clause-gives : goal.returns-clause-gives
returns-clause-gives c limit encoding fed =
    let old = c.args.self.now in
    let piece = c.args.piece.now in
    let more = take c.fill-first.result piece in
    let fits = AreBytes-take c.fill-first.result piece (λ i. omega (arith, c.type_inv.piece i)) in
    let held : 4 ≤ length c.fill-first.new.held.items = omega (arith, c.fill-first.ensures.size, c.len.ensures, c.if-len-lt-NUMBER.false) in
    let number-is : c.be32_at-number.result ≡ be32_at 0 c.fill-first.new.held.items = c.be32_at-number.ensures ∙ ap (be32_at 0) c.as_slice.ensures.value in
    let grown : length c.fill-first.new.held.items ≡ length old.held.items + length more = ap length c.fill-first.ensures.items ∙ length-append old.held.items more in
    let few : length old.held.items < 4 → length c.fill-first.new.held.items ≤ 4 =
    λ (less : length old.held.items < 4). omega (arith, grown, c.fill-first.ensures.size, c.fill-first.ensures.len, c.fill-first.ensures.count, length-take c.fill-first.result piece) in
    let none : 4 ≤ length old.held.items → length more ≡ 0 =
    λ (enough : 4 ≤ length old.held.items). omega (arith, grown, c.fill-first.ensures.size, c.fill-first.ensures.len, c.fill-first.ensures.count, length-take c.fill-first.result piece) in
    let mid : Decoder = record {
      limit = old.limit;
      held = c.fill-first.new.held;
      told = old.told;
      in_block = old.in_block;
      header = old.header;
      number = old.number;
      sums = old.sums;
      register = old.register;
      post = old.post;
      fault = old.fault;
      sized = old.sized;
      room = (omega (arith, old.room.0, c.fill-first.ensures.capacity), omega (arith, old.room.1, c.fill-first.ensures.capacity), old.room.2);
    } in
    let grows : Grows old mid more = record {
      stays = record { fault = refl; limit = refl };
      untold = c.requires.untold;
      told = refl;
      stage = refl;
      header = refl;
      number = refl;
      sums = refl;
      register = refl;
      held = c.fill-first.ensures.items;
    } in
    let some : c.be32_at-number.result ≢ 0 = c.if-number-eq0.false in
    let first-is : length more ≡ c.fill-first.result = omega (arith, length-take c.fill-first.result piece, c.fill-first.ensures.count) in
    let part = number_in_page old mid limit encoding more c.be32_at-number.result fed c.requires.stage grows fits held number-is few none some in
    c.feed_page.ensures.gives limit encoding (pages_of old limit encoding fed c.requires.stage).0
    (number_held old _ limit encoding more c.be32_at-number.result fed c.requires.stage (record {
      stays = record { fault = refl; limit = refl };
      untold = c.requires.untold;
      told = refl;
      stage = refl;
      header = refl;
      number = refl;
      sums = refl;
      register = refl;
      held = c.fill-first.ensures.items;
    }) fits held number-is c.in_default.ensures.ok) (pages_of old limit encoding fed c.requires.stage).1.block.read part.0 (omega (arith, part.1, first-is))
