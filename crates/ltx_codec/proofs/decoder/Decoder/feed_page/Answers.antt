use Rattle.std.proofs.Common.{◌≡◌, ◌≤◌, ◌+◌, ◌-◌, ◌++◌, ℕ, List, length, take, drop, refl, sym, ap, arith, ◌∙◌, subst, inl, length-append}
use Rattle.std.proofs.lemmas.List.{length-take, take_all}
use Rattle.ltx_codec.specs.Decoding.{ShowsPage}
use Rattle.ltx_codec.specs.declared.decoder.Decoder.{Decoder}
use Rattle.ltx_codec.proofs.EncodingLemmas.{AreBytes-take, AreBytes-drop}
use Rattle.ltx_codec.proofs.PieceLemmas.{Grows, two_taken}
use Rattle.ltx_codec.proofs.PartLemmas.{none_in_block, page_bound}
use Rattle.ltx_codec.proofs.PageLemmas.{TakesPage, page_more, page_ends, number_longer}
use Rattle.ltx_codec.proofs.decoder.Decoder.feed_page.Goals as goal

pub returns-then-len-part-clause-gives : goal.returns-then-len-part-clause-gives
returns-then-len-part-clause-gives c limit encoding change has read part less =
    let piece = c.args.piece.now in
    let rest = c.split_at.result.1.now in
    let all : take c.fill.result rest ≡ drop c.args.first piece =
    take_all c.fill.result rest (omega (arith, c.fill.ensures.count, c.fill.ensures.len, c.len.ensures, c.if-len-part.true)) ∙ c.split_at.ensures.back in
    let grown = ap length c.fill.ensures.items in
    let few : length c.args.self.now.held.items + (length piece - c.args.first + 1) ≤ 4 + c.args.self.now.header.page_size =
    omega (
      arith,
      c.fill.ensures.size,
      c.len.ensures,
      c.if-len-part.true,
      grown,
      length-append c.args.self.now.held.items (take c.fill.result rest),
      length-take c.fill.result rest,
      c.fill.ensures.count,
      c.fill.ensures.len,
      c.split_at.ensures.back_len,
    ) in
    let bound = page_bound c.args.self.now limit encoding piece c.args.first change has.feeding c.requires.untold read c.requires.within (length piece - c.args.first + 1) few in (
      page_more c.args.self.now _ limit encoding piece c.args.first change c.args.number has c.requires.more
          (record {
            stays = record { fault = refl; limit = refl };
            untold = c.requires.untold;
            told = refl;
            stage = refl;
            header = refl;
            number = refl;
            sums = refl;
            register = refl;
            held = c.fill.ensures.items ∙ ap (λ (l : List ℕ). c.args.self.now.held.items ++ l) all;
          })
          (λ i. omega (arith, c.type_inv.piece i))
          (omega (arith, c.fill.ensures.size, c.len.ensures, c.if-len-part.true)),
      none_in_block encoding piece change (length piece) (length piece + 1) read (λ i. omega (arith, c.type_inv.piece i)) (omega arith) (omega arith)
          (inl (let within = c.requires.within in omega (arith, bound, within))),
    )

pub returns-clause-gives : goal.returns-clause-gives
returns-clause-gives c limit encoding change has read part less =
    let old = c.args.self.now in
    let piece = c.args.piece.now in
    let first = c.args.first in
    let more = take c.fill.result (drop first piece) in
    let mid : Decoder = record {
      limit = old.limit;
      held = c.fill.new.held;
      told = old.told;
      in_block = old.in_block;
      header = old.header;
      number = old.number;
      sums = old.sums;
      register = old.register;
      post = old.post;
      fault = old.fault;
      sized = old.sized;
      room = (omega (arith, old.room.0, c.fill.ensures.capacity), omega (arith, old.room.1, c.fill.ensures.capacity), old.room.2);
    } in
    let grows : Grows old mid more = record {
      stays = record { fault = refl; limit = refl };
      untold = c.requires.untold;
      told = refl;
      stage = refl;
      header = refl;
      number = refl;
      sums = refl;
      register = refl;
      held = c.fill.ensures.items ∙ ap (λ (l : List ℕ). old.held.items ++ take c.fill.result l) c.split_at.ensures.back;
    } in
    let longer = number_longer old mid limit (encoding ++ take first piece) more change c.args.number has grows (AreBytes-take c.fill.result (drop first piece) (AreBytes-drop first piece (λ i. omega (arith, c.type_inv.piece i)))) in
    let grown = ap length c.fill.ensures.items in
    let whole : length c.fill.new.held.items ≡ 4 + old.header.page_size =
    omega (
      arith,
      part,
      c.fill.ensures.size,
      c.fill.ensures.len,
      c.fill.ensures.count,
      c.len.ensures,
      c.if-len-part.false,
      ap length c.fill.ensures.items,
      length-append old.held.items (take c.fill.result c.split_at.result.1.now),
      length-take c.fill.result c.split_at.result.1.now,
    ) in
    let takes : TakesPage mid c.take_page.new.self c.args.number = record {
      stays = record { fault = c.take_page.ensures.same.1; limit = c.take_page.ensures.same.0 };
      stage = c.take_page.ensures.same.2;
      header = c.take_page.ensures.shown.0;
      held = ap (λ v. v.items) c.take_page.ensures.shown.1;
      number_is = c.take_page.ensures.number.0;
      told = c.take_page.ensures.number.1;
      register = c.take_page.ensures.register;
      sums = c.take_page.ensures.sums;
    } in
    let page = page_ends mid c.take_page.new.self limit ((encoding ++ take first piece) ++ more) change c.args.number longer c.requires.more c.requires.untold whole takes in
    let used : first + c.fill.result ≤ length piece = omega (arith, c.fill.ensures.count, c.split_at.ensures.back_len) in
    let few : length old.held.items + c.fill.result ≤ 4 + old.header.page_size =
    omega (arith, whole, grown, length-append old.held.items (take c.fill.result c.split_at.result.1.now), length-take c.fill.result c.split_at.result.1.now, c.fill.ensures.count) in (
      omega (arith, less, whole, grown, length-append old.held.items (take c.fill.result c.split_at.result.1.now), length-take c.fill.result c.split_at.result.1.now, c.fill.ensures.count),
      used,
      none_in_block encoding piece change (first + c.fill.result) (first + c.fill.result) read (λ i. omega (arith, c.type_inv.piece i)) used (omega arith)
          (inl (page_bound old limit encoding piece first change has.feeding c.requires.untold read c.requires.within c.fill.result few)),
      subst (λ (t : List ℕ). ShowsPage c.take_page.new.self limit c.args.number t) (sym (two_taken encoding piece first c.fill.result)) page,
    )
