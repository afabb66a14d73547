use Rattle.std.proofs.Common.{◌≡◌, ◌≤◌, ◌+◌, ◌-◌, ◌++◌, ℕ, List, length, take, drop, refl, sym, ap, arith, ◌∙◌, subst, inr, length-append}
use Rattle.std.proofs.lemmas.List.{length-take, take_all}
use Rattle.ltx_codec.specs.Decoding.{ShowsFile, IsRefusedWithin}
use Rattle.ltx_codec.specs.steps.Feeding.{HasRightSums, BreaksSums}
use Rattle.ltx_codec.specs.declared.decoder.Decoder.{Decoder}
use Rattle.ltx_codec.proofs.EncodingLemmas.{AreBytes-take, AreBytes-drop}
use Rattle.ltx_codec.proofs.FeedLemmas.{refused_first}
use Rattle.ltx_codec.proofs.PieceLemmas.{Grows, two_taken}
use Rattle.ltx_codec.proofs.PartLemmas.{none_in_block, end_stays}
use Rattle.ltx_codec.proofs.PageLemmas.{number_longer}
use Rattle.ltx_codec.proofs.TrailerLemmas.{trailer_more, trailer_refused, trailer_ends}
use Rattle.ltx_codec.proofs.decoder.Decoder.feed_trailer.Goals as goal

pub returns-in-Err-clause-gives : goal.returns-in-Err-clause-gives
returns-in-Err-clause-gives c limit encoding change has read part less =
    let old = c.args.self.now in
    let piece = c.args.piece.now in
    let first = c.args.first in
    let more = take c.fill.result (drop first piece) in
    let mid : Decoder = record {
      limit = old.limit;
      held = c.fill.new.held;
      told = old.told;
      in_block = old.in_block;
      header = old.header;
      number = old.number;
      sums = old.sums;
      register = old.register;
      post = old.post;
      fault = old.fault;
      sized = old.sized;
      room = (omega (arith, old.room.0, c.fill.ensures.capacity), omega (arith, old.room.1, c.fill.ensures.capacity), old.room.2);
    } in
    let grows : Grows old mid more = record {
      stays = record { fault = refl; limit = refl };
      untold = c.requires.untold;
      told = refl;
      stage = refl;
      header = refl;
      number = refl;
      sums = refl;
      register = refl;
      held = c.fill.ensures.items ∙ ap (λ (l : List ℕ). old.held.items ++ take c.fill.result l) c.split_at.ensures.back;
    } in
    let longer = number_longer old mid limit (encoding ++ take first piece) more change 0 has grows (AreBytes-take c.fill.result (drop first piece) (AreBytes-drop first piece (λ i. omega (arith, c.type_inv.piece i)))) in
    let breaks : BreaksSums old.header old.sums old.register c.fill.new.held.items c.in-Err.fault =
    subst (λ (l : List ℕ). BreaksSums old.header old.sums old.register l c.in-Err.fault) c.as_slice-held.ensures.value c.in-Err.ensures.fault in
    let refused = trailer_refused mid limit ((encoding ++ take first piece) ++ more) change longer c.requires.untold c.in-Err.fault breaks in
    let used : first + c.fill.result ≤ length piece = omega (arith, c.fill.ensures.count, c.split_at.ensures.back_len) in
    refused_first limit encoding piece (first + c.fill.result) c.in-Err.fault used
    (none_in_block encoding piece change (first + c.fill.result) (first + c.fill.result) read (λ i. omega (arith, c.type_inv.piece i)) used (omega arith)
    (inr (end_stays old limit encoding piece first change has c.fill.result)))
    (subst (λ (t : List ℕ). IsRefusedWithin limit t c.in-Err.fault) (sym (two_taken encoding piece first c.fill.result)) refused)

pub returns-then-held-lt-TRAILER-clause-gives : goal.returns-then-held-lt-TRAILER-clause-gives
returns-then-held-lt-TRAILER-clause-gives c limit encoding change has read part less =
    let old = c.args.self.now in
    let piece = c.args.piece.now in
    let rest = c.split_at.result.1.now in
    let all : take c.fill.result rest ≡ drop c.args.first piece =
    take_all c.fill.result rest (omega (arith, c.fill.ensures.count, c.fill.ensures.len, c.as_slice-held.ensures.len, c.if-held-lt-TRAILER.true)) ∙ c.split_at.ensures.back in (
      trailer_more old _ limit encoding piece c.args.first change has
          (record {
            stays = record { fault = refl; limit = refl };
            untold = c.requires.untold;
            told = refl;
            stage = refl;
            header = refl;
            number = refl;
            sums = refl;
            register = refl;
            held = c.fill.ensures.items ∙ ap (λ (l : List ℕ). old.held.items ++ l) all;
          })
          (λ i. omega (arith, c.type_inv.piece i))
          (subst (λ (l : List ℕ). HasRightSums old.header old.sums old.register l) c.as_slice-held.ensures.value c.in_default.ensures.ok)
          (omega (arith, c.fill.ensures.size, c.as_slice-held.ensures.len, c.if-held-lt-TRAILER.true)),
      let within = c.requires.within in
          none_in_block encoding piece change (c.args.first + (length piece - c.args.first)) (length piece + 1) read (λ i. omega (arith, c.type_inv.piece i)) (omega (arith, within)) (omega (arith, within))
          (inr (end_stays old limit encoding piece c.args.first change has (length piece - c.args.first))),
    )

pub returns-clause-gives : goal.returns-clause-gives
returns-clause-gives c limit encoding change has read part less =
    let old = c.args.self.now in
    let piece = c.args.piece.now in
    let first = c.args.first in
    let more = take c.fill.result (drop first piece) in
    let mid : Decoder = record {
      limit = old.limit;
      held = c.fill.new.held;
      told = old.told;
      in_block = old.in_block;
      header = old.header;
      number = old.number;
      sums = old.sums;
      register = old.register;
      post = old.post;
      fault = old.fault;
      sized = old.sized;
      room = (omega (arith, old.room.0, c.fill.ensures.capacity), omega (arith, old.room.1, c.fill.ensures.capacity), old.room.2);
    } in
    let grows : Grows old mid more = record {
      stays = record { fault = refl; limit = refl };
      untold = c.requires.untold;
      told = refl;
      stage = refl;
      header = refl;
      number = refl;
      sums = refl;
      register = refl;
      held = c.fill.ensures.items ∙ ap (λ (l : List ℕ). old.held.items ++ take c.fill.result l) c.split_at.ensures.back;
    } in
    let longer = number_longer old mid limit (encoding ++ take first piece) more change 0 has grows (AreBytes-take c.fill.result (drop first piece) (AreBytes-drop first piece (λ i. omega (arith, c.type_inv.piece i)))) in
    let whole : length c.fill.new.held.items ≡ 20 =
    omega (
      arith,
      part,
      c.fill.ensures.size,
      c.fill.ensures.len,
      c.fill.ensures.count,
      c.as_slice-held.ensures.len,
      c.if-held-lt-TRAILER.false,
      ap length c.fill.ensures.items,
      length-append old.held.items (take c.fill.result c.split_at.result.1.now),
      length-take c.fill.result c.split_at.result.1.now,
    ) in
    let right : HasRightSums old.header old.sums old.register c.fill.new.held.items =
    subst (λ (l : List ℕ). HasRightSums old.header old.sums old.register l) c.as_slice-held.ensures.value c.in_default.ensures.ok in
    let file = trailer_ends mid limit ((encoding ++ take first piece) ++ more) change longer c.requires.untold right c.end_file.new.self whole
    (record { fault = c.end_file.ensures.same.1; limit = c.end_file.ensures.same.0 }) c.end_file.ensures.post c.end_file.ensures.same.2 c.end_file.ensures.told.0 c.end_file.ensures.told.1 in
    let used : first + c.fill.result ≤ length piece = omega (arith, c.fill.ensures.count, c.split_at.ensures.back_len) in (
      omega (arith, less, whole, ap length c.fill.ensures.items, length-append old.held.items (take c.fill.result c.split_at.result.1.now), length-take c.fill.result c.split_at.result.1.now, c.fill.ensures.count),
      used,
      none_in_block encoding piece change (first + c.fill.result) (first + c.fill.result) read (λ i. omega (arith, c.type_inv.piece i)) used (omega arith)
          (inr (end_stays old limit encoding piece first change has c.fill.result)),
      subst (λ (t : List ℕ). ShowsFile c.end_file.new.self limit t) (sym (two_taken encoding piece first c.fill.result)) file,
    )
