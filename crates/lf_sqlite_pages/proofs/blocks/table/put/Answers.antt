use Rattle.std.proofs.Common.{◌≡◌, ◌-◌, ◌/◌, ◌%◌, ◌<◌, [], ap, sym, ◌∙◌, List, ℕ, length, arith, drop, take, refl, get_or}
use Rattle.std.proofs.Common.{lit<}
use Rattle.std.proofs.lemmas.Nat.{mod_below}
use Rattle.std.proofs.lemmas.Bool.Decides.{nat_tests}
use Rattle.std.proofs.lemmas.List.{get_or_read, drop-drop}
use Rattle.lf_sqlite_pages.specs.BlockTable.{block_at, IsWhole}
use Rattle.lf_sqlite_pages.proofs.BlockLemmas.{put-more, whole-there}
use Rattle.lf_sqlite_pages.proofs.blocks.table.put.Goals as goal

pub bounds-blocks-place : goal.bounds-blocks-place
bounds-blocks-place c =
    let some : 0 < length c.loop-rest.rest.now = grind (arith, nat_tests) in
    let n = c.loop-rest.place / 4096 in
    let whole : IsWhole c.loop-rest.blocks n =
    c.loop-rest.invariant.put.sizes n ∙ c.requires.kept (omega (arith, some)) n (omega arith) (omega (arith, some)) in
    whole-there c.loop-rest.blocks n whole

pub put-requires : goal.put-requires
put-requires c =
    let some : 0 < length c.loop-rest.rest.now = grind (arith, nat_tests) in
    let n = c.loop-rest.place / 4096 in
    let whole : IsWhole c.loop-rest.blocks n =
    c.loop-rest.invariant.put.sizes n ∙ c.requires.kept (omega (arith, some)) n (omega arith) (omega (arith, some)) in
    let is = sym c.index-blocks-place.is ∙ get_or_read c.loop-rest.blocks n c.index-blocks-place.result (whole-there c.loop-rest.blocks n whole) c.index-blocks-place.is [] in
    omega (arith, ap length is, whole, c.split_at.ensures.front_len, c.min.ensures, mod_below c.loop-rest.place 4096 (lit< tt))

pub loop-rest-preserved : goal.loop-rest-preserved
loop-rest-preserved c =
    let some : 0 < length c.loop-rest.rest.now = grind (arith, nat_tests) in
    let n = c.loop-rest.place / 4096 in
    let piece = c.split_at.result.0.now in
    let whole : IsWhole c.loop-rest.blocks n =
    c.loop-rest.invariant.put.sizes n ∙ c.requires.kept (omega (arith, some)) n (omega arith) (omega (arith, some)) in
    let block = get_or c.loop-rest.blocks n c.index-blocks-place.result in
    let is : get_or c.loop-rest.blocks n c.index-blocks-place.result ≡ block_at c.loop-rest.blocks n = sym c.index-blocks-place.is ∙ get_or_read c.loop-rest.blocks n c.index-blocks-place.result (whole-there c.loop-rest.blocks n whole) c.index-blocks-place.is [] in
    let piece-is : piece ≡ take (length piece) c.loop-rest.rest.now = c.split_at.ensures.front ∙ ap (λ (k : ℕ). take k c.loop-rest.rest.now) (sym c.split_at.ensures.front_len) in
    record {
      from = omega arith;
      to = omega (arith, c.split_at.ensures.back_len, c.split_at.ensures.front_len, c.loop-rest.invariant.to);
      rest =
          c.split_at.ensures.back
          ∙ ap (λ (l : List ℕ). drop c.min.result l) c.loop-rest.invariant.rest
          ∙ drop-drop c.min.result (c.loop-rest.place - c.args.at) c.args.bytes.now
          ∙ ap (λ (k : ℕ). drop k c.args.bytes.now) (omega (arith, c.split_at.ensures.front_len, c.loop-rest.invariant.from));
      put =
          rw c.put.ensures
          (put-more c.args.blocks.now c.loop-rest.blocks c.args.at c.loop-rest.place n (c.loop-rest.place % 4096) c.args.bytes.now c.loop-rest.rest.now piece block
          c.loop-rest.invariant.put c.loop-rest.invariant.from c.loop-rest.invariant.rest piece-is refl refl (omega (arith, c.split_at.ensures.front_len, c.min.ensures)) whole is);
    }
