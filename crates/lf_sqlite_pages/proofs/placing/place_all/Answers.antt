-- Each write that is left keeps what all of them lead to.
use Rattle.std.proofs.Common.{◌≡◌, ◌∷◌, ◌∙◌, length, ap, arith, rules}
use Rattle.std.specs.Vec.Iter.{into_iter_items}
use Rattle.std.proofs.lemmas.List.Elements.{All-head}
use Rattle.lf_sqlite_pages.specs.declared.page_write.PageWrite.{PageWrite}
use Rattle.lf_sqlite_pages.proofs.Applying.{WritesWhole}
use Rattle.lf_sqlite_pages.proofs.PlacingLemmas.{Placing, Placing-none, Placing-more}
use Rattle.lf_sqlite_pages.proofs.placing.place_all.Goals as goal

pub loop-write-init : goal.loop-write-init
loop-write-init c =
    let all : into_iter_items c.into_iter-write-iterator.result ≡ c.args.change.pages =
    c.into_iter-write-iterator.ensures.into_iter_gives.0 ∙ c.into_pages-write-items.ensures.value
    in
    record {
      counted = search rules;
      placing = rw (c.truncate.ensures.items, c.commit-count.ensures) (Placing-none c.args.change c.args.pages.items _ c.into_pages-write-items.ensures.valid all);
    }

pub place-requires : goal.place-requires
place-requires c =
    let P : PageWrite → Type 0 = λ w. WritesWhole c.args.change w in
    let all = c.loop-write.invariant.placing.within in
    let known : P c.in-Some.write = All-head P c.in-Some.write (into_iter_items c.next.new.self) (rw c.in-Some.ensures.steps.0 at all) in
    omega (arith, known.first)

pub loop-write-preserved : goal.loop-write-preserved
loop-write-preserved c =
    let rest = into_iter_items c.next.new.self in
    let steps : into_iter_items c.loop-write.write-iterator ≡ c.in-Some.write ∷ rest = c.in-Some.ensures.steps.0 in
    let before : Placing c.args.change c.args.pages.items c.loop-write.pages.items (c.in-Some.write ∷ rest) = rw steps at c.loop-write.invariant.placing in
    record {
      counted = omega (arith, c.loop-write.invariant.counted, ap length steps, c.in-Some.ensures.steps.1);
      placing = rw (c.in_ok-place.ensures, c.page_size-size.ensures.value) (Placing-more c.args.change c.args.pages.items c.loop-write.pages.items c.in-Some.write rest before);
    }
