use Rattle.std.proofs.Common.{◌≡◌, ◌-◌, ◌<◌, [], sym, ap, ◌∙◌, length, arith, get_or}
use Rattle.std.proofs.lemmas.List.{get_or_read}
use Rattle.lf_sqlite_pages.specs.BlockTable.{block_at, IsBlank}
use Rattle.lf_sqlite_pages.proofs.BlockLemmas.{filled-none, filled-same, filled-taken, blank-there, missing-ready}
use Rattle.lf_sqlite_pages.proofs.blocks.table.take_ready.Goals as goal
use Rattle.lf_sqlite_pages.proofs.blocks.table.take_ready.Goals.{then-not-is_kept, else-not-is_kept}

pub loop-n-init : goal.loop-n-init
loop-n-init c = filled-none c.args.blocks.now c.args.ready.now c.args.first c.args.from

pub bounds-ready-n : goal.bounds-ready-n
bounds-ready-n c =
    let n = c.loop-n.n in
    let none : block_at c.loop-n.blocks n ≡ [] = sym (sym c.index-blocks-n.is ∙ get_or_read c.loop-n.blocks n c.index-blocks-n.result (omega (arith, c.loop-n-test.true, c.requires.there)) c.index-blocks-n.is []) ∙ c.is_kept.ensures.none c.if-not-is_kept.true in
    blank-there c.loop-n.ready (n - c.args.first)
    (missing-ready c.loop-n.blocks c.args.first c.loop-n.ready n none (c.loop-n.invariant.still_ready n (omega (arith, c.requires.order.0, c.loop-n.auto.n)) (c.requires.ready n c.loop-n.auto.n c.loop-n-test.true)))

pub loop-n-preserved : goal.loop-n-preserved
loop-n-preserved c =
    let n = c.loop-n.n in
    let there : n < length c.loop-n.blocks = omega (arith, c.loop-n-test.true, c.requires.there) in
    let at : get_or c.loop-n.blocks n c.index-blocks-n.result ≡ block_at c.loop-n.blocks n = sym c.index-blocks-n.is ∙ get_or_read c.loop-n.blocks n c.index-blocks-n.result there c.index-blocks-n.is [] in
    elim c.if-not-is_kept.branch [
      | then-not-is_kept w ↦
          let none : block_at c.loop-n.blocks n ≡ [] = sym at ∙ c.is_kept.ensures.none w.if-not-is_kept.true in
          let blank : IsBlank (block_at c.loop-n.ready (n - c.args.first)) =
          missing-ready c.loop-n.blocks c.args.first c.loop-n.ready n none (c.loop-n.invariant.still_ready n (omega (arith, c.requires.order.0, c.loop-n.auto.n)) (c.requires.ready n c.loop-n.auto.n c.loop-n-test.true)) in
          let taken = w.swap.ensures.x_after ∙ sym w.index-ready-n.is ∙ get_or_read c.loop-n.ready (n - c.args.first) w.index-ready-n.result (blank-there c.loop-n.ready (n - c.args.first) blank) w.index-ready-n.is [] in
          rw (w.blocks-is, w.ready-is)
          (filled-taken c.args.blocks.now c.args.ready.now c.loop-n.blocks c.loop-n.ready c.args.first c.args.from n w.swap.new.x w.swap.new.y c.loop-n.invariant c.loop-n.auto.n c.requires.order.0 there none blank taken)
      | else-not-is_kept w ↦
          rw (w.blocks-is, w.ready-is)
          (filled-same c.args.blocks.now c.args.ready.now c.loop-n.blocks c.loop-n.ready c.args.first c.args.from n c.loop-n.invariant c.loop-n.auto.n
          (sym (ap length at) ∙ c.is_kept.ensures.kept.0 w.if-not-is_kept.false))
    ]

pub returns : goal.returns
returns c = let end : c.loop-n.n ≡ c.args.to = omega (arith, c.loop-n-test.false, c.loop-n.auto.n-end c.requires.order.1) in rw end at c.loop-n.invariant
