use Rattle.std.proofs.Common.{refl, sym, arith}
use Rattle.wal_watch.proofs.CommitLemmas.{frame_there}
use Rattle.wal_watch.proofs.IndexLemmas.{left-start, left-held, left-next, left-smaller, left-none}
use Rattle.wal_watch.proofs.finding.holds_frame.Goals as goal

pub loop-next-init : goal.loop-next-init
loop-next-init c = left-start c.args.contents.now.bytes c.args.count c.args.number c.args.page.now c.latest_frame-next.result c.latest_frame-next.ensures.latest

pub holds_page-requires-clause-size : goal.holds_page-requires-clause-size
holds_page-requires-clause-size c =
    let held = left-held c.args.contents.now.bytes c.args.count c.args.number c.args.page.now c.loop-next.next c.in-Some.frame c.loop-next.invariant c.in-Some.is in
    c.requires.size (omega (arith, held.among, c.requires.count))

pub holds_page-requires-clause-there : goal.holds_page-requires-clause-there
holds_page-requires-clause-there c =
    let held = left-held c.args.contents.now.bytes c.args.count c.args.number c.args.page.now c.loop-next.next c.in-Some.frame c.loop-next.invariant c.in-Some.is in
    frame_there c.args.contents.now.bytes c.args.count c.in-Some.frame c.requires.count held.among

pub returns-then-holds_page : goal.returns-then-holds_page
returns-then-holds_page c =
    let held = left-held c.args.contents.now.bytes c.args.count c.args.number c.args.page.now c.loop-next.next c.in-Some.frame c.loop-next.invariant c.in-Some.is in (
      λ on. (c.in-Some.frame, record { among = omega (arith, held.among, c.requires.count); number = held.number_is; same = c.holds_page.ensures.0 c.if-holds_page.true }),
      λ holds. refl,
    )

pub frame_before-next-requires-clause-among : goal.frame_before-next-requires-clause-among
frame_before-next-requires-clause-among c =
    let held = left-held c.args.contents.now.bytes c.args.count c.args.number c.args.page.now c.loop-next.next c.in-Some.frame c.loop-next.invariant c.in-Some.is in
    omega (arith, held.among, c.requires.count)

pub frame_before-next-requires-clause-page : goal.frame_before-next-requires-clause-page
frame_before-next-requires-clause-page c =
    sym (left-held c.args.contents.now.bytes c.args.count c.args.number c.args.page.now c.loop-next.next c.in-Some.frame c.loop-next.invariant c.in-Some.is).number_is

pub loop-next-smaller : goal.loop-next-smaller
loop-next-smaller c = left-smaller c.args.contents.now.bytes c.args.number c.in-Some.frame c.loop-next.next c.frame_before-next.result c.in-Some.is c.frame_before-next.ensures

pub loop-next-preserved : goal.loop-next-preserved
loop-next-preserved c =
    left-next c.args.contents.now.bytes c.args.count c.args.number c.args.page.now c.loop-next.next c.in-Some.frame c.frame_before-next.result c.loop-next.invariant c.in-Some.is
    (λ same. let on = c.holds_page.ensures.1 same in cc (on, c.if-holds_page.false)) c.frame_before-next.ensures

pub returns : goal.returns
returns c = (
  λ off. absurd cc,
  λ holds. absurd
      (left-none c.args.contents.now.bytes c.args.count c.args.number c.args.page.now c.loop-next.next holds.0 c.loop-next.invariant c.in_default.not-Some (rw c.requires.count holds.1)),
)
