use Rattle.std.proofs.Common.{sym, ◌∙◌, refl, arith}
use Rattle.wal_watch.specs.Frames.{committed_count}
use Rattle.wal_watch.proofs.ChangeLemmas.{latest_none, latest_here, latest_other}
use Rattle.wal_watch.proofs.CommitLemmas.{frame_there}
use Rattle.wal_watch.proofs.finding.latest_since.Goals as goal
use Rattle.wal_watch.proofs.finding.latest_since.Goals.{then-number_in-page, else-number_in-page}

pub loop-frame-init : goal.loop-frame-init
loop-frame-init c = sym (latest_none c.args.contents.now.bytes c.args.page c.args.from c.args.from (omega arith))

pub loop-frame-preserved : goal.loop-frame-preserved
loop-frame-preserved c =
    let k = c.loop-frame.frame in
    elim c.if-number_in-page.branch [
      | then-number_in-page w ↦
          w.latest-is ∙ sym (latest_here c.args.contents.now.bytes c.args.page c.args.from k c.loop-frame.auto.frame (sym c.number_in.ensures ∙ w.if-number_in-page.true))
      | else-number_in-page w ↦ w.latest-is ∙ c.loop-frame.invariant
          ∙ sym (latest_other c.args.contents.now.bytes c.args.page c.args.from k (λ is. w.if-number_in-page.false (c.number_in.ensures ∙ is)))
    ]

pub number_in-requires-clause-there : goal.number_in-requires-clause-there
number_in-requires-clause-there c =
    frame_there c.args.contents.now.bytes (committed_count c.args.contents.now.bytes) c.loop-frame.frame refl (omega (arith, c.loop-frame-test.true, c.requires.among))
