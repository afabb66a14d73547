-- A page that is in no frame ends it.
use Rattle.std.proofs.Common.{◌≡◌, ◌+◌, ◌/◌, ℕ, Bool, true, false, length, arith, sym}
use Rattle.wal_watch.specs.File.{contents_of}
use Rattle.database_file.specs.Writing.{page_in}
use Rattle.file_view.specs.DatabaseRules.{holds_frame}
use Rattle.file_view.proofs.FrameLemmas.{all-more, all-less}
use Rattle.file_view.proofs.database.hold_frames.Goals as goal

pub returns-then-not-holds_frame : goal.returns-then-not-holds_frame
returns-then-not-holds_frame c =
    let p : ℕ → Bool = λ k. holds_frame (contents_of c.args.log.now) (c.args.first + k) (page_in c.args.bytes.now c.args.size k) in
    let off : p c.loop-at.at ≡ false = cc (c.holds_frame.ensures, c.if-not-holds_frame.true) in
    sym (all-less p 0 (length c.args.bytes.now / c.args.size) c.loop-at.at c.loop-at.at c.loop-at-test.true (omega arith) off)

pub loop-at-preserved : goal.loop-at-preserved
loop-at-preserved c =
    let p : ℕ → Bool = λ k. holds_frame (contents_of c.args.log.now) (c.args.first + k) (page_in c.args.bytes.now c.args.size k) in
    let on : p c.loop-at.at ≡ true = cc (c.holds_frame.ensures, c.if-not-holds_frame.false) in
    all-more p 0 c.loop-at.at c.loop-at.at c.loop-at.invariant (omega arith) on
