use Rattle.std.proofs.Common.{arith}
use Rattle.lf_base.specs.FileBytes.{resized}
use Rattle.lf_base.proofs.FileLemmas.{length-resized}
use Rattle.wal_watch.proofs.ScanLemmas.{frames_fit}
use Rattle.wal_watch.proofs.scan.Marks.go_on.Goals as goal

pub pass-marks-requires-clause-short : goal.pass-marks-requires-clause-short
pass-marks-requires-clause-short c = omega (arith, c.in-Some.ensures.room, c.requires.short)

pub pass-marks-requires-clause-few : goal.pass-marks-requires-clause-few
pass-marks-requires-clause-few c =
    let contents = resized c.args.len c.args.blocks.now.bytes in
    let last = c.loop-frame.invariant.last in
    omega (arith, frames_fit contents c.loop-frame.marks.last.frames (rw (← last.place) last.there), length-resized c.args.len c.args.blocks.now.bytes, c.requires.short)

pub loop-frame-smaller : goal.loop-frame-smaller
loop-frame-smaller c = omega (arith, c.in-Some.ensures.room, c.pass-marks.ensures.progress)
