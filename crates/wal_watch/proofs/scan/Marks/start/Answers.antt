use Rattle.std.proofs.Common.{◌≤◌, length, ◌∙◌, sym, refl, arith}
use Rattle.lf_base.specs.FileBytes.{resized}
use Rattle.lf_base.proofs.FileLemmas.{length-resized}
use Rattle.wal_watch.proofs.FrontLemmas.{short_header, front_header, front_sums, front_states, marks-none}
use Rattle.wal_watch.proofs.scan.Marks.start.Goals as goal

pub returns-then-len-lt-HEADER_LENGTH-clause-none : goal.returns-then-len-lt-HEADER_LENGTH-clause-none
returns-then-len-lt-HEADER_LENGTH-clause-none c =
    short_header (resized c.args.len c.args.blocks.now.bytes) (omega (arith, length-resized c.args.len c.args.blocks.now.bytes, c.if-len-lt-HEADER_LENGTH.true))

pub returns-then-not-is_header-clause-none : goal.returns-then-not-is_header-clause-none
returns-then-not-is_header-clause-none c =
    let contents = resized c.args.len c.args.blocks.now.bytes in
    let room : 32 ≤ length (resized c.args.len c.args.blocks.now.bytes) = omega (arith, length-resized c.args.len c.args.blocks.now.bytes, c.if-len-lt-HEADER_LENGTH.false) in
    sym (front_header c.fill.new.out contents (c.fill.ensures c.args.len c.if-len-lt-HEADER_LENGTH.false) room) ∙ sym c.is_header.ensures.value ∙ c.if-not-is_header.true

pub returns-clause-some : goal.returns-clause-some
returns-clause-some c =
    let contents = resized c.args.len c.args.blocks.now.bytes in
    let room : 32 ≤ length (resized c.args.len c.args.blocks.now.bytes) = omega (arith, length-resized c.args.len c.args.blocks.now.bytes, c.if-len-lt-HEADER_LENGTH.false) in
    let is = c.fill.ensures c.args.len c.if-len-lt-HEADER_LENGTH.false in
    marks-none contents c.of.result _ (front_states c.fill.new.out contents is c.of.result room c.of.ensures) room refl refl (c.header_sums.ensures ∙ front_sums c.fill.new.out contents is)
