use Rattle.std.proofs.Common.{◌+◌, ◌∙◌, sym, ap, arith}
use Rattle.lf_base.specs.FileBytes.{resized}
use Rattle.lf_base.proofs.FileLemmas.{length-resized}
use Rattle.wal_watch.specs.Sums.{stand_at}
use Rattle.wal_watch.specs.declared.sums.Sums.{Sums}
use Rattle.wal_watch.proofs.PieceLemmas.{frame-short, frame-headless, frame-unsummed, frame-valid, part-stand, part-be32}
use Rattle.wal_watch.proofs.scan.Marks.next.Goals as goal

pub returns-then-len-place-clause-none : goal.returns-then-len-place-clause-none
returns-then-len-place-clause-none c =
    let marks = c.requires.marks in
    frame-short (resized c.args.len c.args.blocks.now.bytes) c.args.self.now.last.place c.args.self.now.last.sums
    (omega (arith, length-resized c.args.len c.args.blocks.now.bytes, c.if-len-place.true, marks.header.page_size, marks.last.there))

pub returns-then-not-is_head-clause-none : goal.returns-then-not-is_head-clause-none
returns-then-not-is_head-clause-none c =
    let marks = c.requires.marks in
    let place = c.args.self.now.last.place in
    let contents = resized c.args.len c.args.blocks.now.bytes in
    let head = c.fill.ensures c.args.len (omega (arith, length-resized c.args.len c.args.blocks.now.bytes, c.if-len-place.false, marks.last.there)) in
    frame-headless contents place c.args.self.now.last.sums (sym (c.is_head.ensures contents place marks.header head) ∙ c.if-not-is_head.true)

pub returns-then-not-stand_at-clause-none : goal.returns-then-not-stand_at-clause-none
returns-then-not-stand_at-clause-none c =
    let marks = c.requires.marks in
    let place = c.args.self.now.last.place in
    let contents = resized c.args.len c.args.blocks.now.bytes in
    let head = c.fill.ensures c.args.len (omega (arith, length-resized c.args.len c.args.blocks.now.bytes, c.if-len-place.false, marks.last.there)) in
    let sums = c.frame_sums-sums.ensures c.args.len marks.header (omega (arith, length-resized c.args.len c.args.blocks.now.bytes, c.if-len-place.false, marks.last.there)) head in
    frame-unsummed contents place c.args.self.now.last.sums
    (ap (λ (s : Sums). stand_at s (place + 16) contents) (sym sums) ∙ sym (part-stand contents c.fill.new.out place 24 head c.frame_sums-sums.result 16 (omega arith))
    ∙ sym c.stand_at.ensures ∙ c.if-not-stand_at.true)

pub returns-clause-some : goal.returns-clause-some
returns-clause-some c =
    let marks = c.requires.marks in
    let place = c.args.self.now.last.place in
    let contents = resized c.args.len c.args.blocks.now.bytes in
    let head = c.fill.ensures c.args.len (omega (arith, length-resized c.args.len c.args.blocks.now.bytes, c.if-len-place.false, marks.last.there)) in
    let sums = c.frame_sums-sums.ensures c.args.len marks.header (omega (arith, length-resized c.args.len c.args.blocks.now.bytes, c.if-len-place.false, marks.last.there)) head in
    record {
      valid =
          frame-valid contents place c.args.self.now.last.sums (omega (arith, length-resized c.args.len c.args.blocks.now.bytes, c.if-len-place.false, marks.header.page_size, marks.last.there))
          (sym (c.is_head.ensures contents place marks.header head) ∙ c.if-not-is_head.false)
          (ap (λ (s : Sums). stand_at s (place + 16) contents) (sym sums) ∙ sym (part-stand contents c.fill.new.out place 24 head c.frame_sums-sums.result 16 (omega arith))
          ∙ sym c.stand_at.ensures ∙ c.if-not-stand_at.false);
      sums = sums;
      size = c.be32_at.ensures ∙ part-be32 contents c.fill.new.out place 24 head 4 (omega arith);
    }
