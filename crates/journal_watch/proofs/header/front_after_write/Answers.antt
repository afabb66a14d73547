-- The front of the file after the write is the front with the part of the write that lies in it.
use Rattle.std.proofs.Common.{ap, sym, ◌∙◌, take, List, ℕ}
use Rattle.lf_base.specs.FileBytes.{written}
use Rattle.lf_base.proofs.FileLemmas.{take-written, take-written_within}
use Rattle.journal_watch.proofs.header.front_after_write.Goals as goal

pub returns-then-at-lt8 : goal.returns-then-at-lt8
returns-then-at-lt8 c =
    c.overwrite.ensures
    ∙ ap (λ (piece : List ℕ). written c.args.at piece c.front_of-front.result) c.split_at.ensures.front
    ∙ ap (λ (front : List ℕ). written c.args.at (take c.min.result c.args.bytes.now) front) c.front_of-front.ensures
    ∙ sym (take-written_within c.args.at c.args.bytes.now c.args.file.now.bytes 8 c.min.result c.if-at-lt8.true c.requires c.min.ensures)

pub returns-else-at-lt8 : goal.returns-else-at-lt8
returns-else-at-lt8 c = c.front_of-front.ensures ∙ sym (take-written c.args.at c.args.bytes.now c.args.file.now.bytes 8 c.if-at-lt8.false c.requires)
