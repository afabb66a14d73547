use Rattle.std.proofs.Common.{◌≤◌, length, arith, sym, ◌∙◌}
use Rattle.lf_base.specs.FileBytes.{written}
use Rattle.wal_watch.proofs.FrontLemmas.{short_header, front_header, front_size}
use Rattle.wal_watch.proofs.check.page_size_after.Goals as goal

pub returns-then-length_after-lt-HEADER_LENGTH-clause-none : goal.returns-then-length_after-lt-HEADER_LENGTH-clause-none
returns-then-length_after-lt-HEADER_LENGTH-clause-none c =
    short_header (written c.args.at c.args.bytes.now c.args.contents.now.bytes) (omega (arith, c.length_after.ensures, c.if-length_after-lt-HEADER_LENGTH.true))

pub returns-then-not-is_header-clause-none : goal.returns-then-not-is_header-clause-none
returns-then-not-is_header-clause-none c =
    let there : 32 ≤ length (written c.args.at c.args.bytes.now c.args.contents.now.bytes) = omega (arith, c.length_after.ensures, c.if-length_after-lt-HEADER_LENGTH.false) in
    sym (front_header _ _ c.fill_header.ensures there) ∙ sym c.is_header.ensures.value ∙ c.if-not-is_header.true

pub returns-clause-valid : goal.returns-clause-valid
returns-clause-valid c =
    let there : 32 ≤ length (written c.args.at c.args.bytes.now c.args.contents.now.bytes) = omega (arith, c.length_after.ensures, c.if-length_after-lt-HEADER_LENGTH.false) in
    sym (front_header _ _ c.fill_header.ensures there) ∙ sym c.is_header.ensures.value ∙ c.if-not-is_header.false

pub returns-clause-size : goal.returns-clause-size
returns-clause-size c = c.be32_at.ensures ∙ front_size _ _ c.fill_header.ensures
