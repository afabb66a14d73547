use Rattle.std.proofs.Common.{◌∙◌, arith, inl}
use Rattle.lf_base.specs.FileBytes.{written}
use Rattle.wal_watch.proofs.CheckLemmas.{first_other, first_same}
use Rattle.wal_watch.proofs.WriteLemmas.{end_there}
use Rattle.wal_watch.proofs.check.check_write.Goals as goal

pub returns-then-not-keeps_header-clause-first : goal.returns-then-not-keeps_header-clause-first
returns-then-not-keeps_header-clause-first c =
    first_other c.args.contents.now.bytes (written c.args.at c.args.bytes.now c.args.contents.now.bytes) (inl (λ same. let on = c.keeps_header.ensures.1 same in cc (on, c.if-not-keeps_header.true)))

pub keeps-requires : goal.keeps-requires
keeps-requires c = omega (arith, c.requires.end, end_there c.args.contents.now.bytes)

pub returns-clause-first : goal.returns-clause-first
returns-clause-first c =
    c.requires.count ∙ first_same c.args.contents.now.bytes (written c.args.at c.args.bytes.now c.args.contents.now.bytes) (c.keeps_header.ensures.0 c.if-not-keeps_header.false)
