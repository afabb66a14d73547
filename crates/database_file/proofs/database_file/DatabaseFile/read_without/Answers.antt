-- By the lemma on the pages of a span.
use Rattle.std.proofs.Common.{◌≡◌, ◌-◌, ◌*◌, length, rules, arith}
use Rattle.database_file.specs.DatabaseFile.{without_pages}
use Rattle.database_file.proofs.ReadLemmas.{told_read, told_past, span_fits}
use Rattle.database_file.proofs.database_file.DatabaseFile.read_without.Goals as goal

pub returns-clause-bytes : goal.returns-clause-bytes
returns-clause-bytes g c =
    told_read _ (without_pages c.args.self.now c.args.passed.now) c.page_size.result c.commit-commit.result c.count_over-count.result c.size_over-page_size.result c.args.at c.args.size
    c.min-end.result c.span-before.result.0 c.span-before.result.1 c.append_all.new.text.items c.in_ok-bytes.bytes.items
    (rw (c.page_size.ensures.value, c.commit-commit.ensures.value) c.requires.fits)
    c.page_size.ensures.told c.commit-commit.ensures.told c.commit-commit.ensures.valid
    c.size_over-page_size.ensures c.count_over-count.ensures (omega arith) (search rules) (search rules) c.span-before.ensures.order
    (search rules) (search rules) (search rules) (search rules)

pub returns-then-at-end-clause-bytes : goal.returns-then-at-end-clause-bytes
returns-then-at-end-clause-bytes g c =
    rw c.new.ensures.items
    (told_past _ (without_pages c.args.self.now c.args.passed.now) c.page_size.result c.commit-commit.result c.count_over-count.result c.size_over-page_size.result c.args.at c.args.size
    (rw (c.page_size.ensures.value, c.commit-commit.ensures.value) c.requires.fits)
    c.page_size.ensures.told c.commit-commit.ensures.told c.commit-commit.ensures.valid
    c.size_over-page_size.ensures c.count_over-count.ensures (search rules))

pub part-requires-clause-within : goal.part-requires-clause-within
part-requires-clause-within g c =
    let h = span_fits c.span-before.result.0 c.span-before.result.1 c.args.at c.min-end.result c.from-6.result (search rules) (omega arith)
    c.span-before.ensures.order (search rules) in
    let len : length c.append_all.new.text.items ≡ (c.span-before.result.1 - c.span-before.result.0) * c.from-6.result = search rules in
    rw len h
