use Rattle.std.proofs.Common.{rules}
use Rattle.litefs_tool.proofs.OptionLemmas.{found_apart, found_joined, none_joined}
use Rattle.litefs_tool.proofs.options.take_option.Goals as goal

pub returns-then-eq-clause-found : goal.returns-then-eq-clause-found
returns-then-eq-clause-found c =
    let same = c.eq.ensures in
    found_apart c.args.flag.now c.as_str-then-eq.result.now c.args.words.now c.in_ok-value.rest.now _ (search rules) c.with_value.ensures

pub returns-clause-found : goal.returns-clause-found
returns-clause-found c = found_joined c.args.flag.now c.in_ok-value-2.value.now c.args.words.now c.in_ok-first.rest.now _ (search rules) c.with_value-2.ensures

pub returns-clause-none : goal.returns-clause-none
returns-clause-none c = none_joined c.args.flag.now c.in_ok-value-2.value.now c.args.words.now c.in_ok-first.rest.now _ (search rules) c.with_value-2.ensures
