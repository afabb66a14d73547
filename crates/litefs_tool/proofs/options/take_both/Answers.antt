use Rattle.litefs_tool.proofs.BothLemmas.{begins_in_order, begins_turned, none_at_all, none_in_order, none_turned}
use Rattle.litefs_tool.proofs.options.take_both.Goals as goal

pub returns-in_ok-other-in-Some : goal.returns-in_ok-other-in-Some
returns-in_ok-other-in-Some c =
    let one = c.in-Some.ensures.found in
    let other = c.in_ok-other-in-Some.ensures.found in
    begins_in_order c.args.first.now c.args.second.now c.in-Some.one.now c.in_ok-other-in-Some.other.now c.args.words.now one.0 c.in-Some.rest.now
    other.0 c.in_ok-other-in-Some.rest.now one.2 one.1 other.2 other.1

pub returns-in_err-other-in-Some : goal.returns-in_err-other-in-Some
returns-in_err-other-in-Some c =
    let one = c.in-Some.ensures.found in
    rw c.from_residual.ensures (none_in_order c.args.first.now c.args.second.now c.in-Some.one.now one.0 c.in-Some.rest.now c.args.words.now c.requires
    one.2 one.1 c.in_err-other-in-Some.ensures.none)

pub returns-in_ok-one-in-None : goal.returns-in_ok-one-in-None
returns-in_ok-one-in-None c =
    let other = c.in_ok-other-in-None.ensures.found in
    let one = c.in_ok-one-in-None.ensures.found in
    begins_turned c.args.first.now c.args.second.now c.in_ok-one-in-None.one.now c.in_ok-other-in-None.other.now c.args.words.now other.0
    c.in_ok-other-in-None.rest.now one.0 c.in_ok-one-in-None.rest.now other.2 other.1 one.2 one.1

pub returns-in_err-one-in-None : goal.returns-in_err-one-in-None
returns-in_err-one-in-None c =
    let other = c.in_ok-other-in-None.ensures.found in
    rw c.from_residual-in_err-one-in-None.ensures (none_turned c.args.first.now c.args.second.now c.in_ok-other-in-None.other.now other.0
    c.in_ok-other-in-None.rest.now c.args.words.now other.2 other.1 c.in_err-one-in-None.ensures.none c.in-None.ensures.none)

pub returns-in_err-other-in-None : goal.returns-in_err-other-in-None
returns-in_err-other-in-None c =
    rw c.from_residual-in_err-other-in-None.ensures (none_at_all c.args.first.now c.args.second.now c.args.words.now c.in-None.ensures.none
    c.in_err-other-in-None.ensures.none)
