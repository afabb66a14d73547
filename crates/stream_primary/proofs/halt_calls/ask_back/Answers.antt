use Rattle.std.proofs.Common.{rules, ◌≡◌, true, false}
use Rattle.stream_primary.specs.HaltCalls.{is_quiet, not_taken, taken_back}
use Rattle.stream_primary.proofs.halt_calls.ask_back.Goals as goal

pub returns-then-is_quiet-clause-gives : goal.returns-then-is_quiet-clause-gives
returns-then-is_quiet-clause-gives g c =
    let is : is_quiet c.in-Ok.answer ≡ true = search rules in
    taken_back c.in-Ok.answer is c.in-Ok.ensures.asked c.say.ensures.end

pub returns-in-Ok-clause-gives : goal.returns-in-Ok-clause-gives
returns-in-Ok-clause-gives g c =
    let is : is_quiet c.in-Ok.answer ≡ false = search rules in
    not_taken c.in-Ok.answer is c.in-Ok.ensures.asked c.reply_to.ensures.end
