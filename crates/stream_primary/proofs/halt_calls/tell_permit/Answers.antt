use Rattle.std.proofs.Common.{rules, ◌≡◌, Some, None}
use Rattle.stream_primary.specs.HaltCalls.{nowhere, permitted, place_in}
use Rattle.stream_primary.proofs.halt_calls.tell_permit.Goals as goal

pub returns-in-Some-clause-tells : goal.returns-in-Some-clause-tells
returns-in-Some-clause-tells g c =
    let is : place_in c.in-Ok.answer ≡ Some c.in-Some.pos = search rules in
    permitted c.in-Ok.answer c.in-Some.pos is c.in-Ok.ensures.asked c.say_permit.ensures.end

pub returns-in-Ok-clause-tells : goal.returns-in-Ok-clause-tells
returns-in-Ok-clause-tells g c =
    let is : place_in c.in-Ok.answer ≡ None = search rules in
    nowhere c.in-Ok.answer is c.in-Ok.ensures.asked c.reply_to.ensures.end
