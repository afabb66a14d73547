use Rattle.std.proofs.Common.{arith, ◌≡◌, ◌∙◌, sym}
use Rattle.serde_json.specs.Events.{members_len}
use Rattle.serde_json.specs.View.{members_view}
use Rattle.lease_core.proofs.Shapes.{members_len-view, no_info, no_term, no_acquire, no_other, if_err}
use Rattle.lease_core.proofs.reading.ask_of.Goals as goal

pub returns-in-1-clause-fault : goal.returns-in-1-clause-fault
returns-in-1-clause-fault c =
    let n : members_len (members_view c.args.members.now.entries) ≡ 1 = members_len-view c.args.members.now.entries ∙ sym c.len.ensures.len ∙ c.in-1.is in
    if_err c.info.result (λ f. no_info (members_view c.args.members.now.entries) f n) c.info.ensures.fault

pub returns-in-3-clause-fault : goal.returns-in-3-clause-fault
returns-in-3-clause-fault c =
    let n : members_len (members_view c.args.members.now.entries) ≡ 3 = members_len-view c.args.members.now.entries ∙ sym c.len.ensures.len ∙ c.in-3.is in
    if_err c.term_ask.result (λ f. no_term (members_view c.args.members.now.entries) f n) c.term_ask.ensures.fault

pub returns-in-4-clause-fault : goal.returns-in-4-clause-fault
returns-in-4-clause-fault c =
    let n : members_len (members_view c.args.members.now.entries) ≡ 4 = members_len-view c.args.members.now.entries ∙ sym c.len.ensures.len ∙ c.in-4.is in
    if_err c.acquire.result (λ f. no_acquire (members_view c.args.members.now.entries) f n) c.acquire.ensures.fault

pub returns-in_default-clause-fault : goal.returns-in_default-clause-fault
returns-in_default-clause-fault c =
    let n = members_len-view c.args.members.now.entries ∙ sym c.len.ensures.len in
    no_other (members_view c.args.members.now.entries) (λ e. omega arith) (λ e. omega arith) (λ e. omega arith)
