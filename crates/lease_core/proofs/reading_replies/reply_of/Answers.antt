use Rattle.std.proofs.Common.{arith, ◌≡◌, ◌∙◌, sym}
use Rattle.serde_json.specs.Events.{members_len}
use Rattle.serde_json.specs.View.{members_view}
use Rattle.lease_core.proofs.Shapes.{members_len-view, no_renewed, no_refused, no_grant, no_other_reply, if_err}
use Rattle.lease_core.proofs.reading_replies.reply_of.Goals as goal

pub returns-in-1-clause-fault : goal.returns-in-1-clause-fault
returns-in-1-clause-fault c =
    let n : members_len (members_view c.args.members.now.entries) ≡ 1 = members_len-view c.args.members.now.entries ∙ sym c.len.ensures.len ∙ c.in-1.is in
    if_err c.renewed.result (λ f. no_renewed (members_view c.args.members.now.entries) f n) c.renewed.ensures.fault

pub returns-in-2-clause-fault : goal.returns-in-2-clause-fault
returns-in-2-clause-fault c =
    let n : members_len (members_view c.args.members.now.entries) ≡ 2 = members_len-view c.args.members.now.entries ∙ sym c.len.ensures.len ∙ c.in-2.is in
    if_err c.refused.result (λ f. no_refused (members_view c.args.members.now.entries) f n) c.refused.ensures.fault

pub returns-in-4-clause-fault : goal.returns-in-4-clause-fault
returns-in-4-clause-fault c =
    let n : members_len (members_view c.args.members.now.entries) ≡ 4 = members_len-view c.args.members.now.entries ∙ sym c.len.ensures.len ∙ c.in-4.is in
    if_err c.grant.result (λ f. no_grant (members_view c.args.members.now.entries) f n) c.grant.ensures.fault

pub returns-in_default-clause-fault : goal.returns-in_default-clause-fault
returns-in_default-clause-fault c =
    let n = members_len-view c.args.members.now.entries ∙ sym c.len.ensures.len in
    no_other_reply (members_view c.args.members.now.entries) (λ e. omega arith) (λ e. omega arith) (λ e. omega arith) (λ e. omega arith)
