-- A request went by the plan that the served files answered.
use Rattle.std.proofs.Common.{◌∙◌, ap, inl, refl, subst, Some}
use Rattle.file_view.specs.declared.requests.Plan.{Plan}
use Rattle.file_view.specs.declared.requests.Plan.TheVariants as plan
use Rattle.lf_sqlite_pages.specs.Apply.{apply}
use Rattle.lf_sqlite_pages.specs.Change.{PageChange}
use Rattle.lf_sqlite_pages.specs.Complete.{complete}
use Rattle.lf_sqlite_pages.specs.Image.{DatabaseImage}
use Rattle.file_view.specs.Endings.{committed}
use Rattle.conversations.specs.declared.outcome.Outcome.{Outcome}
use Rattle.conversations.specs.declared.replay.Replay.{Replay}
use Rattle.conversations.specs.Replaying.{IsOver, IsPlanned, one_more}
use Rattle.conversations.proofs.replay.Replay.answer.Goals as goal

pub returns-in-Ok-Reply : goal.returns-in-Ok-Reply
returns-in-Ok-Reply c =
    let p : Plan = plan.Reply c.in-Ok-Reply.reply in
    let new : Replay = record { files = c.ask.new.self; transactions = c.args.self.now.transactions } in
    let went : IsPlanned c.args.self.now c.args.message.now c.args.request.now p c.ask.new.self.view c.without_commit.result new = record {
      done = rw c.in-Ok-Reply.field-0-is at c.in-Ok-Reply.ensures.done;
      follows = (c.without_commit.ensures, record { image_is = c.ask.ensures.image; files_are = refl; transactions_are = refl });
    } in
    record { answered = inl (p, c.ask.new.self.view, went); fault = tt }

pub returns-in-Ok-Silent : goal.returns-in-Ok-Silent
returns-in-Ok-Silent c =
    let p : Plan = plan.Silent in
    let new : Replay = record { files = c.ask.new.self; transactions = c.args.self.now.transactions } in
    let went : IsPlanned c.args.self.now c.args.message.now c.args.request.now p c.ask.new.self.view c.without_commit-in-Ok-Silent.result new = record {
      done = rw c.in-Ok-Silent.field-0-is at c.in-Ok-Silent.ensures.done;
      follows = (c.without_commit-in-Ok-Silent.ensures, record { image_is = c.ask.ensures.image; files_are = refl; transactions_are = refl });
    } in
    record { answered = inl (p, c.ask.new.self.view, went); fault = tt }

pub returns-in_ok-change-in-Ok-Commit : goal.returns-in_ok-change-in-Ok-Commit
returns-in_ok-change-in-Ok-Commit c =
    let old = c.args.self.now in
    let reply = c.in-Ok-Commit.reply in
    let change = c.in-Ok-Commit.change in
    let whole = c.in_ok-change-in-Ok-Commit.change in
    let p : Plan = plan.Commit reply change in
    let outcome : Outcome = record { reply = Some reply; change = Some whole } in
    let went : IsPlanned old c.args.message.now c.args.request.now p c.ask.new.self.view outcome c.commit.new.self = record {
      done = rw c.in-Ok-Commit.field-0-is at c.in-Ok-Commit.ensures.done;
      follows = (
        ap (λ (done : PageChange). let o : Outcome = record { reply = Some reply; change = Some done } in o)
            (c.in_ok-change-in-Ok-Commit.ensures.whole ∙ ap (λ (i : DatabaseImage). complete i change) c.ask.ensures.image),
        subst (λ (i : DatabaseImage). IsOver (apply i change) (committed c.ask.new.self.view) (one_more old.transactions) c.commit.new.self)
            c.ask.ensures.image c.in_ok-change-in-Ok-Commit.ensures.over,
      );
    } in
    record { answered = inl (p, c.ask.new.self.view, went); fault = tt }
