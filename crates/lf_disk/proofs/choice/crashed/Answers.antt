use Rattle.std.proofs.Common.{◌≡◌, ◌+◌, ℕ, List, [], ◌∷◌, ◌++◌, take, drop, sym, ◌∙◌, ap, subst, arith}
use Rattle.std.proofs.lemmas.List.{take_all, take_more, drop_all, drop_more}
use Rattle.lf_disk.specs.declared.record.Call.{Call}
use Rattle.lf_disk.specs.declared.slots.Slot.{Slot}
use Rattle.lf_disk.specs.Folder.{Same}
use Rattle.lf_disk.specs.Slots.{folder_of, IsOrderly}
use Rattle.lf_disk.specs.declared.choice.Choice.{Choice}
use Rattle.lf_disk.specs.Crash.{choice_of, turned, left_of, left_as}
use Rattle.lf_disk.specs.Replay.{replay, at_rest, shown_after, CrashStep}
use Rattle.lf_disk.proofs.Choices.{goes-on}
use Rattle.lf_disk.proofs.Crashes.{left_as-same}
use Rattle.lf_disk.proofs.choice.crashed.Goals as goal

pub loop-call-init : goal.loop-call-init
loop-call-init c = record {
  left = λ n. ap (λ (l : List Slot). folder_of l n) c.in_ok-image.ensures;
  shows = λ n. ap (λ (l : List Slot). folder_of l n) c.in_ok-seen.ensures;
  chosen = λ n i. left_as c.args.calls.now c.args.number (folder_of (c.in_ok-seen.ensures i)) (folder_of (c.in_ok-image.ensures i)) n;
  orderly = subst (λ (l : List Slot). IsOrderly l) (sym c.in_ok-image.ensures) c.requires;
}

pub loop-call-preserved : goal.loop-call-preserved
loop-call-preserved c =
    let s = at_rest (folder_of c.args.first.now) in
    let so_far = take c.loop-call.call-index c.args.calls.now in
    let call = c.call-item.result in
    let image = folder_of c.loop-call.image.items in
    let image' = folder_of c.leave.new.image.items in
    let step = subst (λ (l : List Slot). CrashStep call (folder_of l) image image') c.deref.ensures.value c.in_ok-leave.ensures.step in
    let both = goes-on s so_far call (folder_of c.loop-call.seen.items) (folder_of c.follow.new.seen.items) image image' c.loop-call.invariant.left c.loop-call.invariant.shows step c.in_ok-follow.ensures in
    let more : take (c.loop-call.call-index + 1) c.args.calls.now ≡ so_far ++ call ∷ [] =
    take_more c.args.calls.now c.loop-call.call-index call c.loop-call-test.true ∙ ap (λ (x : Call). so_far ++ x ∷ []) (sym c.call-item.is) in
    let rest = drop (c.loop-call.call-index + 1) c.args.calls.now in
    let choices = c.loop-call.choices in
    let seen = folder_of c.loop-call.seen.items in
    let seen' = folder_of c.follow.new.seen.items in
    let here : drop c.loop-call.call-index c.args.calls.now ≡ call ∷ rest =
    drop_more c.args.calls.now c.loop-call.call-index call c.loop-call-test.true ∙ ap (λ (x : Call). x ∷ rest) (sym c.call-item.is) in
    let chosen : Same (left_of (choice_of choices) call.done call.change seen image) image' =
    subst (λ (ch : Choice). Same (left_of ch call.done call.change seen image) image') c.choice_of.ensures
    (subst (λ (l : List Slot). Same (left_of c.choice_of.result call.done call.change (folder_of l) image) image') c.deref.ensures.value c.in_ok-leave.ensures.chosen) in
    record {
      left = subst (λ (l : List Call). (replay s l).leaves image') (sym more) both.0;
      shows = subst (λ (l : List Call). Same (replay s l).seen seen') (sym more) both.1;
      chosen = λ n.
          ap (λ (k : ℕ). left_as rest k seen' image' n) c.turned-choices.ensures
          ∙ left_as-same rest (turned choices) (shown_after call seen) seen' (left_of (choice_of choices) call.done call.change seen image) image' c.in_ok-follow.ensures chosen n
          ∙ sym (ap (λ (l : List Call). left_as l choices seen image n) here) ∙ c.loop-call.invariant.chosen n;
      orderly = c.leave.ensures.orderly c.loop-call.invariant.orderly;
    }

pub returns-clause-left : goal.returns-clause-left
returns-clause-left c =
    subst (λ (l : List Call). (replay (at_rest (folder_of c.args.first.now)) l).leaves (folder_of c.loop-call.image.items)) (take_all c.loop-call.call-index c.args.calls.now (omega arith)) c.loop-call.invariant.left

pub returns-clause-chosen : goal.returns-clause-chosen
returns-clause-chosen c = λ n.
    sym (ap (λ (l : List Call). left_as l c.loop-call.choices (folder_of c.loop-call.seen.items) (folder_of c.loop-call.image.items) n) (drop_all c.loop-call.call-index c.args.calls.now (omega arith)))
    ∙ c.loop-call.invariant.chosen n
