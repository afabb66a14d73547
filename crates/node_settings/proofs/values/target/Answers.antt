use Rattle.std.proofs.Common.{◌≡◌, ℕ, List, IsTrue, ap, sym, subst, ◌∙◌, arith}
use Rattle.std.proofs.lemmas.Grind.{common_steps}
use Rattle.toml.specs.Data.{string}
use Rattle.toml.specs.View.{view}
use Rattle.node_settings.specs.Address.{IsAddress, IsTarget}
use Rattle.node_settings.specs.Values.{IsTargetText}
use Rattle.node_settings.proofs.Answering.{both}
use Rattle.node_settings.proofs.OneConfiguration.{one_text}
use Rattle.node_settings.proofs.values.target.Goals as goal

pub returns-then-not-is_target : goal.returns-then-not-is_target
returns-then-not-is_target c = λ a is.
    let same = one_text (view c.args.value.now) a c.in_ok-text.text.now is.0 c.in_ok-text.ensures.ok in
    let yes = c.is_target.ensures.1 (subst IsTarget same is.1) in
    grind (arith, common_steps, yes, c.if-not-is_target.true)

pub returns : goal.returns
returns c =
    let text = c.in_ok-text.text.now in
    let says = c.in_ok-text.ensures.ok in
    let yes : IsTrue c.is_target.result = grind (arith, common_steps, c.if-not-is_target.false) in
    let target = c.is_target.ensures.0 yes in
    both (λ (a : List ℕ). (a ≡ text) × IsAddress text) (IsTargetText (view c.args.value.now)) c.read.result
    (λ a h. (says ∙ ap string (sym h.0), subst IsTarget (sym h.0) target))
    (λ a is. let same = one_text (view c.args.value.now) a text is.0 says in (same, (subst IsTarget same is.1).0)) c.read.ensures
