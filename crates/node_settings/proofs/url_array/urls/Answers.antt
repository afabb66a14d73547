use Rattle.std.proofs.Common.{◌≡◌, ℕ, List, length, ◌≤◌, ◌<◌, subst, arith}
use Rattle.std.proofs.lemmas.Grind.{common_steps}
use Rattle.std.proofs.lemmas.Bool.Decides.{nat_tests}
use Rattle.toml.specs.View.{items_view, view}
use Rattle.node_settings.specs.Answers.{Reads}
use Rattle.node_settings.proofs.Adding.{Adds, all_of, as_many, urls_of}
use Rattle.node_settings.proofs.url_array.urls.Goals as goal
use Rattle.node_settings.proofs.url_array.urls.Goals.{then-is_empty-via-then-is_empty, then-is_empty-via-else-is_empty+then-values-gt-URLS_MAX}

pub returns-then-is_empty : goal.returns-then-is_empty
returns-then-is_empty c = λ (urls : List (List ℕ)) is.
    let count = as_many c.in_ok-values.values.now urls (urls_of (view c.args.value.now) c.in_ok-values.values.now urls c.in_ok-values.ensures.ok is) in
    elim c.then-is_empty.branch [
      | then-is_empty-via-then-is_empty w ↦ grind (arith, nat_tests, common_steps, c.is_empty.ensures, w.if-is_empty.true, count, is.some)
      | then-is_empty-via-else-is_empty+then-values-gt-URLS_MAX w ↦ omega (arith, w.if-values-gt-URLS_MAX.true, count, is.few)
    ]

pub returns : goal.returns
returns c =
    let values = c.in_ok-values.values.now in
    let some : 0 < length values = grind (arith, nat_tests, common_steps, c.is_empty.ensures, c.if-is_empty.false) in
    all_of (view c.args.value.now) values c.urls_behind.result c.in_ok-values.ensures.ok some (omega (arith, c.if-values-gt-URLS_MAX.false))
    (subst (λ (b : List (List ℕ)). Reads (Adds (items_view values) b) c.urls_behind.result) c.none.ensures c.urls_behind.ensures)
