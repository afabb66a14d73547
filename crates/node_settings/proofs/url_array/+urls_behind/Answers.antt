use Rattle.std.proofs.Common.{◌≡◌, ℕ, List, subst, sym}
use Rattle.toml.specs.View.{items_view, view}
use Rattle.toml.specs.declared.value.Value.{Value}
use Rattle.node_settings.specs.Answers.{Reads}
use Rattle.node_settings.specs.Values.{IsUrlText}
use Rattle.node_settings.proofs.Adding.{Adds, first_is, then_others}
use Rattle.node_settings.proofs.Answering.{passed}
use Rattle.node_settings.proofs.url_array.+urls_behind.Goals as goal

pub returns : goal.returns
returns t c =
    let rest = items_view c.in-Some.rest.now in
    let behind = subst (λ (b : List (List ℕ)). Reads (Adds rest b) c.urls_behind.result) c.in_ok-push.ensures c.urls_behind.ensures in
    subst (λ (vs : List Value). Reads (Adds (items_view vs) c.args.urls) c.urls_behind.result) (sym c.in-Some.ensures.cases.0)
    (then_others (view c.in-Some.value.now) rest c.in_ok-url.field-0 c.args.urls c.urls_behind.result c.in_ok-url.ensures behind)

pub returns-in_err-url : goal.returns-in_err-url
returns-in_err-url t c =
    subst (λ (vs : List Value). Reads (Adds (items_view vs) c.args.urls) c.from_residual.result) (sym c.in-Some.ensures.cases.0)
    (passed (IsUrlText (view c.in-Some.value.now)) _ _ c.from_residual.result (first_is (view c.in-Some.value.now) (items_view c.in-Some.rest.now) c.args.urls) c.from_residual.ensures.1 c.in_err-url.ensures)
