use Rattle.std.proofs.Common.{Some, MatchOption, Option, IsTrue, arith}
use Rattle.std.proofs.lemmas.Grind.{common_steps}
use Rattle.toml.specs.Data.{Data}
use Rattle.toml.specs.View.{table_view, view}
use Rattle.node_settings.specs.Rules.{IsEtcds, Says}
use Rattle.node_settings.specs.Values.{IsNumber}
use Rattle.node_settings.proofs.Answering.{asked_for, fits_from}
use Rattle.node_settings.proofs.keeping.lasts_seconds.Goals as goal

pub returns-in-Some : goal.returns-in-Some
returns-in-Some c =
    let typed : IsTrue c.is_typed.result = grind (arith, common_steps, c.if-not-is_typed.false) in
    asked_for (IsEtcds (table_view c.args.root.now)) (λ (o : Option Data). MatchOption o (Unit {0}) (λ d. Says (IsNumber 2000 86400000) d))
    (Some (view c.in-Some.value.now)) _ c.judged.result (c.is_typed.ensures.0 typed) c.in-Some.ensures
    (fits_from (IsNumber 2000 86400000) (view c.in-Some.value.now) c.number.result c.judged.result c.number.ensures c.judged.ensures)
