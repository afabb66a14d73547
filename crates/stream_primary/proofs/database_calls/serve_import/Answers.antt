use Rattle.std.proofs.Common.{ℕ, List, refl, subst}
use Rattle.http_exchange.specs.declared.called.Body.{Body}
use Rattle.http_exchange.specs.declared.wants.Kept.TheVariants as kept
use Rattle.link_session.specs.Stands.{stand}
use Rattle.node_core.specs.declared.ask.Ask.TheVariants as ask
use Rattle.stream_primary.specs.Asking.{ServesAsk}
use Rattle.stream_primary.specs.DatabaseCalls.{import_elsewhere, import_max, importing}
use Rattle.stream_primary.specs.Request.{CameOf}
use Rattle.link_session.specs.Sessions.{stand_of}
use Rattle.stream_primary.proofs.database_calls.serve_import.Goals as goal

pub returns-then-not-is_same-clause-serves : goal.returns-then-not-is_same-clause-serves
returns-then-not-is_same-clause-serves g c = λ bytes came. import_elsewhere c.if-not-is_same.ensures (record { written = c.refuse.ensures.end; unasked = refl })

pub returns-in-Whole-clause-serves : goal.returns-in-Whole-clause-serves
returns-in-Whole-clause-serves g c = λ bytes came.
    importing c.now_ms.result c.if-not-is_same.ensures c.now_ms.ensures.meets
    (subst (λ (body : List ℕ). ServesAsk (g.S.Steps.number c.args.steps.now) (ask.Import c.now_ms.result body) (stand_of g.S.Steps g.L.Link c.args.session.now c.args.steps.now)
    (stand g.L.Link c.ask_once.new.link (g.S.Steps.entries c.ask_once.new.steps)) c.ask_once.new.turns c.ask_once.result)
    (subst (λ (b : Body). CameOf (kept.All import_max) bytes b) c.in-Whole.is came) c.ask_once.ensures.serves)
