use Rattle.link_session.specs.Stands.{stand}
use Rattle.stream_wire.specs.declared.call.Call.TheVariants as call
use Rattle.stream_primary.proofs.Requests.{by_row}
use Rattle.link_session.specs.Sessions.{asker_of, stand_of}
use Rattle.stream_primary.proofs.calls.serve_call.Goals as goal

pub returns-in-Stream-clause-serves : goal.returns-in-Stream-clause-serves
returns-in-Stream-clause-serves g c = λ request came.
    by_row call.Stream c.args.called (asker_of g.S.Steps g.C.Clock c.args.session.now c.args.steps.now) c.args.about.now.name request (stand_of g.S.Steps g.L.Link c.args.session.now c.args.steps.now)
    (stand_of g.S.Steps g.L.Link c.serve_stream.new.session c.serve_stream.new.steps) c.serve_stream.new.session.turns c.serve_stream.result c.in-Stream.is came (λ came. c.serve_stream.ensures.serves request came.head came.body)

pub returns-in-Export-clause-serves : goal.returns-in-Export-clause-serves
returns-in-Export-clause-serves g c = λ request came.
    by_row (call.Export c.in-Export.other) c.args.called (asker_of g.S.Steps g.C.Clock c.args.session.now c.args.steps.now) c.args.about.now.name request (stand_of g.S.Steps g.L.Link c.args.session.now c.args.steps.now)
    (stand g.L.Link c.serve_export.new.link (g.S.Steps.entries c.serve_export.new.steps)) c.serve_export.new.turns c.serve_export.result c.in-Export.is came (λ came. c.serve_export.ensures.serves)

pub returns-in-Import-clause-serves : goal.returns-in-Import-clause-serves
returns-in-Import-clause-serves g c = λ request came.
    by_row (call.Import c.in-Import.other) c.args.called (asker_of g.S.Steps g.C.Clock c.args.session.now c.args.steps.now) c.args.about.now.name request (stand_of g.S.Steps g.L.Link c.args.session.now c.args.steps.now)
    (stand_of g.S.Steps g.L.Link c.serve_import.new.session c.serve_import.new.steps) c.serve_import.new.session.turns c.serve_import.result c.in-Import.is came (λ came. c.serve_import.ensures.serves request.body came.body)

pub returns-in-Ok-clause-serves : goal.returns-in-Ok-clause-serves
returns-in-Ok-clause-serves g c = λ request came.
    by_row call.Halt c.args.called (asker_of g.S.Steps g.C.Clock c.args.session.now c.args.steps.now) c.args.about.now.name request (stand_of g.S.Steps g.L.Link c.args.session.now c.args.steps.now)
    (stand g.L.Link c.serve_halt.new.link (g.S.Steps.entries c.serve_halt.new.steps)) c.serve_halt.new.turns c.serve_halt.result c.in-Halt.is came
    (λ came. c.serve_halt.ensures.serves c.args.about.now.name request.body (c.in-Ok.ensures request.body came.body))

pub returns-in-Ok-number_in-clause-serves : goal.returns-in-Ok-number_in-clause-serves
returns-in-Ok-number_in-clause-serves g c = λ request came.
    by_row call.HaltBack c.args.called (asker_of g.S.Steps g.C.Clock c.args.session.now c.args.steps.now) c.args.about.now.name request (stand_of g.S.Steps g.L.Link c.args.session.now c.args.steps.now)
    (stand g.L.Link c.serve_halt_back.new.link (g.S.Steps.entries c.serve_halt_back.new.steps)) c.serve_halt_back.new.turns c.serve_halt_back.result c.in-HaltBack.is came
    (λ came. c.serve_halt_back.ensures.serves c.args.about.now.name request.body (c.in-Ok-number_in.ensures request.body came.body))

pub returns-in-Ok-file_in-clause-serves : goal.returns-in-Ok-file_in-clause-serves
returns-in-Ok-file_in-clause-serves g c = λ request came.
    by_row call.Tx c.args.called (asker_of g.S.Steps g.C.Clock c.args.session.now c.args.steps.now) c.args.about.now.name request (stand_of g.S.Steps g.L.Link c.args.session.now c.args.steps.now)
    (stand g.L.Link c.serve_forward.new.link (g.S.Steps.entries c.serve_forward.new.steps)) c.serve_forward.new.turns c.serve_forward.result c.in-Tx.is came
    (λ came. c.serve_forward.ensures.serves c.args.about.now.name request.body (c.in-Ok-file_in.ensures request.body came.body))

pub returns-in-Info-clause-serves : goal.returns-in-Info-clause-serves
returns-in-Info-clause-serves g c = λ request came.
    by_row call.Info c.args.called (asker_of g.S.Steps g.C.Clock c.args.session.now c.args.steps.now) c.args.about.now.name request (stand_of g.S.Steps g.L.Link c.args.session.now c.args.steps.now)
    (stand_of g.S.Steps g.L.Link c.serve_info.new.session c.serve_info.new.steps) c.serve_info.new.session.turns c.serve_info.result c.in-Info.is came (λ came. c.serve_info.ensures.serves)

pub returns-in-Metrics-clause-serves : goal.returns-in-Metrics-clause-serves
returns-in-Metrics-clause-serves g c = λ request came.
    by_row call.Metrics c.args.called (asker_of g.S.Steps g.C.Clock c.args.session.now c.args.steps.now) c.args.about.now.name request (stand_of g.S.Steps g.L.Link c.args.session.now c.args.steps.now)
    (stand_of g.S.Steps g.L.Link c.serve_metrics.new.session c.serve_metrics.new.steps) c.serve_metrics.new.session.turns c.serve_metrics.result c.in-Metrics.is came (λ came. c.serve_metrics.ensures.serves)

pub returns-in-Events-clause-serves : goal.returns-in-Events-clause-serves
returns-in-Events-clause-serves g c = λ request came.
    by_row call.Events c.args.called (asker_of g.S.Steps g.C.Clock c.args.session.now c.args.steps.now) c.args.about.now.name request (stand_of g.S.Steps g.L.Link c.args.session.now c.args.steps.now)
    (stand_of g.S.Steps g.L.Link c.serve_events.new.session c.serve_events.new.steps) c.serve_events.new.session.turns c.serve_events.result c.in-Events.is came (λ came. c.serve_events.ensures.serves)
