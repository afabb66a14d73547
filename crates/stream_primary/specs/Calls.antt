-- THE CALLS OF A NODE, one clause each: what is kept of a call's body, and how a session goes that makes it.
use Rattle.std.specs.Prelude.{ℕ, List, []}
use Rattle.lf_base.specs.declared.session_end.SessionEnd.{SessionEnd}
use Rattle.link_session.specs.Stands.{Asker, Stand}
use Rattle.stream_wire.specs.declared.call.Call.{Call}
use Rattle.stream_wire.specs.declared.call.Call.TheVariants as call
use Rattle.http_exchange.specs.declared.wants.Kept.{Kept}
use Rattle.http_exchange.specs.declared.wants.Kept.TheVariants as kept
use Rattle.http_exchange.specs.Writing.{reply}
use Rattle.stream_primary.specs.DatabaseCalls.{ServesExport, ServesImport, import_max}
use Rattle.stream_primary.specs.Events.{ServesEvents}
use Rattle.stream_primary.specs.ForwardCall.{ServesForward, forward_max}
use Rattle.stream_primary.specs.HaltCalls.{ServesHalt, ServesHaltBack, number_line_max}
use Rattle.stream_primary.specs.Refusing.{AnswersUnasked}
use Rattle.stream_primary.specs.Request.{Request}
use Rattle.stream_primary.specs.StreamCall.{ServesStream, line_max}
use Rattle.stream_primary.specs.Streaming.{NodeEntry}
use Rattle.stream_primary.specs.WatchCalls.{ServesInfo, ServesMetrics}

-- what is kept of the body: the line that asks for a stream, or names a permit; of an import and a commit all; of another call nothing
abbrev pub kept_of : Call → Kept
kept_of call.Stream = kept.Line line_max
kept_of call.Halt = kept.Line number_line_max
kept_of call.HaltBack = kept.Line number_line_max
kept_of call.Tx = kept.All forward_max
kept_of (call.Export other) = kept.Nothing
kept_of (call.Import other) = kept.All import_max
kept_of call.Lease = kept.Nothing
kept_of call.Info = kept.Nothing
kept_of call.Metrics = kept.Nothing
kept_of call.Events = kept.Nothing
kept_of call.Other = kept.Nothing

-- HOW IT GOES: a call that is not served is 404, and nothing is asked
abbrev pub Serves : Call → Asker → List ℕ → Request → Stand NodeEntry → Stand NodeEntry → ℕ → SessionEnd → Type 0
Serves call.Stream who name request old new turns end = ServesStream who name request old new turns end
Serves call.Halt who name request old new turns end = ServesHalt who name request.body old new turns end
Serves call.HaltBack who name request old new turns end = ServesHaltBack who name request.body old new turns end
Serves call.Tx who name request old new turns end = ServesForward who name request.body old new turns end
Serves (call.Export other) who name request old new turns end = ServesExport who.caller name other old new turns end
Serves (call.Import other) who name request old new turns end = ServesImport who name other request.body old new turns end
Serves call.Info who name request old new turns end = ServesInfo who name old new turns end
Serves call.Metrics who name request old new turns end = ServesMetrics who old new turns end
Serves call.Events who name request old new turns end = ServesEvents who name old new turns end
Serves call.Lease who name request old new turns end = AnswersUnasked (reply 404 []) old new turns end
Serves call.Other who name request old new turns end = AnswersUnasked (reply 404 []) old new turns end
