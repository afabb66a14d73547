-- The moment of an ask.
use Rattle.std.specs.Prelude.{ℕ}
use Rattle.node_core.specs.declared.ask.Ask.{Ask}
use Rattle.node_core.specs.declared.ask.Ask.TheVariants as ask

-- the same ask at this moment
abbrev pub ask_at : ℕ → Ask → Ask
ask_at now (ask.File before request) = ask.File now request
ask_at now ask.EndSession = ask.EndSession
ask_at now ask.Where = ask.Where
ask_at now (ask.Hello before from last) = ask.Hello now from last
ask_at now (ask.Frame before bytes) = ask.Frame now bytes
ask_at now (ask.Drop before) = ask.Drop now
ask_at now ask.Export = ask.Export
ask_at now (ask.Import before bytes) = ask.Import now bytes
ask_at now (ask.Prune keep) = ask.Prune keep
ask_at now (ask.Info before) = ask.Info now
ask_at now (ask.Watch before from) = ask.Watch now from
ask_at now (ask.Lease before news) = ask.Lease now news
ask_at now (ask.HaltAsk before node) = ask.HaltAsk now node
ask_at now (ask.HaltBack before number) = ask.HaltBack now number
ask_at now (ask.Forward before number bytes) = ask.Forward now number bytes
ask_at now (ask.HaltGot before pass) = ask.HaltGot now pass
ask_at now (ask.HaltLost number) = ask.HaltLost number
ask_at now (ask.Forwarded ok) = ask.Forwarded ok
