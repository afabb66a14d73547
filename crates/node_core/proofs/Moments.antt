-- The moment of an ask.
use Rattle.std.proofs.Common.{◌≡◌, refl, ℕ}
use Rattle.node_core.specs.declared.ask.Ask.{Ask}
use Rattle.node_core.specs.declared.ask.Ask.TheVariants as ask
use Rattle.node_core.specs.Moments.{ask_at}

-- its last moment stands
pub last_stands : (first last : ℕ) (asked : Ask) → ask_at last (ask_at first asked) ≡ ask_at last asked
last_stands first last (ask.File before request) = refl
last_stands first last ask.EndSession = refl
last_stands first last ask.Where = refl
last_stands first last (ask.Hello before from said) = refl
last_stands first last (ask.Frame before bytes) = refl
last_stands first last (ask.Drop before) = refl
last_stands first last ask.Export = refl
last_stands first last (ask.Import before bytes) = refl
last_stands first last (ask.Prune keep) = refl
last_stands first last (ask.Info before) = refl
last_stands first last (ask.Watch before from) = refl
last_stands first last (ask.Lease before news) = refl
last_stands first last (ask.HaltAsk before node) = refl
last_stands first last (ask.HaltBack before number) = refl
last_stands first last (ask.Forward before number bytes) = refl
last_stands first last (ask.HaltGot before pass) = refl
last_stands first last (ask.HaltLost number) = refl
last_stands first last (ask.Forwarded ok) = refl
