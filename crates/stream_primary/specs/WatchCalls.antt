-- GET /info and GET /metrics: what a node is, and its figures.
use Rattle.std.specs.Prelude.{◌≡◌, ℕ, IsTrue, List, [], ◌∷◌, ◌++◌, Err}
use Rattle.lf_base.specs.declared.session_end.SessionEnd.{SessionEnd}
use Rattle.lf_base.specs.declared.session_end.SessionEnd.TheVariants as ends
use Rattle.link_session.specs.Asking.{EndsAsking}
use Rattle.link_session.specs.Stands.{Asker, IsStill, Stand}
use Rattle.turn_desk.specs.History.{entry}
use Rattle.http_exchange.specs.Writing.{typed_reply}
use Rattle.node_core.specs.declared.answer.Answer.{Answer}
use Rattle.node_core.specs.declared.answer.Answer.TheVariants as answer
use Rattle.node_core.specs.declared.ask.Ask.TheVariants as ask
use Rattle.node_figures.specs.declared.figures.Figures.{Figures}
use Rattle.stream_primary.specs.InfoText.{info_text, info_type}
use Rattle.stream_primary.specs.MetricsText.{metrics_text, metrics_type}
use Rattle.stream_primary.specs.Refusing.{refused_reply, EndsReply}
use Rattle.stream_primary.specs.Streaming.{NodeEntry}

-- THE REPLY to an answer, with these figures: what the node is, as JSON; or the refusal's
abbrev pub info_reply : List ℕ → Figures → Answer → List ℕ
info_reply name figures (answer.Info info) = typed_reply info_type (info_text name info figures)
info_reply name figures given = refused_reply given

-- THE REPLY to an answer, with these figures: its metrics; or the refusal's
abbrev pub metrics_reply : Figures → Answer → List ℕ
metrics_reply figures (answer.Info info) = typed_reply metrics_type (metrics_text info figures)
metrics_reply figures given = refused_reply given

-- it was asked what the node is, at a moment that the clock may give
pub record AsksInfo (who : Asker) (old new : List NodeEntry) (given : Answer) : Type 0 where
  pub now : ℕ
  pub may : IsTrue (who.may now)
  pub asked : new ≡ old ++ entry who.caller (ask.Info now) given ∷ []

-- HOW A SESSION GOES that has these figures and asks once what the node is: the reply is what was written,
-- or the part of it that was; or it was not asked, since no turn was left or no further step can be taken
pub data TellsOf (who : Asker) (reply_of : Answer → List ℕ) (old new : Stand NodeEntry) (turns : ℕ) (end : SessionEnd) : Type 0 where
  told_of : (given : Answer) → AsksInfo who old.place.entries new.place.entries given
      → EndsReply (reply_of given) old.place.taken new.place.taken old.faults new.faults turns end → TellsOf who reply_of old new turns end
  never_told : EndsAsking {T = Unit {0}} (Unit {0}) turns (Err end) → IsStill old.place new.place → new.faults ≡ old.faults
      → TellsOf who reply_of old new turns end

-- HOW GET /info GOES; where memory runs out over the figures, nothing is asked
pub data ServesInfo (who : Asker) (name : List ℕ) (old new : Stand NodeEntry) (turns : ℕ) (end : SessionEnd) : Type 0 where
  informing : (figures : Figures) → TellsOf who (info_reply name figures) old new turns end → ServesInfo who name old new turns end
  info_wanting : end ≡ ends.NoMemory → IsStill old.place new.place → new.faults ≡ old.faults → ServesInfo who name old new turns end

-- HOW GET /metrics GOES
pub data ServesMetrics (who : Asker) (old new : Stand NodeEntry) (turns : ℕ) (end : SessionEnd) : Type 0 where
  measuring : (figures : Figures) → TellsOf who (metrics_reply figures) old new turns end → ServesMetrics who old new turns end
  metrics_wanting : end ≡ ends.NoMemory → IsStill old.place new.place → new.faults ≡ old.faults → ServesMetrics who old new turns end
