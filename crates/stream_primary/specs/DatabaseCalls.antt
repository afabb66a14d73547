-- GET /export and POST /import: the bytes of the database, and a database in its place.
use Rattle.std.specs.Prelude.{◌≡◌, ℕ, IsTrue, List, []}
use Rattle.lf_base.specs.declared.session_end.SessionEnd.{SessionEnd}
use Rattle.link_session.specs.Stands.{Asker, Stand}
use Rattle.http_exchange.specs.Writing.{reply}
use Rattle.node_core.specs.declared.ask.Ask.TheVariants as ask
use Rattle.stream_primary.specs.Asking.{ServesAsk}
use Rattle.stream_primary.specs.Refusing.{AnswersUnasked}
use Rattle.stream_primary.specs.Streaming.{NodeEntry}

-- the most bytes of a database that is imported
abbrev pub import_max : ℕ
import_max = 2147483648

-- HOW AN EXPORT GOES of the database of this name: it is asked for; or 404, since it is another one than the node's
pub data ServesExport (caller : ℕ) (name other : List ℕ) (old new : Stand NodeEntry) (turns : ℕ) (end : SessionEnd) : Type 0 where
  exporting : other ≡ name → ServesAsk caller ask.Export old new turns end → ServesExport caller name other old new turns end
  export_elsewhere : (other ≡ name → ⊥) → AnswersUnasked (reply 404 []) old new turns end → ServesExport caller name other old new turns end

-- HOW AN IMPORT GOES of these bytes: they are asked to be the database of this name, at a moment that the clock may give; or 404
pub data ServesImport (who : Asker) (name other bytes : List ℕ) (old new : Stand NodeEntry) (turns : ℕ) (end : SessionEnd) : Type 0 where
  importing : (now : ℕ) → other ≡ name → IsTrue (who.may now) → ServesAsk who.caller (ask.Import now bytes) old new turns end
      → ServesImport who name other bytes old new turns end
  import_elsewhere : (other ≡ name → ⊥) → AnswersUnasked (reply 404 []) old new turns end → ServesImport who name other bytes old new turns end
