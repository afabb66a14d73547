-- What a session writes, however it ends, and how often a message is asked.
use Rattle.std.specs.Prelude.{◌≡◌, ℕ, IsTrue, List, [], ◌∷◌, Option, take}
use Rattle.std.specs.List.{flat_map, AllByRecursion}
use Rattle.std.specs.Io.KnownBytes.{Appends}
use Rattle.fuse_msgs.specs.declared.request.Request.{Request}
use Rattle.turn_desk.specs.History.{entry}
use Rattle.link_session.specs.Rounds.{Round}
use Rattle.link_session.specs.Stands.{Asker}
use Rattle.node_core.specs.declared.ask.Ask.TheVariants as ask
use Rattle.node_core.specs.declared.answer.Answer.{Answer}
use Rattle.file_session.specs.Asking.{FileEntry}
use Rattle.file_session.specs.Message.{IsRound}

-- the bytes that were written are a front of the replies of rounds, one after another
pub record WritesReplies (who : Asker) (old new : Option (List ℕ)) : Type 0 where
  pub rounds : List (Round FileEntry)
  pub count : ℕ
  pub each : AllByRecursion (IsRound who) rounds
  pub written : Appends old new (take count (flat_map (λ round. round.reply) rounds))

-- the request was asked once, at a moment that the clock may give
pub record IsAskedOnce (who : Asker) (request : Request) (entries : List FileEntry) : Type 0 where
  pub now : ℕ
  pub given : IsTrue (who.may now)
  pub answer : Answer
  pub one : entries ≡ entry who.caller (ask.File now request) answer ∷ []
