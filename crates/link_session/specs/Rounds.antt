-- A conversation over a link: a list of rounds.
use Rattle.std.specs.Prelude.{◌≡◌, ℕ, List, ◌++◌, Option}
use Rattle.std.specs.List.{flat_map, AllByRecursion}
use Rattle.std.specs.Io.KnownBytes.{Appends, Consumes}

-- a message, the entries that it led to, and the bytes that answer it
pub record Round (E : Type 0) : Type 0 where
  pub message : List ℕ
  pub entries : List E
  pub reply : List ℕ

-- a place in a conversation: the text that is to come, the bytes that were written, and the entries so far
pub record Place (E : Type 0) : Type 0 where
  pub text : Option (List ℕ)
  pub taken : Option (List ℕ)
  pub entries : List E

-- from one place to the other, the messages that were read were answered, each in its turn
pub record Talked {E : Type 0} (Is : Round E → Type 0) (old new : Place E) : Type 0 where
  pub rounds : List (Round E)
  pub each : AllByRecursion Is rounds
  pub read : Consumes old.text new.text (flat_map (λ round. round.message) rounds)
  pub written : Appends old.taken new.taken (flat_map (λ round. round.reply) rounds)
  pub asked : new.entries ≡ old.entries ++ flat_map (λ round. round.entries) rounds

-- one message was answered
pub record Answered {E : Type 0} (Is : Round E → Type 0) (message : List ℕ) (old_taken new_taken : Option (List ℕ)) (old new : List E) : Type 0 where
  pub entries : List E
  pub reply : List ℕ
  pub round : Is (record { message = message; entries = entries; reply = reply })
  pub written : Appends old_taken new_taken reply
  pub asked : new ≡ old ++ entries
