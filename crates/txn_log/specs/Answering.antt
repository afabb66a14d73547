-- What a follower at a position is owed.
use Rattle.std.specs.Prelude.{◌≡◌, ◌≢◌, ◌⊎◌, ℕ, Bool, true, false, ◌<◌, List, [], length, get_or}
use Rattle.lf_base.specs.declared.pos.Pos.{Pos}
use Rattle.ltx_codec.specs.Positions.{nowhere}
use Rattle.txn_log.specs.declared.entry.Entry.{Entry}
use Rattle.txn_log.specs.declared.answering.Answer.{Answer}
use Rattle.txn_log.specs.declared.answering.Answer.TheVariants as answer
use Rattle.txn_log.specs.Store.{end_of_entries}

-- there is nothing to be owed: the log is empty, or its end is the position
abbrev pub IsLevel : List Entry → Pos → Type 0
IsLevel entries position = (entries ≡ []) ⊎ (position ≡ end_of_entries entries)

-- the first file that follows the position
pub record IsFirstBehind (entries : List Entry) (position : Pos) (first : ℕ) : Type 0 where
  pub there : first < length entries
  pub follows : (d : Entry) → (get_or entries first d).pre ≡ position
  pub none : (k : ℕ) (d : Entry) → k < first → (get_or entries k d).pre ≢ position

-- no file follows the position
abbrev pub IsLacking : List Entry → Pos → Type 0
IsLacking entries position = (k : ℕ) (d : Entry) → k < length entries → (get_or entries k d).pre ≢ position

-- the database was dropped, and the position is that of one that was written
abbrev pub IsGone : Bool → Pos → Type 0
IsGone dropped position = (dropped ≡ true) × (position ≢ nowhere)

-- what is owed of a log with its mark
abbrev pub Answers : List Entry → Bool → Pos → Answer → Type 0
Answers entries dropped position answer.Gone = IsGone dropped position
Answers entries dropped position answer.Level = (IsGone dropped position → ⊥) × IsLevel entries position
Answers entries dropped position (answer.Files first) = (IsGone dropped position → ⊥) × (IsLevel entries position → ⊥) × IsFirstBehind entries position first
Answers entries dropped position answer.Snapshot = (IsGone dropped position → ⊥) × (IsLevel entries position → ⊥) × IsLacking entries position

-- what is owed to a follower whose position counts as unknown
abbrev pub AnswersUnknown : List Entry → Bool → Pos → Answer → Type 0
AnswersUnknown entries dropped position answer.Gone = IsGone dropped position
AnswersUnknown entries dropped position answer.Level = (IsGone dropped position → ⊥) × (entries ≡ [])
AnswersUnknown entries dropped position (answer.Files first) = ⊥
AnswersUnknown entries dropped position answer.Snapshot = (IsGone dropped position → ⊥) × (entries ≢ [])

-- what is owed, by whether the position counts as unknown
abbrev pub AnswersBy : Bool → List Entry → Bool → Pos → Answer → Type 0
AnswersBy true entries dropped position answer = AnswersUnknown entries dropped position answer
AnswersBy false entries dropped position answer = Answers entries dropped position answer
