-- WATCH: what a node is at its moment, and which files of its log lie behind a position. Nothing is done.
use Rattle.std.specs.Prelude.{◌≡◌, ◌⊎◌, List, [], drop, false}
use Rattle.lf_base.specs.declared.pos.Pos.{Pos}
use Rattle.lf_disk.specs.History.{History}
use Rattle.txn_log.specs.Answering.{AnswersBy}
use Rattle.txn_log.specs.declared.answering.Answer.{Answer as OwedAnswer}
use Rattle.txn_log.specs.declared.answering.Answer.TheVariants as owed
use Rattle.txn_log.specs.declared.entry.Entry.{Entry}
use Rattle.node_core.specs.declared.answer.Answer.{Answer}
use Rattle.node_core.specs.declared.answer.Answer.TheVariants as answers
use Rattle.node_core.specs.declared.refusal.Refusal.TheVariants as refusals
use Rattle.node_core.specs.Nodes.{NodeParts}
use Rattle.node_core.specs.Stores.{OnlyRead, StoreFields}
use Rattle.node_core.specs.Telling.{info_of}

-- the files of a log that are owed: those from the first that follows the position on; none where nothing is owed, or no file of it
abbrev pub owed_of : OwedAnswer → List Entry → List Entry
owed_of (owed.Files first) entries = drop first entries
owed_of owed.Level entries = []
owed_of owed.Gone entries = []
owed_of owed.Snapshot entries = []

-- these are the files behind the position
pub record AreBehind (store : StoreFields) (from : Pos) (files : List Entry) : Type 0 where
  pub answer : OwedAnswer
  pub owed : AnswersBy false store.entries store.dropped from answer
  pub files_are : files ≡ owed_of answer store.entries

-- it says what it is, with these files, or memory ran out
abbrev pub TellsWatcher : NodeParts → Pos → Answer → Type 0
TellsWatcher n from answer =
    ((files : List Entry) × AreBehind n.store from files × (answer ≡ answers.Watched (info_of n) files)) ⊎ (answer ≡ answers.Refused refusals.NoMemory)

pub record AnswersWatch (start : History) (old : NodeParts) (from : Pos) (answer : Answer) (end : History) (new : NodeParts) : Type 0 where
  pub tells : TellsWatcher old from answer
  pub same : new ≡ old
  pub rests : OnlyRead start end
