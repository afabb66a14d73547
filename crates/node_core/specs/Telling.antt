-- INFO: what a node is at its moment, and where it stands. Nothing is done.
use Rattle.std.specs.Prelude.{◌≡◌, ◌⊎◌, ℕ, List, [], ◌∷◌, length}
use Rattle.lf_disk.specs.History.{History}
use Rattle.txn_log.specs.declared.entry.Entry.{Entry}
use Rattle.node_core.specs.declared.answer.Answer.{Answer}
use Rattle.node_core.specs.declared.answer.Answer.TheVariants as answers
use Rattle.node_core.specs.declared.info.NodeInfo.{NodeInfo}
use Rattle.node_core.specs.declared.refusal.Refusal.TheVariants as refusals
use Rattle.node_core.specs.Nodes.{NodeParts, role_in}
use Rattle.node_core.specs.Stores.{OnlyRead, position}

-- the first transaction of a log; 0 of an empty one
abbrev pub first_of : List Entry → ℕ
first_of [] = 0
first_of (entry ∷ later) = entry.min

-- what a node says of itself
abbrev pub info_of : NodeParts → NodeInfo
info_of n = record {
  role = role_in n;
  pos = position n.store;
  first = first_of n.store.entries;
  files = length n.store.entries;
  page_size = n.store.page_size;
  commit = n.store.commit;
  broken = n.store.broken;
  primary = n.files.host;
}

-- it says this, or memory ran out over the primary's host
abbrev pub TellsInfo : NodeParts → Answer → Type 0
TellsInfo n answer = (answer ≡ answers.Info (info_of n)) ⊎ (answer ≡ answers.Refused refusals.NoMemory)

pub record AnswersInfo (start : History) (old : NodeParts) (answer : Answer) (end : History) (new : NodeParts) : Type 0 where
  pub tells : TellsInfo old answer
  pub same : new ≡ old
  pub rests : OnlyRead start end
