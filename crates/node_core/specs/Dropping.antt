-- DROP: word that the database was dropped at another node. It takes no memory.
use Rattle.std.specs.Prelude.{◌≡◌, ◌≢◌, ◌≤◌, Some, None, Err}
use Rattle.lf_disk.specs.History.{History}
use Rattle.ltx_codec.specs.Positions.{nowhere}
use Rattle.file_view.specs.declared.view.Role.TheVariants as role
use Rattle.file_view.specs.Endings.{first_blocking}
use Rattle.node_core.specs.declared.answer.Answer.{Answer}
use Rattle.node_core.specs.declared.answer.Answer.TheVariants as answers
use Rattle.node_core.specs.declared.refusal.Refusal.{Refusal}
use Rattle.node_core.specs.declared.refusal.Refusal.TheVariants as refusals
use Rattle.node_core.specs.Nodes.{NodeParts, role_in}
use Rattle.node_core.specs.Stores.{OnlyRead, position}
use Rattle.node_core.specs.Unlinking.{DropsWhatIsThere, IsNotDropped}

-- nothing is done
abbrev pub IsUntouched : History → NodeParts → History → NodeParts → Type 0
IsUntouched start old end new = (new ≡ old) × OnlyRead start end

-- no lock that anybody holds holds a frame back, by the mode of the image
abbrev pub IsFree : NodeParts → Type 0
IsFree n = first_blocking n.files n.store.wal ≡ None

-- why it is refused: the node is the primary; or its disk failed, or did before
abbrev pub RefusesDrop : History → NodeParts → Refusal → History → NodeParts → Type 0
RefusesDrop start old refusals.NotReplica end new = (role_in old ≡ role.Primary) × IsUntouched start old end new
RefusesDrop start old (refusals.Store why) end new =
    (role_in old ≢ role.Primary) × IsFree old × (1 ≤ (position old.store).txid) × IsNotDropped {T = Unit {0}} start old (Err why) end new
RefusesDrop start old why end new = ⊥

-- what it answers. A database that was written is dropped; else nothing is done
abbrev pub AnswersDrop : History → NodeParts → Answer → History → NodeParts → Type 0
AnswersDrop start old (answers.Applied here) end new = (role_in old ≢ role.Primary) × IsFree old × (here ≡ nowhere) × DropsWhatIsThere start old end new
AnswersDrop start old (answers.Held lock) end new =
    (role_in old ≢ role.Primary) × (first_blocking old.files old.store.wal ≡ Some lock) × IsUntouched start old end new
AnswersDrop start old (answers.Refused why) end new = RefusesDrop start old why end new
AnswersDrop start old answer end new = ⊥
