-- The node's leave to pass a request on.
use Rattle.std.specs.Prelude.{◌≡◌, ℕ, Bool, true, false, List, Option, Some, None}
use Rattle.link_session.specs.Stands.{Asker}
use Rattle.file_view.specs.Errno.{EINVAL}
use Rattle.node_core.specs.declared.answer.Answer.{Answer}
use Rattle.node_core.specs.declared.answer.Answer.TheVariants as answers
use Rattle.txid_proxy.specs.declared.denial.Denial.{Denial}
use Rattle.txid_proxy.specs.declared.denial.Denial.TheVariants as denial
use Rattle.txid_proxy.specs.declared.waiting.Waited.TheVariants as waited
use Rattle.txid_proxy.specs.declared.wish.Wish.{Wish}
use Rattle.txid_proxy.specs.Asking.{IsFileAsked, NodeEntry, Waits, database_node, probe}

-- a write was probed: the node takes writes exactly where it refuses the probe as a wrong size
abbrev pub Probes : Asker → List NodeEntry → List NodeEntry → Option Denial → Type 0
Probes who old new None = IsFileAsked who database_node probe old new (answers.Refuse EINVAL)
Probes who old new (Some denial.NotPrimary) = (answer : Answer) × IsFileAsked who database_node probe old new answer × (answer ≡ answers.Refuse EINVAL → ⊥)
Probes who old new (Some denial.Behind) = ⊥

-- a read waited for its floor
abbrev pub Reaches : Asker → ℕ → List NodeEntry → List NodeEntry → Option Denial → Type 0
Reaches who floor old new None = Waits who floor old new waited.Reached
Reaches who floor old new (Some denial.Behind) = Waits who floor old new waited.Behind
Reaches who floor old new (Some denial.NotPrimary) = ⊥

-- by whether it only reads
abbrev pub GrantsBy : Bool → Asker → ℕ → List NodeEntry → List NodeEntry → Option Denial → Type 0
GrantsBy true who floor old new why = Reaches who floor old new why
GrantsBy false who floor old new why = Probes who old new why

-- THE LEAVE that a request with this wish was given, or why not
abbrev pub Grants : Asker → Wish → List NodeEntry → List NodeEntry → Option Denial → Type 0
Grants who wish old new why = GrantsBy wish.reads who wish.floor old new why
