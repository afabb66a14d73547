-- A disk in memory that was just made is new.
use Rattle.std.specs.Prelude.{List, [], true}
use Rattle.lf_disk.specs.declared.slots.Slot.{Slot}
use Rattle.lf_disk.specs.MemDisk.{Recording, history_of}
use Rattle.lf_disk.specs.Plan.{Plan}
use Rattle.node_objects.specs.Making.{IsAtRest}

abbrev pub made : List Slot → Plan → Recording
made first plan = record { first = first; calls = []; plan = plan }

-- nothing is pending where no call changed anything
pub rests : (first : List Slot) (plan : Plan) → IsAtRest true (history_of (made first plan))
rests first plan = λ honest c left. left
