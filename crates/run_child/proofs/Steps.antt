-- One request behind those before it.
use Rattle.std.proofs.Common.{ℕ, List, Result, Ok, Err}
use Rattle.std.specs.Prelude.{IfOk, IfErr}
use Rattle.fuse_msgs.specs.declared.reply.Reply.TheVariants as reply
use Rattle.run_child.specs.declared.child_end.ChildEnd.{ChildEnd}
use Rattle.run_child.specs.declared.closing.Closing.{Closing}
use Rattle.run_child.specs.Closing.{IsClosing}
use Rattle.run_child.specs.Course.{IsFound, IsGranted, IsOpened, StopsEarly, at_init, at_look_up, at_lock, at_open}
use Rattle.run_child.specs.Requests.{init, look_up, open_file, take_lock}
use Rattle.run_child.specs.Talk.{Asked, Place, Stopped}

-- ---- the file found

pub found_of : (name : List ℕ) (old p new : Place) (r : Result ℕ ChildEnd) → Asked init reply.Init old p
    → IfOk r (λ node. (size : ℕ) × Asked (look_up name) (reply.Entry node size) p new) → IfOk r (λ node. IsFound name node old new)
found_of name old p new (Ok node) a h = record { begun = p; size = h.0; first = a; second = h.1 }
found_of name old p new (Err end) a h = tt

pub look_up_stops : (name : List ℕ) (old p new : Place) (r : Result ℕ ChildEnd) → Asked init reply.Init old p
    → IfErr r (Stopped (look_up name) p new) → IfErr r (StopsEarly name old new)
look_up_stops name old p new (Ok node) a h = tt
look_up_stops name old p new (Err end) a h = at_look_up p a h

pub init_stops : (name : List ℕ) (old new : Place) (end : ChildEnd) → Stopped init old new end → StopsEarly name old new end
init_stops name old new end h = at_init h

-- ---- the file opened

pub opened_by : (name : List ℕ) (node fh : ℕ) (old p new : Place) → IsFound name node old p → Asked (open_file node) (reply.Opened fh) p new
    → IsOpened name node fh old new
opened_by name node fh old p new f a = record { found = p; before = f; third = a }

pub open_stops : (name : List ℕ) (node : ℕ) (old p new : Place) (end : ChildEnd) → IsFound name node old p → Stopped (open_file node) p new end
    → StopsEarly name old new end
open_stops name node old p new end f h = at_open node p f h

-- ---- the lock held

pub granted_of : (name : List ℕ) (node fh : ℕ) (old p new : Place) (r : Result Closing ChildEnd) → IsOpened name node fh old p
    → IfOk r (λ closing. Asked (take_lock node fh) reply.Empty p new × IsClosing node fh closing)
    → IfOk r (λ closing. (n f : ℕ) × IsGranted name n f old new × IsClosing n f closing)
granted_of name node fh old p new (Ok closing) o h = (node, fh, record { opened = p; before = o; fourth = h.0 }, h.1)
granted_of name node fh old p new (Err end) o h = tt

pub lock_stops : (name : List ℕ) (node fh : ℕ) (old p new : Place) (r : Result Closing ChildEnd) → IsOpened name node fh old p
    → IfErr r (Stopped (take_lock node fh) p new) → IfErr r (StopsEarly name old new)
lock_stops name node fh old p new (Ok closing) o h = tt
lock_stops name node fh old p new (Err end) o h = at_lock node fh p o h
