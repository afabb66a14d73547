-- What contracts see of a disk in memory.
use Rattle.std.specs.Prelude.{◌≡◌, ◌⊎◌, ◌≤◌, ◌^◌, ℕ, List, [], length, take, None, false, IsTrue}
use Rattle.lf_base.specs.Faults.{one_more}
use Rattle.lf_disk.specs.declared.record.Call.{Call}
use Rattle.lf_disk.specs.declared.slots.Slot.{Slot}
use Rattle.lf_disk.specs.Folder.{Same}
use Rattle.lf_disk.specs.Slots.{folder_of, IsOrderly}
use Rattle.lf_disk.specs.Plan.{Plan, fails_next}
use Rattle.lf_disk.specs.Replay.{State, at_rest, replay}
use Rattle.lf_disk.specs.History.{History}
use Rattle.lf_disk.specs.SystemError.{said}

-- the files at first, the changing calls since, the oldest first, and which calls fail
pub record Recording : Type 0 where
  pub first : List Slot
  pub calls : List Call
  pub plan : Plan

-- the state at a moment
abbrev pub state_at : Recording → ℕ → State
state_at r t = replay (at_rest (folder_of r.first)) (take t r.calls)

-- its history
abbrev pub history_of : Recording → History
history_of r = record { moment = length r.calls; seen = λ t. (state_at r t).seen; leaves = λ t. (state_at r t).leaves }

-- a disk with these files, on which nothing is pending and no call is to fail
abbrev pub fresh : List Slot → Recording
fresh first = record { first = first; calls = []; plan = record { failing = []; stop_after = None; calls = 0; faults = 0; short = 0; roomless = false; error = None } }

-- a changing call failed: that was planned, no moment was left for it, or there was no memory, which is counted. It counts one fault, and says
-- that there is no room where it is to
pub record FailsFor (old new : Recording) : Type 0 where
  pub cause : IsTrue (fails_next old.plan) ⊎ (2 ^ 62 ≤ length old.calls) ⊎ (new.plan.short ≡ one_more old.plan.short)
  pub error : new.plan.error ≡ said old.plan.roomless
  pub one : new.plan.faults ≡ one_more old.plan.faults

-- the files in memory are those that the record gives, and no name stands twice
pub record IsCurrent (first : List Slot) (calls : List Call) (now : List Slot) : Type 0 where
  pub shows : Same (replay (at_rest (folder_of first)) calls).seen (folder_of now)
  pub orderly : IsOrderly now
  pub began : IsOrderly first
