-- How a node ends that served.
use Rattle.std.specs.Prelude.{◌≡◌, ◌⊎◌, ℕ, true, List, [], ◌∷◌, ◌++◌, Result, Ok, Err}
use Rattle.link_session.specs.Seats.{FoundWorn}
use Rattle.turn_desk.specs.History.{IsLegal, entry}
use Rattle.turn_desk.specs.declared.history.Entry.{Entry}
use Rattle.turn_desk.specs.declared.seat.SeatOver.{SeatOver}
use Rattle.node_core.specs.declared.answer.Answer.{Answer}
use Rattle.node_core.specs.declared.answer.Answer.TheVariants as answers
use Rattle.node_core.specs.declared.ask.Ask.{Ask}
use Rattle.node_core.specs.declared.ask.Ask.TheVariants as asks
use Rattle.node_core.specs.declared.info.NodeInfo.{NodeInfo}
use Rattle.node_core.specs.declared.news.LeaseNews.TheVariants as news
use Rattle.node_objects.specs.Making.{DisksRose}
use Rattle.node_objects.specs.declared.counts.Counts.{Counts}
use Rattle.node_mount.specs.declared.ending.End.{End}
use Rattle.node_mount.specs.declared.ending.End.TheVariants as ends
use Rattle.node_mount.specs.declared.mount_fault.MountFault.{MountFault}
use Rattle.node_mount.specs.declared.mount_fault.MountFault.TheVariants as fault

-- the machine that was opened can have made these steps, and at the last of them it said this of itself
pub record Said {M Q : Type 0} (steps : M → ℕ → Q → Answer → M → Type 0) (opened : M) (info : NodeInfo) : Type 0 where
  pub before : List (Entry Q Answer)
  pub caller : ℕ
  pub ask : Q
  pub legal : IsLegal steps opened (before ++ entry caller ask (answers.Info info) ∷ [])

-- A STORE THAT BROKE: after steps that it can have made the node that was opened said so
abbrev pub Broke : {M Q : Type 0} → (M → ℕ → Q → Answer → M → Type 0) → M → Type 0
Broke steps opened = (info : NodeInfo) × (info.broken ≡ true) × Said steps opened info

-- serving ends by a store that broke only where it did
abbrev pub BreaksWhere : {M Q : Type 0} → (M → ℕ → Q → Answer → M → Type 0) → M → End → Type 0
BreaksWhere steps opened ends.Closed = Unit {0}
BreaksWhere steps opened ends.Broken = Broke steps opened

-- the machine that was opened can have made these steps, and at the last of them it was told that its lease is lost
pub record WasToldLost {M : Type 0} (steps : M → ℕ → Ask → Answer → M → Type 0) (opened : M) : Type 0 where
  pub before : List (Entry Ask Answer)
  pub caller : ℕ
  pub now : ℕ
  pub answer : Answer
  pub legal : IsLegal steps opened (before ++ entry caller (asks.Lease now news.Lost) answer ∷ [])

-- A NODE TO WHICH NO MORE LINKS COME leads no more: it was told so, unless no step was left
abbrev pub LeadsNoMore : {M S : Type 0} → (M → ℕ → Ask → Answer → M → Type 0) → M → SeatOver S M Ask Answer → End → Type 0
LeadsNoMore steps opened seat ends.Closed = WasToldLost steps opened ⊎ FoundWorn seat
LeadsNoMore steps opened seat ends.Broken = Unit {0}

-- A NODE THAT WAS OPENED ends with Disk only where its store broke
abbrev pub EndsBroken : {M Q R : Type 0} → (M → ℕ → Q → Answer → M → Type 0) → M → Result R MountFault → Type 0
EndsBroken steps opened (Err fault.Disk) = Broke steps opened
EndsBroken steps opened result = Unit {0}

-- the count of the disks rose where the store broke, and with any other end all stayed
abbrev pub CountsEnd : Result End MountFault → (old new : Counts) → Type 0
CountsEnd (Ok ends.Broken) old new = DisksRose old new
CountsEnd served old new = new ≡ old

-- a node ends as it served: by its disk where its store broke
abbrev pub end_of : Result End MountFault → Result (Unit {0}) MountFault
end_of (Ok ends.Closed) = Ok tt
end_of (Ok ends.Broken) = Err fault.Disk
end_of (Err why) = Err why

abbrev pub EndsAs : Result End MountFault → (old new : Counts) → Result (Unit {0}) MountFault → Type 0
EndsAs served old new result = (result ≡ end_of served) × CountsEnd served old new
