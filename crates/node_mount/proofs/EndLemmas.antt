-- A node that served, and how it ends.
use Rattle.std.proofs.Common.{◌≡◌, inl, inr, ℕ, Bool, Option, List, Result, Ok, Err, IfOk, refl, sym, subst, ◌∙◌}
use Rattle.node_core.specs.declared.answer.Answer.{Answer}
use Rattle.node_mount.specs.Ending.{BreaksWhere, CountsEnd, EndsBroken, end_of}
use Rattle.node_objects.specs.Making.{DisksRose, NetworkRose, SpawnersRose}
use Rattle.node_mount.specs.Mounting.{IsOpened, IsServing, RaisesFor}
use Rattle.node_mount.specs.Returns.{CameBack}
use Rattle.node_objects.specs.declared.counts.Counts.{Counts}
use Rattle.node_mount.specs.declared.ending.End.{End}
use Rattle.node_mount.specs.declared.ending.End.TheVariants as ends
use Rattle.node_mount.specs.declared.mount_fault.MountFault.{MountFault}
use Rattle.node_mount.specs.declared.mount_fault.MountFault.TheVariants as fault
use Rattle.node_objects.specs.declared.returned.Returned.{Returned}

-- it was opened
pub end_opened : (served : Result End MountFault) → IsServing served → IsOpened (end_of served)
end_opened (Ok ends.Closed) is = tt
end_opened (Ok ends.Broken) is = tt
end_opened (Err fault.NoThread) is = tt
end_opened (Err fault.NoMemory) is = tt
end_opened (Err fault.Network) is = tt
end_opened (Err fault.Limit) is = tt
end_opened (Err fault.Disk) is = tt
end_opened (Err fault.Read) is = absurd is
end_opened (Err fault.Config) is = absurd is
end_opened (Err fault.Damaged) is = absurd is

-- what came back
pub end_back : {D F H T S : Type 0} (ended : F → Bool) (given : F → ℕ) (old new : Option (List (Returned D F H T S))) (served : Result End MountFault)
    → CameBack ended given old new served → CameBack ended given old new (end_of served)
end_back ended given old new (Ok ends.Closed) back = back
end_back ended given old new (Ok ends.Broken) back = inr (inr back)
end_back ended given old new (Err fault.NoThread) back = back
end_back ended given old new (Err fault.NoMemory) back = back
end_back ended given old new (Err fault.Network) back = back
end_back ended given old new (Err fault.Limit) back = back
end_back ended given old new (Err fault.Disk) back = back
end_back ended given old new (Err fault.Read) back = back
end_back ended given old new (Err fault.Config) back = back
end_back ended given old new (Err fault.Damaged) back = back

-- which count rose
pub end_raises : (old mid new : Counts) (served : Result End MountFault) → RaisesFor old mid served → CountsEnd served mid new → RaisesFor old new (end_of served)
end_raises old mid new (Ok ends.Closed) same counts = counts ∙ same
end_raises old mid new (Ok ends.Broken) same counts = subst (λ before. DisksRose before new) same counts
end_raises old mid new (Err fault.NoThread) rose counts = subst (λ after. SpawnersRose old after) (sym counts) rose
end_raises old mid new (Err fault.Network) rose counts = subst (λ after. NetworkRose old after) (sym counts) rose
end_raises old mid new (Err fault.Disk) rose counts = subst (λ after. DisksRose old after) (sym counts) rose
end_raises old mid new (Err fault.NoMemory) same counts = counts ∙ same
end_raises old mid new (Err fault.Limit) same counts = counts ∙ same
end_raises old mid new (Err fault.Read) same counts = counts ∙ same
end_raises old mid new (Err fault.Config) same counts = counts ∙ same
end_raises old mid new (Err fault.Damaged) same counts = counts ∙ same

-- its store broke
pub end_broke : {M Q : Type 0} (steps : M → ℕ → Q → Answer → M → Type 0) (opened : M) (served : Result End MountFault)
    → IsServing served → IfOk served (BreaksWhere steps opened) → EndsBroken steps opened (end_of served)
end_broke steps opened (Ok ends.Closed) is broke = tt
end_broke steps opened (Ok ends.Broken) is broke = broke
end_broke steps opened (Err fault.NoThread) is broke = tt
end_broke steps opened (Err fault.NoMemory) is broke = tt
end_broke steps opened (Err fault.Network) is broke = tt
end_broke steps opened (Err fault.Limit) is broke = tt
end_broke steps opened (Err fault.Disk) is broke = absurd is
end_broke steps opened (Err fault.Read) is broke = absurd is
end_broke steps opened (Err fault.Config) is broke = absurd is
end_broke steps opened (Err fault.Damaged) is broke = absurd is
