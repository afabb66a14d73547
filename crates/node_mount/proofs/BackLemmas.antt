-- What came back, object by object.
use Rattle.std.proofs.Common.{◌≡◌, inl, inr, ℕ, Bool, true, List, [], ◌∷◌, ◌++◌, Option, Some, None, Result, Ok, Err, OnOk, IsTrue, ap, refl, ◌∙◌, append_assoc}
use Rattle.lf_disk.specs.History.{History, now}
use Rattle.node_recovery.specs.declared.fault.RecoverFault.{RecoverFault}
use Rattle.node_recovery.specs.declared.fault.RecoverFault.TheVariants as recovery
use Rattle.node_recovery.specs.Opening.{IsWhy}
use Rattle.node_mount.specs.declared.mount_fault.MountFault.{MountFault}
use Rattle.node_mount.specs.declared.mount_fault.MountFault.TheVariants as fault
use Rattle.node_objects.specs.declared.returned.Returned.{Returned}
use Rattle.node_objects.specs.declared.returned.Returned.TheVariants as returned
use Rattle.node_mount.specs.Damage.{DamageHasCause}
use Rattle.node_objects.specs.Making.{TakesBack}
use Rattle.node_mount.specs.Mounting.{fault_of, IsOfReading, IsOpened}
use Rattle.node_mount.specs.Returns.{GivesBack, CameBack}
use Rattle.node_mount.specs.Serving.{CountsServing, GivesLimit}

-- one object
pub one_back : {B : Type 0} (x : B) (a b : Option (List B)) → TakesBack x a b → GivesBack (x ∷ []) a b
one_back x None None t = tt
one_back x (Some a) None t = tt
one_back x None (Some b) t = t
one_back x (Some a) (Some b) t = t

-- one object more
pub and_one : {B : Type 0} (xs : List B) (x : B) (a b c : Option (List B)) → GivesBack xs a b → TakesBack x b c → GivesBack (xs ++ x ∷ []) a c
and_one xs x None b None g t = tt
and_one xs x (Some a) b None g t = tt
and_one xs x None None (Some c) g t = absurd t
and_one xs x None (Some b) (Some c) g t = absurd g
and_one xs x (Some a) None (Some c) g t = absurd t
and_one xs x (Some a) (Some b) (Some c) g t = t ∙ ap (λ l. l ++ x ∷ []) g ∙ append_assoc a xs (x ∷ [])

-- three objects came back, one after another
pub three_back : {D F H T S : Type 0} (files : F) (dialer : T) (spawner : S) (a b c d : Option (List (Returned D F H T S)))
    → TakesBack (returned.Files files) a b → TakesBack (returned.Dialer dialer) b c → TakesBack (returned.Spawner spawner) c d
    → GivesBack (returned.Files files ∷ returned.Dialer dialer ∷ returned.Spawner spawner ∷ []) a d
three_back files dialer spawner a b c d one two three =
    and_one (returned.Files files ∷ returned.Dialer dialer ∷ []) (returned.Spawner spawner) a c d
    (and_one (returned.Files files ∷ []) (returned.Dialer dialer) a b c (one_back (returned.Files files) a b one) two) three

-- how serving ended, with all that it used
pub served_back : {D F H T S R : Type 0} (ended : F → Bool) (given : F → ℕ) (files : F) (dialer : T) (spawner : S) (a b c d : ℕ)
    (old new : Option (List (Returned D F H T S))) (result : Result R MountFault)
    → GivesBack (returned.Files files ∷ returned.Dialer dialer ∷ returned.Spawner spawner ∷ []) old new
    → OnOk result (ended files ≡ true) → GivesLimit (given files) result → CountsServing a b c d result → CameBack ended given old new result
served_back ended given files dialer spawner a b c d old new (Ok _) all end limit cause = (files, dialer, spawner, end, all)
served_back ended given files dialer spawner a b c d old new (Err fault.Limit) all end limit cause = (files, dialer, spawner, limit, all)
served_back ended given files dialer spawner a b c d old new (Err fault.NoThread) all end limit cause = (files, dialer, spawner, tt, all)
served_back ended given files dialer spawner a b c d old new (Err fault.Network) all end limit cause = inr (inr (inr (files, dialer, spawner, tt, all)))
served_back ended given files dialer spawner a b c d old new (Err fault.NoMemory) all end limit cause = tt
served_back ended given files dialer spawner a b c d old new (Err fault.Read) all end limit cause = absurd cause
served_back ended given files dialer spawner a b c d old new (Err fault.Config) all end limit cause = absurd cause
served_back ended given files dialer spawner a b c d old new (Err fault.Damaged) all end limit cause = absurd cause
served_back ended given files dialer spawner a b c d old new (Err fault.Disk) all end limit cause = absurd cause

-- a disk came back that was not opened
pub disk_back : {D F H T S : Type 0} (R : Type 0) (ended : F → Bool) (given : F → ℕ) (disk : D) (old new : Option (List (Returned D F H T S))) (why : RecoverFault)
    → GivesBack (returned.Disk disk ∷ []) old new → CameBack {D = D} {F = F} {H = H} {T = T} {S = S} {R = R} ended given old new (Err (fault_of why))
disk_back R ended given disk old new recovery.Disk g = inr (inl (disk, g))
disk_back R ended given disk old new (recovery.Damaged file want got) g = (disk, g)
disk_back R ended given disk old new recovery.NoMemory g = tt

-- why a directory was refused
pub damage_found : {D F H T S : Type 0} (R : Type 0) (honest : D → Bool) (history : D → History) (may_give : D → Type 0) (given disk : D) (old new : Option (List (Returned D F H T S))) (why : RecoverFault)
    → may_give given → (IsTrue (honest given) → IsWhy (now (history given)) why) → honest disk ≡ honest given → GivesBack (returned.Disk disk ∷ []) old new
    → DamageHasCause {D = D} {F = F} {H = H} {T = T} {S = S} {R = R} honest history may_give old new (Err (fault_of why))
damage_found R honest history may_give given disk old new recovery.Disk next is same back = tt
damage_found R honest history may_give given disk old new (recovery.Damaged file want got) next is same back =
    record { given = given; disk = disk; was_next = next; damage = λ h. (file, want, got, is h); same = same; back = back }
damage_found R honest history may_give given disk old new recovery.NoMemory next is same back = tt

-- a node that was opened has not found damage
pub no_damage : {D F H T S R : Type 0} (honest : D → Bool) (history : D → History) (may_give : D → Type 0) (old new : Option (List (Returned D F H T S))) (result : Result R MountFault)
    → IsOpened result → DamageHasCause honest history may_give old new result
no_damage honest history may_give old new (Ok done) is = tt
no_damage honest history may_give old new (Err fault.Damaged) is = absurd is
no_damage honest history may_give old new (Err fault.Read) is = tt
no_damage honest history may_give old new (Err fault.Config) is = tt
no_damage honest history may_give old new (Err fault.Disk) is = tt
no_damage honest history may_give old new (Err fault.Network) is = tt
no_damage honest history may_give old new (Err fault.NoThread) is = tt
no_damage honest history may_give old new (Err fault.Limit) is = tt
no_damage honest history may_give old new (Err fault.NoMemory) is = tt

-- where the configuration was not read, nothing was made, and nothing came back
pub none_back : {D F H T S : Type 0} (R : Type 0) (ended : F → Bool) (given : F → ℕ) (told : Option (List (Returned D F H T S))) (Q : Type 0) (why : MountFault)
    → IsOfReading {T = Q} (Err why) → CameBack {D = D} {F = F} {H = H} {T = T} {S = S} {R = R} ended given told told (Err why)
none_back R ended given told Q fault.Read of = refl
none_back R ended given told Q fault.Config of = refl
none_back R ended given told Q fault.NoMemory of = tt
none_back R ended given told Q fault.Damaged of = absurd of
none_back R ended given told Q fault.Disk of = absurd of
none_back R ended given told Q fault.Network of = absurd of
none_back R ended given told Q fault.NoThread of = absurd of
none_back R ended given told Q fault.Limit of = absurd of

pub none_found : {D F H T S : Type 0} (R : Type 0) (honest : D → Bool) (history : D → History) (may_give : D → Type 0) (told : Option (List (Returned D F H T S))) (Q : Type 0) (why : MountFault)
    → IsOfReading {T = Q} (Err why) → DamageHasCause {D = D} {F = F} {H = H} {T = T} {S = S} {R = R} honest history may_give told told (Err why)
none_found R honest history may_give told Q fault.Read of = tt
none_found R honest history may_give told Q fault.Config of = tt
none_found R honest history may_give told Q fault.NoMemory of = tt
none_found R honest history may_give told Q fault.Damaged of = absurd of
none_found R honest history may_give told Q fault.Disk of = tt
none_found R honest history may_give told Q fault.Network of = tt
none_found R honest history may_give told Q fault.NoThread of = tt
none_found R honest history may_give told Q fault.Limit of = tt
