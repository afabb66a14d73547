-- How a lease service ends, by how its parts do.
use Rattle.std.proofs.Common.{◌≡◌, inl, inr, ℕ, Bool, true, List, Option, Result, Ok, Err, OnOk, refl}
use Rattle.lf_base.specs.declared.link.Link.{Ghosts as LinkGhosts}
use Rattle.node_settings.specs.declared.settings.ServiceSettings.{ServiceSettings}
use Rattle.node_mount.specs.LeaseService.{CountsAccepts, HttpBack, LeasesBack, ReadsService, ReadsSettings, SaysService, SaysTime, ServesAnew, ServesTold}
use Rattle.node_mount.specs.Configuring.{ReadsPast}
use Rattle.node_objects.specs.Making.{TakesBack}
use Rattle.node_mount.specs.Mounting.{IsOfReading, IsPastReading}
use Rattle.node_mount.specs.Serving.{GivesLimit}
use Rattle.node_mount.specs.declared.mount_fault.MountFault.{MountFault}
use Rattle.node_mount.specs.declared.mount_fault.MountFault.TheVariants as fault
use Rattle.node_objects.specs.declared.returned.Returned.{Returned}
use Rattle.node_objects.specs.declared.returned.Returned.TheVariants as returned
use Rattle.node_mount.proofs.BackLemmas.{one_back}

-- enough was read, and this is what it says
pub says-settings : (left left_now : Option (List ℕ)) (bytes : List ℕ) (result : Result ServiceSettings MountFault)
    → ReadsPast 65536 left left_now bytes → SaysService bytes result → ReadsSettings left left_now result
says-settings left left_now bytes (Ok settings) read says = (bytes, read, says)
says-settings left left_now bytes (Err fault.Config) read says = (bytes, read, says)
says-settings left left_now bytes (Err fault.NoMemory) read says = tt
says-settings left left_now bytes (Err fault.Read) read says = tt
says-settings left left_now bytes (Err fault.Damaged) read says = absurd says
says-settings left left_now bytes (Err fault.Disk) read says = absurd says
says-settings left left_now bytes (Err fault.Network) read says = absurd says
says-settings left left_now bytes (Err fault.NoThread) read says = absurd says
says-settings left left_now bytes (Err fault.Limit) read says = absurd says

-- what was read with settings was read, however the service ends
pub service-on : {T : Type 0} (left left_now : Option (List ℕ)) (settings : ServiceSettings) (result : Result T MountFault)
    → ReadsSettings left left_now (Ok settings) → IsPastReading result → ReadsService left left_now result
service-on left left_now settings (Ok done) read past = (read.0, read.1, (settings, read.2))
service-on left left_now settings (Err fault.Read) read past = absurd past
service-on left left_now settings (Err fault.Config) read past = absurd past
service-on left left_now settings (Err fault.NoMemory) read past = tt
service-on left left_now settings (Err fault.Damaged) read past = (read.0, read.1, (settings, read.2))
service-on left left_now settings (Err fault.Disk) read past = (read.0, read.1, (settings, read.2))
service-on left left_now settings (Err fault.Network) read past = (read.0, read.1, (settings, read.2))
service-on left left_now settings (Err fault.NoThread) read past = (read.0, read.1, (settings, read.2))
service-on left left_now settings (Err fault.Limit) read past = (read.0, read.1, (settings, read.2))

-- why reading failed, whatever it was to give
pub service-why : (T : Type 0) (left left_now : Option (List ℕ)) (why : MountFault) → ReadsSettings left left_now (Err why) → ReadsService {T = T} left left_now (Err why)
service-why T left left_now fault.Read read = tt
service-why T left left_now fault.Config read = read
service-why T left left_now fault.NoMemory read = tt
service-why T left left_now fault.Damaged read = absurd read.2
service-why T left left_now fault.Disk read = absurd read.2
service-why T left left_now fault.Network read = absurd read.2
service-why T left left_now fault.NoThread read = absurd read.2
service-why T left left_now fault.Limit read = absurd read.2

-- where the configuration was not read, nothing came back
pub none-served : {D F H T S : Type 0} (R : Type 0) (ended : H → Bool) (given : H → ℕ) (Serves : ℕ → Type 0) (told : Option (List (Returned D F H T S))) (why : MountFault)
    → IsOfReading {T = ServiceSettings} (Err why) → LeasesBack {D = D} {F = F} {H = H} {T = T} {S = S} {R = R} ended given Serves told told (Err why)
none-served R ended given Serves told fault.Read of = refl
none-served R ended given Serves told fault.Config of = refl
none-served R ended given Serves told fault.NoMemory of = refl
none-served R ended given Serves told fault.Damaged of = absurd of
none-served R ended given Serves told fault.Disk of = absurd of
none-served R ended given Serves told fault.Network of = absurd of
none-served R ended given Serves told fault.NoThread of = absurd of
none-served R ended given Serves told fault.Limit of = absurd of

-- the acceptor came back, by how serving ended
pub http-back : {D F H T S R : Type 0} (ended : H → Bool) (given : H → ℕ) (Serves : ℕ → Type 0) (http : H) (accept accept_now : ℕ) (old new : Option (List (Returned D F H T S)))
    (result : Result R MountFault) → TakesBack (returned.Http http) old new → Serves (given http) → OnOk result (ended http ≡ true) → GivesLimit (given http) result
    → CountsAccepts accept accept_now result → LeasesBack ended given Serves old new result
http-back ended given Serves http accept accept_now old new (Ok done) back serves end limit cause = (http, (end, serves), one_back _ old new back)
http-back ended given Serves http accept accept_now old new (Err fault.Limit) back serves end limit cause = (http, (limit, serves), one_back _ old new back)
http-back ended given Serves http accept accept_now old new (Err fault.Network) back serves end limit cause = inr (http, serves, one_back _ old new back)
http-back ended given Serves http accept accept_now old new (Err fault.Read) back serves end limit cause = absurd cause
http-back ended given Serves http accept accept_now old new (Err fault.Config) back serves end limit cause = absurd cause
http-back ended given Serves http accept accept_now old new (Err fault.NoMemory) back serves end limit cause = absurd cause
http-back ended given Serves http accept accept_now old new (Err fault.Damaged) back serves end limit cause = absurd cause
http-back ended given Serves http accept accept_now old new (Err fault.Disk) back serves end limit cause = absurd cause
http-back ended given Serves http accept accept_now old new (Err fault.NoThread) back serves end limit cause = absurd cause

-- what holds of the links that were served may be said in other words
back-map : {D F H T S R : Type 0} (ended : H → Bool) (given : H → ℕ) (P Q : ℕ → Type 0) (old new : Option (List (Returned D F H T S))) (result : Result R MountFault)
    → ((n : ℕ) → P n → Q n) → LeasesBack ended given P old new result → LeasesBack ended given Q old new result
back-map ended given P Q old new (Ok done) f back = (back.0, (back.1.0, f _ back.1.1), back.2)
back-map ended given P Q old new (Err fault.Limit) f back = (back.0, (back.1.0, f _ back.1.1), back.2)
back-map ended given P Q old new (Err fault.Network) f (inl same) = inl same
back-map ended given P Q old new (Err fault.Network) f (inr back) = inr (back.0, f _ back.1, back.2)
back-map ended given P Q old new (Err fault.Read) f back = back
back-map ended given P Q old new (Err fault.Config) f back = back
back-map ended given P Q old new (Err fault.NoMemory) f back = back
back-map ended given P Q old new (Err fault.Damaged) f back = back
back-map ended given P Q old new (Err fault.Disk) f back = back
back-map ended given P Q old new (Err fault.NoThread) f back = back

-- a lease lasted as long as the configuration says
pub back-told : {D F H T S R L : Type 0} (l : LinkGhosts L) (ended : H → Bool) (given : H → ℕ) (left left_now : Option (List ℕ)) (settings : ServiceSettings)
    (old new : Option (List (Returned D F H T S))) (result : Result R MountFault) → ReadsSettings left left_now (Ok settings)
    → LeasesBack ended given (ServesAnew l settings.ttl) old new result → LeasesBack ended given (ServesTold l left left_now) old new result
back-told l ended given left left_now settings old new result read back =
    let told : SaysTime left left_now settings.ttl = record { bytes = read.0; settings = settings; read = read.1; says = read.2; time = refl } in
    back-map ended given (ServesAnew l settings.ttl) (ServesTold l left left_now) old new result (λ n served. (settings.ttl, told, served)) back
