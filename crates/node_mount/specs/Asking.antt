-- What a node that is started asks of its maker.
use Rattle.std.specs.Prelude.{◌≡◌, ◌⊎◌, ℕ, List, [], ◌∷◌, ◌++◌, Option, Some, None, IsSomeAnd, Result, Ok, Err}
use Rattle.node_settings.specs.declared.settings.MountSettings.{MountSettings}
use Rattle.node_settings.specs.declared.settings.ProxySettings.{ProxySettings}
use Rattle.node_settings.specs.declared.settings.Settings.{Settings}
use Rattle.node_mount.specs.Configuring.{ReadsSettings}
use Rattle.node_objects.specs.Making.{TakesBack, gave, refused}
use Rattle.node_objects.specs.Mounters.{mount_call}
use Rattle.node_mount.specs.Returns.{GivesBack}
use Rattle.node_objects.specs.declared.asked.Asked.{Asked}
use Rattle.node_objects.specs.declared.asked.Wanted.{Wanted}
use Rattle.node_objects.specs.declared.asked.Wanted.TheVariants as wants
use Rattle.node_mount.specs.declared.mount_fault.MountFault.{MountFault}
use Rattle.node_mount.specs.declared.mount_fault.MountFault.TheVariants as fault

-- the data directory of its database, its socket, its HTTP address, and that of its proxy
abbrev pub disk_of : Settings → Wanted
disk_of s = wants.Disk s.database

abbrev pub files_of : Settings → Wanted
files_of s = wants.Files s.socket

abbrev pub http_of : Settings → Wanted
http_of s = wants.Http s.http

abbrev pub address_of : ProxySettings → Wanted
address_of proxy = wants.Http proxy.addr

-- that of its proxy was given, where it has one
abbrev pub gave_proxy : Option ProxySettings → List Asked
gave_proxy None = []
gave_proxy (Some proxy) = gave (address_of proxy) ∷ []

-- each address was given
abbrev pub gave_calls : Settings → List Asked
gave_calls s = gave (http_of s) ∷ gave_proxy s.proxy

-- all from which links come was given
abbrev pub gave_links : Settings → List Asked
gave_links s = gave (files_of s) ∷ gave_calls s

-- what mounts its files, by these of its settings
abbrev pub mounter_of : Settings → MountSettings → Wanted
mounter_of s mount = wants.Mount (mount_call s.database s.socket mount)

-- that was given, where they name a folder
abbrev pub gave_mounter : Settings → Option MountSettings → List Asked
gave_mounter s None = []
gave_mounter s (Some mount) = gave (mounter_of s mount) ∷ []

-- all was given by which it serves
abbrev pub gave_all : Settings → List Asked
gave_all s = gave_links s ++ gave_mounter s s.mount

-- this was asked for, in this order, where it is told
abbrev pub AreAskedFor : List Asked → (old new : Option (List Asked)) → Type 0
AreAskedFor asked old new = GivesBack asked old new

-- these were asked for, and then the proxy's address, which was not given
abbrev pub RefusesProxy : List Asked → Settings → (old new : Option (List Asked)) → Type 0
RefusesProxy before s old new = IsSomeAnd s.proxy (λ proxy. AreAskedFor (before ++ refused (address_of proxy) ∷ []) old new)

-- what mounts its files was asked for, where its settings name a folder, and else nothing
abbrev pub AsksMounter : Settings → Option MountSettings → (old new : Option (List Asked)) → Type 0
AsksMounter s None old new = new ≡ old
AsksMounter s (Some mount) old new = TakesBack (gave (mounter_of s mount)) old new

abbrev pub AsksMount : Settings → (old new : Option (List Asked)) → Type 0
AsksMount s old new = AsksMounter s s.mount old new

-- over a disk that was given: where links come from, and what mounts its files, by how it ended
abbrev pub AsksLinks : {R : Type 0} → Settings → (old new : Option (List Asked)) → Result R MountFault → Type 0
AsksLinks s old new (Err fault.Network) = AreAskedFor (refused (files_of s) ∷ []) old new
    ⊎ (AreAskedFor (gave (files_of s) ∷ refused (http_of s) ∷ []) old new
    ⊎ (RefusesProxy (gave (files_of s) ∷ gave (http_of s) ∷ []) s old new ⊎ AreAskedFor (gave_all s) old new))
AsksLinks s old new (Err fault.NoMemory) = (new ≡ old) ⊎ (AreAskedFor (gave_links s) old new ⊎ AreAskedFor (gave_all s) old new)
AsksLinks s old new (Err fault.Read) = ⊥
AsksLinks s old new (Err fault.Config) = ⊥
AsksLinks s old new (Err fault.Damaged) = ⊥
AsksLinks s old new result = AreAskedFor (gave_all s) old new

-- WHAT THE MAKER WAS ASKED FOR by these settings, by how it ended: the disk, then the socket, then the HTTP address, then that of its
-- proxy where it has one, then what mounts its files where they name a folder, each once and after the one before was given, and all
-- where it served
abbrev pub Asks : {R : Type 0} → Settings → (old new : Option (List Asked)) → Result R MountFault → Type 0
Asks s old new (Err fault.Disk) = AreAskedFor (refused (disk_of s) ∷ []) old new
    ⊎ (AreAskedFor (gave (disk_of s) ∷ []) old new ⊎ AreAskedFor (gave (disk_of s) ∷ gave_all s) old new)
Asks s old new (Err fault.Damaged) = AreAskedFor (gave (disk_of s) ∷ []) old new
Asks s old new (Err fault.Network) = AreAskedFor (gave (disk_of s) ∷ refused (files_of s) ∷ []) old new
    ⊎ (AreAskedFor (gave (disk_of s) ∷ gave (files_of s) ∷ refused (http_of s) ∷ []) old new
    ⊎ (RefusesProxy (gave (disk_of s) ∷ gave (files_of s) ∷ gave (http_of s) ∷ []) s old new ⊎ AreAskedFor (gave (disk_of s) ∷ gave_all s) old new))
Asks s old new (Err fault.NoMemory) = (new ≡ old)
    ⊎ (AreAskedFor (gave (disk_of s) ∷ []) old new ⊎ (AreAskedFor (gave (disk_of s) ∷ gave_links s) old new ⊎ AreAskedFor (gave (disk_of s) ∷ gave_all s) old new))
Asks s old new (Err fault.Read) = ⊥
Asks s old new (Err fault.Config) = ⊥
Asks s old new result = AreAskedFor (gave (disk_of s) ∷ gave_all s) old new

-- the same by settings that were read
abbrev pub AsksBy : {R : Type 0} → (left left_now : Option (List ℕ)) → (old new : Option (List Asked)) → Result R MountFault → Type 0
AsksBy left left_now old new result = (settings : Settings) × ReadsSettings left left_now settings × Asks settings old new result

-- WHAT THE MAKER WAS ASKED FOR: by the settings that were read, and nothing without any
abbrev pub AsksAsRead : {R : Type 0} → (left left_now : Option (List ℕ)) → (old new : Option (List Asked)) → Result R MountFault → Type 0
AsksAsRead left left_now old new (Err fault.Read) = new ≡ old
AsksAsRead left left_now old new (Err fault.Config) = new ≡ old
AsksAsRead left left_now old new (Err fault.NoMemory) = (new ≡ old) ⊎ AsksBy {R = Unit {0}} left left_now old new (Err fault.NoMemory)
AsksAsRead left left_now old new result = AsksBy left left_now old new result
