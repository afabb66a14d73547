-- Where the links of a node come from, as they are made.
use Rattle.std.specs.Prelude.{◌≡◌, ◌⊎◌, List, [], ◌∷◌, Option, Some, None, Result, Ok, Err}
use Rattle.node_settings.specs.declared.settings.ProxySettings.{ProxySettings}
use Rattle.node_settings.specs.declared.settings.Settings.{Settings}
use Rattle.node_mount.specs.Asking.{AreAskedFor, RefusesProxy, address_of, files_of, gave_calls, gave_links, http_of}
use Rattle.node_objects.specs.Making.{NetworkRose, TakesBack, gave, refused}
use Rattle.node_mount.specs.Returns.{BothBack, FilesBack, HttpBack}
use Rattle.node_objects.specs.declared.asked.Asked.{Asked}
use Rattle.node_objects.specs.declared.counts.Counts.{Counts}
use Rattle.node_mount.specs.declared.doors.Unmade.{Unmade}
use Rattle.node_mount.specs.declared.doors.Unmade.TheVariants as unmade
use Rattle.node_mount.specs.declared.proxy_links.Proxy.{Proxy}
use Rattle.node_objects.specs.declared.returned.Returned.{Returned}

-- AN APPLICATION'S REQUESTS ARE PASSED ON where the settings have one, and to the target that they name
abbrev pub PassesOn : {A T : Type 0} → Option ProxySettings → Option (Proxy A T) → Type 0
PassesOn None None = Unit {0}
PassesOn None (Some proxy) = ⊥
PassesOn (Some settings) None = ⊥
PassesOn (Some settings) (Some proxy) = proxy.target ≡ settings.target

-- what is not made for want of its place raises the network's count, and nothing else does
abbrev pub CountsMaking : {T : Type 0} → (old new : Counts) → Result T Unmade → Type 0
CountsMaking old new (Ok _) = new ≡ old
CountsMaking old new (Err unmade.Network) = NetworkRose old new
CountsMaking old new (Err unmade.NoMemory) = new ≡ old

-- the proxy's address was asked for, where there is a proxy
abbrev pub AsksProxy : {T : Type 0} → Option ProxySettings → (old new : Option (List Asked)) → Result T Unmade → Type 0
AsksProxy None old new (Ok _) = new ≡ old
AsksProxy None old new (Err why) = ⊥
AsksProxy (Some proxy) old new (Err unmade.Network) = TakesBack (refused (address_of proxy)) old new
AsksProxy (Some proxy) old new result = TakesBack (gave (address_of proxy)) old new

-- the address of the HTTP calls, and then that
abbrev pub AsksCalls : {T : Type 0} → Settings → (old new : Option (List Asked)) → Result T Unmade → Type 0
AsksCalls s old new (Err unmade.Network) = AreAskedFor (refused (http_of s) ∷ []) old new ⊎ RefusesProxy (gave (http_of s) ∷ []) s old new
AsksCalls s old new result = AreAskedFor (gave_calls s) old new

-- the socket, and then those
abbrev pub AsksDoors : {T : Type 0} → Settings → (old new : Option (List Asked)) → Result T Unmade → Type 0
AsksDoors s old new (Err unmade.Network) = AreAskedFor (refused (files_of s) ∷ []) old new
    ⊎ (AreAskedFor (gave (files_of s) ∷ refused (http_of s) ∷ []) old new ⊎ RefusesProxy (gave (files_of s) ∷ gave (http_of s) ∷ []) s old new)
AsksDoors s old new result = AreAskedFor (gave_links s) old new

-- what came back: the acceptor of the HTTP calls where the proxy's address was not given, and nothing where their own was not
abbrev pub CallsBack : {D F H T S R : Type 0} → Settings → (asked asked_now : Option (List Asked)) → (old new : Option (List (Returned D F H T S))) → Result R Unmade → Type 0
CallsBack s asked asked_now old new (Ok _) = new ≡ old
CallsBack s asked asked_now old new (Err unmade.Network) = (AreAskedFor (refused (http_of s) ∷ []) asked asked_now × (new ≡ old))
    ⊎ (RefusesProxy (gave (http_of s) ∷ []) s asked asked_now × HttpBack old new)
CallsBack s asked asked_now old new (Err unmade.NoMemory) = Unit {0}

-- WHAT CAME BACK: each acceptor that was made in front of the one that was not given
abbrev pub DoorsBack : {D F H T S R : Type 0} → Settings → (asked asked_now : Option (List Asked)) → (old new : Option (List (Returned D F H T S))) → Result R Unmade → Type 0
DoorsBack s asked asked_now old new (Ok _) = new ≡ old
DoorsBack s asked asked_now old new (Err unmade.Network) = (AreAskedFor (refused (files_of s) ∷ []) asked asked_now × (new ≡ old))
    ⊎ ((AreAskedFor (gave (files_of s) ∷ refused (http_of s) ∷ []) asked asked_now × FilesBack old new)
    ⊎ (RefusesProxy (gave (files_of s) ∷ gave (http_of s) ∷ []) s asked asked_now × BothBack old new))
DoorsBack s asked asked_now old new (Err unmade.NoMemory) = Unit {0}
