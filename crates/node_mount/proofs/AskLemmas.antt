-- What the maker was asked for, call by call.
use Rattle.std.proofs.Common.{◌≡◌, inl, inr, ℕ, List, [], ◌∷◌, ◌++◌, Option, Some, None, IsSomeAnd, Result, Ok, Err, IfOk, ap, refl, sym, subst, ◌∙◌, append_assoc, append-nil}
use Rattle.node_settings.specs.declared.settings.MountSettings.{MountSettings}
use Rattle.node_settings.specs.declared.settings.ProxySettings.{ProxySettings}
use Rattle.node_settings.specs.declared.settings.Settings.{Settings}
use Rattle.node_recovery.specs.declared.fault.RecoverFault.{RecoverFault}
use Rattle.node_recovery.specs.declared.fault.RecoverFault.TheVariants as recovery
use Rattle.node_mount.specs.Asking.{Asks, AsksAsRead, AsksLinks, AsksMount, AsksMounter, AreAskedFor, RefusesProxy, address_of, disk_of, files_of, gave_all, gave_links, gave_mounter, http_of, mounter_of}
use Rattle.node_mount.specs.Configuring.{ReadsPast, ReadsSettings, SaysSettings}
use Rattle.node_objects.specs.Making.{gave, refused, TakesBack}
use Rattle.node_mount.specs.Mounting.{fault_of, IsOfReading, IsOpened}
use Rattle.node_mount.specs.Returns.{GivesBack}
use Rattle.node_objects.specs.declared.asked.Asked.{Asked}
use Rattle.node_mount.specs.declared.configuration.Configuration.{Configuration}
use Rattle.node_mount.specs.declared.mount_fault.MountFault.{MountFault}
use Rattle.node_mount.specs.declared.mount_fault.MountFault.TheVariants as fault
use Rattle.node_mount.proofs.BackLemmas.{and_one, one_back}

-- one call, and then these
pub then_these : {B : Type 0} (x : B) (xs : List B) (a b c : Option (List B)) → TakesBack x a b → GivesBack xs b c → GivesBack (x ∷ xs) a c
then_these x xs None b None one more = tt
then_these x xs (Some a) b None one more = tt
then_these x xs None None (Some c) one more = absurd more
then_these x xs (Some a) None (Some c) one more = absurd more
then_these x xs None (Some b) (Some c) one more = absurd one
then_these x xs (Some a) (Some b) (Some c) one more = more ∙ ap (λ l. l ++ xs) one ∙ append_assoc a (x ∷ []) xs

-- two calls
pub two_asked : {B : Type 0} (x y : B) (a b c : Option (List B)) → TakesBack x a b → TakesBack y b c → GivesBack (x ∷ y ∷ []) a c
two_asked x y a b c one two = then_these x (y ∷ []) a b c one (one_back y b c two)

-- these calls, and one before them
pub refuses_after : (x : Asked) (before : List Asked) (s : Settings) (old mid new : Option (List Asked))
    → TakesBack x old mid → RefusesProxy before s mid new → RefusesProxy (x ∷ before) s old new
refuses_after x before s old mid new one refuses = after s.proxy one refuses
  where
    after : (p : Option ProxySettings) → TakesBack x old mid → IsSomeAnd p (λ proxy. AreAskedFor (before ++ refused (address_of proxy) ∷ []) mid new)
        → IsSomeAnd p (λ proxy. AreAskedFor ((x ∷ before) ++ refused (address_of proxy) ∷ []) old new)
    after None one refuses = absurd refuses
    after (Some proxy) one refuses = then_these x (before ++ refused (address_of proxy) ∷ []) old mid new one refuses

-- what mounts the files was asked for in between, where it was at all
pub between : (s : Settings) (a b c d : Option (List Asked)) → b ≡ a → AsksMount s b c → d ≡ c → AsksMount s a d
between s a b c d before asks after = subst (λ told. AsksMount s a told) (sym after) (subst (λ told. AsksMount s told c) before asks)

-- these calls, and behind them what mounts the files
and_mounter : (s : Settings) (mount : Option MountSettings) (xs : List Asked) (a b c : Option (List Asked))
    → GivesBack xs a b → AsksMounter s mount b c → GivesBack (xs ++ gave_mounter s mount) a c
and_mounter s None xs a b c these same =
    subst (λ (told : Option (List Asked)). GivesBack (xs ++ []) a told) (sym same) (subst (λ (l : List Asked). GivesBack l a b) (sym (append-nil xs)) these)
and_mounter s (Some mount) xs a b c these one = and_one xs (gave (mounter_of s mount)) a b c these one

pub links_and_mount : (s : Settings) (a b c : Option (List Asked)) → AreAskedFor (gave_links s) a b → AsksMount s b c → AreAskedFor (gave_all s) a c
links_and_mount s a b c links mount = and_mounter s s.mount (gave_links s) a b c links mount

-- a node that was opened asked for all
pub served_asked : {R : Type 0} (s : Settings) (old new : Option (List Asked)) (result : Result R MountFault)
    → AreAskedFor (gave_all s) old new → IsOpened result → AsksLinks s old new result
served_asked s old new (Ok done) both is = both
served_asked s old new (Err fault.NoThread) both is = both
served_asked s old new (Err fault.Limit) both is = both
served_asked s old new (Err fault.Network) both is = inr (inr (inr both))
served_asked s old new (Err fault.NoMemory) both is = inr (inr both)
served_asked s old new (Err fault.Disk) both is = both
served_asked s old new (Err fault.Read) both is = absurd is
served_asked s old new (Err fault.Config) both is = absurd is
served_asked s old new (Err fault.Damaged) both is = absurd is

-- the disk was given, and then links were asked for
pub disk_then : {R : Type 0} (s : Settings) (old mid new : Option (List Asked)) (result : Result R MountFault)
    → TakesBack (gave (disk_of s)) old mid → AsksLinks s mid new result → Asks s old new result
disk_then s old mid new (Ok done) disk links = then_these _ _ old mid new disk links
disk_then s old mid new (Err fault.NoThread) disk links = then_these _ _ old mid new disk links
disk_then s old mid new (Err fault.Limit) disk links = then_these _ _ old mid new disk links
disk_then s old mid new (Err fault.Network) disk (inl links) = inl (then_these _ _ old mid new disk links)
disk_then s old mid new (Err fault.Network) disk (inr (inl links)) = inr (inl (then_these _ _ old mid new disk links))
disk_then s old mid new (Err fault.Network) disk (inr (inr (inl links))) = inr (inr (inl (refuses_after (gave (disk_of s)) (gave (files_of s) ∷ gave (http_of s) ∷ []) s old mid new disk links)))
disk_then s old mid new (Err fault.Network) disk (inr (inr (inr links))) = inr (inr (inr (then_these _ _ old mid new disk links)))
disk_then s old mid new (Err fault.NoMemory) disk (inl same) =
    inr (inl (subst (λ told. AreAskedFor (gave (disk_of s) ∷ []) old told) (sym same) (one_back (gave (disk_of s)) old mid disk)))
disk_then s old mid new (Err fault.NoMemory) disk (inr (inl links)) = inr (inr (inl (then_these _ _ old mid new disk links)))
disk_then s old mid new (Err fault.NoMemory) disk (inr (inr links)) = inr (inr (inr (then_these _ _ old mid new disk links)))
disk_then s old mid new (Err fault.Disk) disk links = inr (inr (then_these _ _ old mid new disk links))
disk_then s old mid new (Err fault.Read) disk links = absurd links
disk_then s old mid new (Err fault.Config) disk links = absurd links
disk_then s old mid new (Err fault.Damaged) disk links = absurd links

-- a disk was given and not opened
pub disk_alone : (R : Type 0) (s : Settings) (old new : Option (List Asked)) (why : RecoverFault)
    → TakesBack (gave (disk_of s)) old new → Asks {R = R} s old new (Err (fault_of why))
disk_alone R s old new recovery.Disk disk = inr (inl (one_back (gave (disk_of s)) old new disk))
disk_alone R s old new (recovery.Damaged file want got) disk = one_back (gave (disk_of s)) old new disk
disk_alone R s old new recovery.NoMemory disk = inr (inl (one_back (gave (disk_of s)) old new disk))

-- enough was read, and it says these settings
pub settings_read : (left left_now : Option (List ℕ)) (bytes : List ℕ) (result : Result Configuration MountFault)
    → ReadsPast 65536 left left_now bytes → SaysSettings bytes result → IfOk result (λ c. ReadsSettings left left_now c.settings)
settings_read left left_now bytes (Ok c) read says = record { bytes = bytes; read = read; says = says }
settings_read left left_now bytes (Err why) read says = tt

-- what was asked for by settings that were read
pub asks_read : {R : Type 0} (left left_now : Option (List ℕ)) (s : Settings) (old new : Option (List Asked)) (result : Result R MountFault)
    → ReadsSettings left left_now s → Asks s old new result → AsksAsRead left left_now old new result
asks_read left left_now s old new (Ok done) read asks = (s, read, asks)
asks_read left left_now s old new (Err fault.NoThread) read asks = (s, read, asks)
asks_read left left_now s old new (Err fault.Limit) read asks = (s, read, asks)
asks_read left left_now s old new (Err fault.Network) read asks = (s, read, asks)
asks_read left left_now s old new (Err fault.Disk) read asks = (s, read, asks)
asks_read left left_now s old new (Err fault.Damaged) read asks = (s, read, asks)
asks_read left left_now s old new (Err fault.NoMemory) read asks = inr (s, read, asks)
asks_read left left_now s old new (Err fault.Read) read asks = absurd asks
asks_read left left_now s old new (Err fault.Config) read asks = absurd asks

-- where no settings were read nothing was asked for
pub none_asked : (R Q : Type 0) (left left_now : Option (List ℕ)) (told : Option (List Asked)) (why : MountFault) → IsOfReading {T = Q} (Err why)
    → AsksAsRead {R = R} left left_now told told (Err why)
none_asked R Q left left_now told fault.Read of = refl
none_asked R Q left left_now told fault.Config of = refl
none_asked R Q left left_now told fault.NoMemory of = inl refl
none_asked R Q left left_now told fault.Damaged of = absurd of
none_asked R Q left left_now told fault.Disk of = absurd of
none_asked R Q left left_now told fault.Network of = absurd of
none_asked R Q left left_now told fault.NoThread of = absurd of
none_asked R Q left left_now told fault.Limit of = absurd of
