-- A configuration that is read from its source.
use Rattle.std.specs.Prelude.{◌≡◌, ◌⊎◌, ℕ, ◌<◌, List, length, Option, Result, Ok, Err}
use Rattle.std.specs.Io.KnownBytes.{Consumes, IsAtEnd}
use Rattle.lf_base.specs.Faults.{Rose}
use Rattle.node_settings.specs.declared.settings.Settings.{Settings}
use Rattle.node_settings.specs.Configuration.{IsConfiguration}
use Rattle.node_mount.specs.declared.configuration.Configuration.{Configuration}
use Rattle.node_mount.specs.declared.mount_fault.MountFault.{MountFault}
use Rattle.node_mount.specs.declared.mount_fault.MountFault.TheVariants as fault

-- these bytes were read, which are all, or more than so many
pub record ReadsPast (most : ℕ) (left left_now : Option (List ℕ)) (bytes : List ℕ) : Type 0 where
  pub read : Consumes left left_now bytes
  pub enough : IsAtEnd left_now ⊎ (most < length bytes)

-- all that a configuration has was read, or more
abbrev pub ReadsEnough : (left left_now : Option (List ℕ)) (bytes : List ℕ) → Type 0
ReadsEnough left left_now bytes = ReadsPast 65536 left left_now bytes

-- what bytes come to: a configuration, with Config none, and where memory ran out either
abbrev pub IsSaid : {T : Type 0} → List ℕ → Result T MountFault → Type 0
IsSaid bytes (Err fault.Config) = (settings : Settings) → IsConfiguration bytes settings → ⊥
IsSaid bytes (Err fault.NoMemory) = Unit {0}
IsSaid bytes result = (settings : Settings) × IsConfiguration bytes settings

-- WHAT WAS READ OF THE CONFIGURATION: all of it, or more than 65,536 bytes; with Config these say no settings, else they
-- do. With Read and NoMemory nothing is said
abbrev pub ReadsConfiguration : {T : Type 0} → (left left_now : Option (List ℕ)) → Result T MountFault → Type 0
ReadsConfiguration left left_now (Err fault.Read) = Unit {0}
ReadsConfiguration left left_now (Err fault.NoMemory) = Unit {0}
ReadsConfiguration left left_now result = (bytes : List ℕ) × ReadsEnough left left_now bytes × IsSaid bytes result

-- what reading bytes gives: the settings that they say, and Config only where they say none
abbrev pub SaysSettings : List ℕ → Result Configuration MountFault → Type 0
SaysSettings bytes (Ok read) = IsConfiguration bytes read.settings
SaysSettings bytes (Err fault.Config) = (settings : Settings) → IsConfiguration bytes settings → ⊥
SaysSettings bytes (Err fault.NoMemory) = Unit {0}
SaysSettings bytes (Err why) = ⊥

-- reading bytes ends with Read or NoMemory where it does not succeed
abbrev pub IsReading : {T : Type 0} → Result T MountFault → Type 0
IsReading (Ok _) = Unit {0}
IsReading (Err fault.Read) = Unit {0}
IsReading (Err fault.NoMemory) = Unit {0}
IsReading (Err why) = ⊥

-- the source's count rose with Read alone
abbrev pub CountsSource : {T : Type 0} → (faults faults_now : ℕ) → Result T MountFault → Type 0
CountsSource faults faults_now (Err fault.Read) = Rose faults faults_now
CountsSource faults faults_now result = faults_now ≡ faults

-- the bytes that were read say these settings
pub record ReadsSettings (left left_now : Option (List ℕ)) (settings : Settings) : Type 0 where
  pub bytes : List ℕ
  pub read : ReadsEnough left left_now bytes
  pub says : IsConfiguration bytes settings
