-- What the bytes of a configuration say is what was read of its source.
use Rattle.std.proofs.Common.{◌≡◌, ℕ, List, Option, Result, Ok, Err, refl}
use Rattle.node_mount.specs.declared.configuration.Configuration.{Configuration}
use Rattle.node_mount.specs.Configuring.{CountsSource, ReadsConfiguration, ReadsPast, SaysSettings}
use Rattle.node_mount.specs.Mounting.{IsOfReading, IsPastReading, RaisesFor}
use Rattle.node_objects.specs.declared.counts.Counts.{Counts}
use Rattle.node_mount.specs.declared.mount_fault.MountFault.{MountFault}
use Rattle.node_mount.specs.declared.mount_fault.MountFault.TheVariants as fault

-- enough was read, and this is what it says
pub says-reads : (left left_now : Option (List ℕ)) (bytes : List ℕ) (result : Result Configuration MountFault)
    → ReadsPast 65536 left left_now bytes → SaysSettings bytes result → ReadsConfiguration left left_now result
says-reads left left_now bytes (Ok c) read says = (bytes, read, (c.settings, says))
says-reads left left_now bytes (Err fault.Config) read says = (bytes, read, says)
says-reads left left_now bytes (Err fault.NoMemory) read says = tt
says-reads left left_now bytes (Err fault.Read) read says = tt
says-reads left left_now bytes (Err fault.Damaged) read says = absurd says
says-reads left left_now bytes (Err fault.Disk) read says = absurd says
says-reads left left_now bytes (Err fault.Network) read says = absurd says
says-reads left left_now bytes (Err fault.NoThread) read says = absurd says
says-reads left left_now bytes (Err fault.Limit) read says = absurd says

-- what was read with a configuration was read, however the node ends
pub reads-on : {T : Type 0} (left left_now : Option (List ℕ)) (settings : Configuration) (result : Result T MountFault)
    → ReadsConfiguration {T = Configuration} left left_now (Ok settings) → IsPastReading result → ReadsConfiguration left left_now result
reads-on left left_now settings (Ok done) read past = read
reads-on left left_now settings (Err fault.Read) read past = absurd past
reads-on left left_now settings (Err fault.Config) read past = absurd past
reads-on left left_now settings (Err fault.NoMemory) read past = tt
reads-on left left_now settings (Err fault.Damaged) read past = read
reads-on left left_now settings (Err fault.Disk) read past = read
reads-on left left_now settings (Err fault.Network) read past = read
reads-on left left_now settings (Err fault.NoThread) read past = read
reads-on left left_now settings (Err fault.Limit) read past = read

-- the source failed no more then
pub counts-on : {T : Type 0} (faults faults_now : ℕ) (result : Result T MountFault) → faults_now ≡ faults → IsPastReading result → CountsSource faults faults_now result
counts-on faults faults_now (Ok done) same past = same
counts-on faults faults_now (Err fault.Read) same past = absurd past
counts-on faults faults_now (Err fault.Config) same past = absurd past
counts-on faults faults_now (Err fault.NoMemory) same past = same
counts-on faults faults_now (Err fault.Damaged) same past = same
counts-on faults faults_now (Err fault.Disk) same past = same
counts-on faults faults_now (Err fault.Network) same past = same
counts-on faults faults_now (Err fault.NoThread) same past = same
counts-on faults faults_now (Err fault.Limit) same past = same

-- a maker that was not asked has counted nothing
pub raises-none : (S T : Type 0) (counts : Counts) (why : MountFault) → IsOfReading {T = S} (Err why) → RaisesFor {T = T} counts counts (Err why)
raises-none S T counts fault.Read of = refl
raises-none S T counts fault.Config of = refl
raises-none S T counts fault.NoMemory of = refl
raises-none S T counts fault.Damaged of = absurd of
raises-none S T counts fault.Disk of = absurd of
raises-none S T counts fault.Network of = absurd of
raises-none S T counts fault.NoThread of = absurd of
raises-none S T counts fault.Limit of = absurd of

-- why reading failed, whatever it was to give
pub counts-why : (S T : Type 0) (faults faults_now : ℕ) (why : MountFault) → CountsSource {T = S} faults faults_now (Err why) → CountsSource {T = T} faults faults_now (Err why)
counts-why S T faults faults_now fault.Read is = is
counts-why S T faults faults_now fault.Config is = is
counts-why S T faults faults_now fault.NoMemory is = is
counts-why S T faults faults_now fault.Damaged is = is
counts-why S T faults faults_now fault.Disk is = is
counts-why S T faults faults_now fault.Network is = is
counts-why S T faults faults_now fault.NoThread is = is
counts-why S T faults faults_now fault.Limit is = is
