-- The streams of a run: what was read and written, and their counts of faults.
use Rattle.std.specs.Prelude.{◌≡◌, ℕ, ◌≤◌, List, length, Option}
use Rattle.std.specs.Io.KnownBytes.{Consumes, Appends}
use Rattle.lf_base.specs.Faults.{Rose}
use Rattle.lf_base.specs.declared.status.Status.{Status}
use Rattle.lf_base.specs.declared.status.Status.TheVariants as status

-- a stream over a run: the bytes left to read, or those taken, where it tells them, and its count of faults
pub record Stream : Type 0 where
  pub bytes : Option (List ℕ)
  pub bytes_after : Option (List ℕ)
  pub faults : ℕ
  pub faults_after : ℕ

-- a source or a sink before a run and after it, by what it tells
abbrev pub stream : {S : Type 0} → (S → Option (List ℕ)) → (S → ℕ) → S → S → Stream
stream bytes faults before after =
    record { bytes = bytes before; bytes_after = bytes after; faults = faults before; faults_after = faults after }

-- the run read these bytes
abbrev pub Gives : Stream → List ℕ → Type 0
Gives stream bytes = Consumes stream.bytes stream.bytes_after bytes

-- the run wrote these bytes
abbrev pub Takes : Stream → List ℕ → Type 0
Takes stream bytes = Appends stream.bytes stream.bytes_after bytes

-- the stream's count of faults rose
abbrev pub Fails : Stream → Type 0
Fails stream = Rose stream.faults stream.faults_after

-- the stream's count of faults stayed
abbrev pub Holds : Stream → Type 0
Holds stream = stream.faults_after ≡ stream.faults

-- the longest input that is read
abbrev pub input_limit : ℕ
input_limit = 2147483648

-- the input is no longer than that
abbrev pub IsWithin : List ℕ → Type 0
IsWithin input = length input ≤ input_limit

-- the stream is as it was
abbrev pub IsStill : Stream → Type 0
IsStill stream = (stream.bytes_after ≡ stream.bytes) × Holds stream

-- the count of the input rose with ReadFault alone, and that of the output with WriteFault alone
abbrev pub HasCause : Stream → Stream → Status → Type 0
HasCause input output status.ReadFault = Fails input × Holds output
HasCause input output status.WriteFault = Holds input × Fails output
HasCause input output other = Holds input × Holds output
