-- What a command comes to where it doesn't come to write, or doesn't write all.
use Rattle.std.proofs.Common.{◌≡◌, ℕ, List, [], Option, Result, Ok, Err, ◌⊎◌, inl, inr, refl}
use Rattle.std.specs.Result.{IsErrAnd}
use Rattle.std.specs.Io.KnownBytes.{Appends}
use Rattle.std.proofs.KnownBytes.{Appends-nil}
use Rattle.lf_base.specs.declared.status.Status.TheVariants as status
use Rattle.lf_sqlite_pages.specs.Image.{DatabaseImage, image_bytes}
use Rattle.litefs_tool.specs.Command.{WritesFor, RefusesBy}
use Rattle.ltx_codec.specs.Format.{IsFile, file_encoding, no_meaning}
use Rattle.ltx_codec.specs.declared.file.Ltx.{Ltx}
use Rattle.litefs_tool.specs.Compaction.{MayRefuse, Become}
use Rattle.litefs_tool.specs.Files.{MakesOf}
use Rattle.litefs_tool.specs.Output.{AppendsPrefix}
use Rattle.litefs_tool.specs.Run.{CommandOutcome}
use Rattle.litefs_tool.specs.Streams.{Stream, Gives, Holds, Fails, input_limit}
use Rattle.litefs_tool.specs.steps.Failure.{status_of_failure, name_of_failure}
use Rattle.litefs_tool.specs.steps.Input.{ReadsWhole, LosesBytes, CountsCause}
use Rattle.litefs_tool.specs.steps.Performing.{Performs}
use Rattle.litefs_tool.specs.declared.command.Command.{Command}
use Rattle.litefs_tool.specs.declared.command.Command.TheVariants.{Apply, Compact}
use Rattle.litefs_tool.specs.declared.compact_refusal.CompactRefusal.{CompactRefusal}
use Rattle.litefs_tool.specs.declared.compact_refusal.CompactRefusal.TheVariants as compaction
use Rattle.litefs_tool.specs.declared.input.InputFault.{InputFault}
use Rattle.litefs_tool.specs.declared.input.InputFault.TheVariants as fault
use Rattle.litefs_tool.specs.declared.refusal.Refusal.{Refusal}
use Rattle.litefs_tool.specs.declared.refusal.Refusal.TheVariants as refusal
use Rattle.litefs_tool.specs.declared.failure.Failure.{Failure}
use Rattle.litefs_tool.specs.declared.failure.Failure.TheVariants as failure

-- a stream that nothing moved
abbrev pub unmoved : Option (List ℕ) → ℕ → Stream
unmoved known count = record { bytes = known; bytes_after = known; faults = count; faults_after = count }

-- a command that ends with this failure
passed-on : (command : Command) (input output : Stream) (why : Failure) (result : Result (Unit {0}) Failure) →
    IsErrAnd result (λ f. f ≡ why) → Performs (CommandOutcome command) input output (Err why) → Performs (CommandOutcome command) input output result
passed-on command input output why (Ok done) is known = absurd is
passed-on command input output why (Err f) is known = rw is known

-- memory ran out
pub Performs-unable : (command : Command) (input : Stream) (taken : Option (List ℕ)) (count : ℕ) (bytes : List ℕ)
    (result : Result (Unit {0}) Failure) → Gives input bytes → Holds input →
    IsErrAnd result (λ f. f ≡ failure.NoMemory) → Performs (CommandOutcome command) input (unmoved taken count) result
Performs-unable command input taken count bytes result gives holds is =
    passed-on command input (unmoved taken count) failure.NoMemory result is
    (bytes, [], record { reads = gives; writes = Appends-nil taken; read_to_end = tt; cause = (holds, refl) }, refl)

-- the input was not read whole
fails_to_read : (command : Command) (input : Stream) (taken : Option (List ℕ)) (count : ℕ) (why : InputFault) →
    LosesBytes input_limit input.bytes input.bytes_after why → CountsCause input.faults input.faults_after why →
    Performs (CommandOutcome command) input (unmoved taken count) (Err (failure.Input why))
fails_to_read command input taken count fault.Failed lost counts =
    (lost.bytes, [], record { reads = lost.read; writes = Appends-nil taken; read_to_end = tt; cause = (counts, refl) }, refl)
fails_to_read command input taken count fault.TooLong lost counts =
    (lost.bytes, [], record { reads = lost.read; writes = Appends-nil taken; read_to_end = tt; cause = (counts, refl) }, (lost.past refl, refl))
fails_to_read command input taken count fault.NoMemory lost counts =
    (lost.bytes, [], record { reads = lost.read; writes = Appends-nil taken; read_to_end = tt; cause = (counts, refl) }, refl)

pub Performs-unread : (command : Command) (input : Stream) (taken : Option (List ℕ)) (count : ℕ) (why : InputFault) (result : Result (Unit {0}) Failure) →
    LosesBytes input_limit input.bytes input.bytes_after why → CountsCause input.faults input.faults_after why →
    IsErrAnd result (λ f. f ≡ failure.Input why) → Performs (CommandOutcome command) input (unmoved taken count) result
Performs-unread command input taken count why result lost counts is =
    passed-on command input (unmoved taken count) (failure.Input why) result is (fails_to_read command input taken count why lost counts)

-- why a command ends before it writes: memory ran out, or it refuses the input by the name of this failure
abbrev pub Stops : Command → List ℕ → Failure → Type 0
Stops command bytes why =
    (status_of_failure why ≡ status.NoMemory)
    ⊎ (status_of_failure why ≡ status.InputRefused) × RefusesBy command bytes (name_of_failure why)

pub Stops-apply : (bytes : List ℕ) (why : Refusal) → MakesOf bytes (Err why) → Stops Apply bytes (failure.Files why)
Stops-apply bytes refusal.NoMemory makes = inl refl
Stops-apply bytes why makes = elim makes [ inl memory ↦ cc | inr applies ↦ inr (refl, (why, applies, refl)) ]

pub Stops-compact : (bytes : List ℕ) (why : CompactRefusal) → MayRefuse bytes why → Stops Compact bytes (failure.Compaction why)
Stops-compact bytes compaction.NoMemory may = inl refl
Stops-compact bytes why may = elim may [ inl memory ↦ cc | inr refuses ↦ inr (refl, (why, refuses, refl)) ]

-- an image that was made is written
pub WritesFor-apply : (bytes : List ℕ) (image : DatabaseImage) → MakesOf bytes (Ok image) → WritesFor Apply bytes (image_bytes image)
WritesFor-apply bytes image makes = elim makes [ inl memory ↦ absurd (cc) | inr applies ↦ (image, applies, refl) ]

-- the one file is written by its encoding
pub WritesFor-compact : (bytes : List ℕ) (file : Ltx) → Become bytes file → IsFile file → WritesFor Compact bytes (file_encoding file no_meaning)
WritesFor-compact bytes file become valid = record {
  file = file;
  become = become;
  encoding = refl;
  is_file = record { valid = valid; reserved = no_meaning; room = refl; encoding = refl };
}

-- the input was read whole, and the command ends before it writes
pub Performs-stopped : (command : Command) (input : Stream) (taken : Option (List ℕ)) (count : ℕ) (bytes : List ℕ) (why : Failure)
    (result : Result (Unit {0}) Failure) → ReadsWhole input_limit input.bytes input.bytes_after bytes → Holds input → Stops command bytes why →
    IsErrAnd result (λ f. f ≡ why) → Performs (CommandOutcome command) input (unmoved taken count) result
Performs-stopped command input taken count bytes why result whole holds stops is =
    passed-on command input (unmoved taken count) why result is (elim stops [
      | inl memory ↦ (
        bytes,
        [],
        rw memory (record { reads = whole.read; writes = Appends-nil taken; read_to_end = tt; cause = (holds, refl) }),
        rw memory refl,
      )
      | inr refused ↦ (
        bytes,
        [],
        rw refused.0 (record { reads = whole.read; writes = Appends-nil taken; read_to_end = whole.to_the_end; cause = (holds, refl) }),
        rw refused.0 (whole.within, refused.1, refl),
      )
    ])

-- what the command writes was not written whole
pub Performs-unwritten : (command : Command) (input output : Stream) (bytes written : List ℕ) (result : Result (Unit {0}) Failure) →
    ReadsWhole input_limit input.bytes input.bytes_after bytes → Holds input → WritesFor command bytes written →
    AppendsPrefix output.bytes output.bytes_after written → Fails output → IsErrAnd result (λ f. f ≡ failure.Output) →
    Performs (CommandOutcome command) input output result
Performs-unwritten command input output bytes written result whole holds writes prefix fails is =
    passed-on command input output failure.Output result is (
      bytes,
      prefix.0,
      record { reads = whole.read; writes = prefix.2; read_to_end = whole.to_the_end; cause = (holds, fails) },
      (written, whole.within, writes, prefix.1),
    )

-- it was
pub Performs-written : (command : Command) (input output : Stream) (bytes written : List ℕ) →
    ReadsWhole input_limit input.bytes input.bytes_after bytes → Holds input → WritesFor command bytes written →
    Appends output.bytes output.bytes_after written → Holds output → Performs (CommandOutcome command) input output (Ok tt)
Performs-written command input output bytes written whole holds writes appends kept = (
  bytes,
  written,
  record { reads = whole.read; writes = appends; read_to_end = whole.to_the_end; cause = (holds, kept) },
  (whole.within, writes),
)
