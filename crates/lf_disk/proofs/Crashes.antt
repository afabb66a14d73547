-- What a crash leaves by a number tells of the files alone, and not of how they are kept.
use Rattle.std.proofs.Common.{ℕ, ◌/◌, Bool, List, [], ◌∷◌, length, take, cond, Some, None}
use Rattle.lf_base.specs.FileBytes.{resized}
use Rattle.lf_disk.specs.declared.record.Call.{Call}
use Rattle.lf_disk.specs.declared.record.Change.{Change}
use Rattle.lf_disk.specs.declared.record.Change.TheVariants.{Write, Cut, Sync, Rename, Remove}
use Rattle.lf_disk.specs.declared.choice.Choice.{Choice}
use Rattle.lf_disk.specs.declared.choice.Choice.TheVariants.{Lost, Torn, Whole}
use Rattle.lf_disk.specs.Folder.{Folder, Same, bytes_of, same_name, with_file, renamed}
use Rattle.lf_disk.specs.Replay.{shown_after}
use Rattle.lf_disk.specs.Crash.{choice_of, turned, half_way, is_taken, left_of, left_as}
use Rattle.lf_disk.proofs.Records.{changed-same}
use Rattle.lf_disk.proofs.Choices.{shown-same}

pub left-same : (choice : Choice) (done : Bool) (change : Change) (s t f g : Folder) → Same s t → Same f g
    → Same (left_of choice done change s f) (left_of choice done change t g)
left-same Lost done (Write name at piece) s t f g seen same n = same n
left-same Torn done (Write name at piece) s t f g seen same n = changed-same (Write name at (take (length piece / 2) piece)) f g same n
left-same Whole done (Write name at piece) s t f g seen same n = changed-same (Write name at piece) f g same n
left-same Lost done (Cut name len) s t f g seen same n = same n
left-same Torn done (Cut name len) s t f g seen same n =
    λ i. cond (same_name n name) (Some (resized (half_way (length (bytes_of (same name i))) len) (bytes_of (same name i)))) (same n i)
left-same Whole done (Cut name len) s t f g seen same n = changed-same (Cut name len) f g same n
left-same choice done (Sync name) s t f g seen same n =
    λ i. cond {A = Folder} (is_taken choice done) (with_file name (seen name i) (λ m. same m i)) (λ m. same m i) n
left-same choice done (Rename from to) s t f g seen same n =
    λ i. cond {A = Folder} (is_taken choice done) (renamed from to (λ m. same m i)) (λ m. same m i) n
left-same choice done (Remove name) s t f g seen same n =
    λ i. cond {A = Folder} (is_taken choice done) (with_file name None (λ m. same m i)) (λ m. same m i) n

pub left_as-same : (calls : List Call) (number : ℕ) (s t f g : Folder) → Same s t → Same f g → Same (left_as calls number s f) (left_as calls number t g)
left_as-same [] number s t f g seen same n = same n
left_as-same (call ∷ calls) number s t f g seen same n =
    left_as-same calls (turned number) (shown_after call s) (shown_after call t)
    (left_of (choice_of number) call.done call.change s f) (left_of (choice_of number) call.done call.change t g)
    (shown-same call s t seen) (left-same (choice_of number) call.done call.change s t f g seen same) n
