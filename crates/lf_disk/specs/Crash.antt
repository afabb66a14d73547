-- What a crash leaves of the calls that were pending, by a number that chooses.
use Rattle.std.specs.Prelude.{ℕ, ◌+◌, ◌-◌, ◌*◌, ◌/◌, ◌%◌, ◌^◌, ◌==◌, min, max, Bool, true, List, [], ◌∷◌, length, take, None, if◌then◌else◌}
use Rattle.lf_disk.specs.declared.name.FileName.{FileName}
use Rattle.lf_disk.specs.declared.record.Call.{Call}
use Rattle.lf_disk.specs.declared.record.Change.{Change}
use Rattle.lf_disk.specs.declared.record.Change.TheVariants.{Write, Cut, Sync, Rename, Remove}
use Rattle.lf_disk.specs.declared.choice.Choice.{Choice}
use Rattle.lf_disk.specs.declared.choice.Choice.TheVariants.{Lost, Torn, Whole}
use Rattle.lf_disk.specs.Folder.{Folder, bytes_of, with_file, with_write, with_length, renamed}
use Rattle.lf_disk.specs.Replay.{shown_after}

-- what the last two bits of a number choose: 0 nothing, 1 a part, 2 and 3 all
abbrev pub choice_of : ℕ → Choice
choice_of number = if number % 4 == 0 then Lost else if number % 4 == 1 then Torn else Whole

-- the number for the next call: two bits further, round a u64
abbrev pub turned : ℕ → ℕ
turned number = number / 4 + number % 4 * 2 ^ 62

-- the length half way between two
abbrev pub half_way : ℕ → ℕ → ℕ
half_way from to = min from to + (max from to - min from to) / 2

-- of a write: nothing, its first half, or all
abbrev pub left_of_write : Choice → FileName → ℕ → List ℕ → Folder → Folder
left_of_write Lost name at piece f = f
left_of_write Torn name at piece f = with_write name at (take (length piece / 2) piece) f
left_of_write Whole name at piece f = with_write name at piece f

-- of a cut: nothing, half the way, or all
abbrev pub left_of_cut : Choice → FileName → ℕ → Folder → Folder
left_of_cut Lost name len f = f
left_of_cut Torn name len f = with_length name (half_way (length (bytes_of (f name))) len) f
left_of_cut Whole name len f = with_length name len f

-- whether a call that is whole or not at all is taken: where it was done, and where all is chosen
abbrev pub is_taken : Choice → Bool → Bool
is_taken Whole done = true
is_taken _ done = done

-- of a change, where the files read so
abbrev pub left_of : Choice → Bool → Change → Folder → Folder → Folder
left_of choice done (Write name at piece) seen f = left_of_write choice name at piece f
left_of choice done (Cut name len) seen f = left_of_cut choice name len f
left_of choice done (Sync name) seen f = if is_taken choice done then with_file name (seen name) f else f
left_of choice done (Rename from to) seen f = if is_taken choice done then renamed from to f else f
left_of choice done (Remove name) seen f = if is_taken choice done then with_file name None f else f

-- of all calls, the oldest first
abbrev pub left_as : List Call → ℕ → Folder → Folder → Folder
left_as [] number seen f = f
left_as (call ∷ calls) number seen f = left_as calls (turned number) (shown_after call seen) (left_of (choice_of number) call.done call.change seen f)
