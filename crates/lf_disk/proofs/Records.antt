-- A record with one call more.
use Rattle.std.proofs.Common.{◌≡◌, true, false, List, [], ◌∷◌, ◌++◌, length, take, cond, Some, None, refl, sym, ◌∙◌}
use Rattle.std.proofs.Math.Seq.{take-length}
use Rattle.lf_disk.specs.declared.record.Call.{Call}
use Rattle.lf_disk.specs.declared.record.Change.{Change}
use Rattle.lf_disk.specs.declared.record.Change.TheVariants.{Write, Cut, Sync, Rename, Remove}
use Rattle.lf_disk.specs.declared.slots.Slot.{Slot}
use Rattle.lf_base.specs.FileBytes.{resized, overwritten}
use Rattle.lf_disk.specs.Folder.{Folder, Same, bytes_of, same_name}
use Rattle.lf_disk.specs.Slots.{folder_of, IsOrderly}
use Rattle.lf_disk.specs.Replay.{State, after, replay, at_rest, changed}
use Rattle.lf_disk.specs.MemDisk.{IsCurrent}

pub replay-push : (s : State) (calls : List Call) (call : Call) → replay s (calls ++ call ∷ []) ≡ after (replay s calls) call
replay-push s [] call = refl
replay-push s (c ∷ calls) call = replay-push (after s c) calls call

-- a change makes the same of folders that are the same
pub changed-same : (change : Change) (f g : Folder) → Same f g → Same (changed change f) (changed change g)
changed-same (Write name at piece) f g same n = λ i. cond (same_name n name) (Some (overwritten at piece (bytes_of (same name i)))) (same n i)
changed-same (Cut name len) f g same n = λ i. cond (same_name n name) (Some (resized len (bytes_of (same name i)))) (same n i)
changed-same (Sync name) f g same n = same n
changed-same (Rename from to) f g same n = λ i. cond (same_name n to) (same from i) (cond (same_name n from) None (same n i))
changed-same (Remove name) f g same n = λ i. cond (same_name n name) None (same n i)

-- the files in memory stay those of the record
pub current-done : (first : List Slot) (calls : List Call) (now new : List Slot) (change : Change) → IsCurrent first calls now → Same (changed change (folder_of now)) (folder_of new) → IsOrderly new
    → IsCurrent first (calls ++ record { change = change; done = true } ∷ []) new
current-done first calls now new change current same orderly =
    let s = replay (at_rest (folder_of first)) calls in
    record {
      shows = λ n. same n ∙ changed-same change s.seen (folder_of now) current.shows n ∙ sym (λ i. (replay-push (at_rest (folder_of first)) calls (record { change = change; done = true }) i).seen n);
      orderly = orderly;
      began = current.began;
    }

pub current-failed : (first : List Slot) (calls : List Call) (now : List Slot) (change : Change) → IsCurrent first calls now → IsCurrent first (calls ++ record { change = change; done = false } ∷ []) now
current-failed first calls now change current = record {
  shows = λ n. current.shows n ∙ sym (λ i. (replay-push (at_rest (folder_of first)) calls (record { change = change; done = false }) i).seen n);
  orderly = current.orderly;
  began = current.began;
}

-- as its history tells
pub current-told : (first : List Slot) (calls : List Call) (now : List Slot) → IsCurrent first calls now → Same (replay (at_rest (folder_of first)) (take (length calls) calls)).seen (folder_of now)
current-told first calls now current n = current.shows n ∙ sym (λ i. (replay (at_rest (folder_of first)) (take-length calls i)).seen n)
