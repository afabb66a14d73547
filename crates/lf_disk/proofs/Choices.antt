-- What a crash leaves by choice is what it may leave.
use Rattle.std.proofs.Common.{◌≡◌, inl, inr, ℕ, ◌≤◌, min, max, Bool, true, false, List, [], ◌∷◌, ◌++◌, length, cond, Some, Result, Ok, Err, OnOk, sym, ◌∙◌, subst}
use Rattle.lf_disk.specs.declared.name.FileName.{FileName}
use Rattle.lf_disk.specs.declared.record.Call.{Call}
use Rattle.lf_disk.specs.declared.record.Change.{Change}
use Rattle.lf_disk.specs.declared.record.Change.TheVariants.{Write, Cut, Sync, Rename, Remove}
use Rattle.lf_base.specs.FileBytes.{resized, overwritten}
use Rattle.lf_disk.specs.Folder.{Folder, Same, bytes_of, with_file}
use Rattle.lf_disk.specs.Change.{Step, OnFile, Torn, Cropped, Stands}
use Rattle.lf_disk.specs.Replay.{State, CrashStep, TakenIf, changed, shown_after, replay}
use Rattle.lf_disk.specs.Tears.{Torn-overwritten, Cropped-resized}
use Rattle.lf_disk.specs.Laws.{replaced, stands-made}
use Rattle.lf_disk.proofs.Records.{replay-push, changed-same}

pub on_ok : {T E : Type 0} {P Q : Type 0} (result : Result T E) → (P → Q) → OnOk result P → OnOk result Q
on_ok (Ok _) follows fact = follows fact
on_ok (Err e) follows fact = tt

pub left-write : (name : FileName) (at n : ℕ) (piece : List ℕ) (f g : Folder) → length piece ≤ n → Same (with_file name (Some (overwritten at piece (bytes_of (f name)))) f) g → OnFile name (Stands (Torn at n)) f g
left-write name at n piece f g fits same =
    replaced name (Some (overwritten at piece (bytes_of (f name)))) (Stands (Torn at n)) f g same (stands-made (Torn at n) (f name) _ (Torn-overwritten at n piece (bytes_of (f name)) fits))

pub left-cut : (name : FileName) (len to : ℕ) (f g : Folder) → min (length (bytes_of (f name))) len ≤ to → to ≤ max (length (bytes_of (f name))) len
    → Same (with_file name (Some (resized to (bytes_of (f name)))) f) g → OnFile name (Stands (Cropped len)) f g
left-cut name len to f g low high same =
    replaced name (Some (resized to (bytes_of (f name)))) (Stands (Cropped len)) f g same (stands-made (Cropped len) (f name) _ (Cropped-resized len to (bytes_of (f name)) low high))

pub taken : (done : Bool) (step : Step) (f g : Folder) → step f g → TakenIf done step f g
taken true step f g is = is
taken false step f g is = inr is

-- a crash step tells of what the files read as alone
pub seen-same : (change : Change) (done : Bool) (f g d c : Folder) → Same f g → CrashStep (record { change = change; done = done }) g d c → CrashStep (record { change = change; done = done }) f d c
seen-same (Write name at piece) done f g d c same step = step
seen-same (Cut name len) done f g d c same step = step
seen-same (Sync name) true f g d c same step = record { here = step.here ∙ same name; elsewhere = step.elsewhere }
seen-same (Sync name) false f g d c same (inl none) = inl none
seen-same (Sync name) false f g d c same (inr step) = inr (record { here = step.here ∙ same name; elsewhere = step.elsewhere })
seen-same (Rename from to) done f g d c same step = step
seen-same (Remove name) done f g d c same step = step

pub shown-same : (call : Call) (f g : Folder) → Same f g → Same (shown_after call f) (shown_after call g)
shown-same call f g same n = go call.done
  where
    go : (done : Bool) → cond done (changed call.change g) g n ≡ cond done (changed call.change f) f n
    go true = changed-same call.change f g same n
    go false = same n

-- one call more of a record that is replayed
module _ (s : State) (so_far : List Call) (call : Call) (seen seen' image image' : Folder) where
  pub goes-on : (replay s so_far).leaves image → Same (replay s so_far).seen seen → CrashStep call seen image image' → Same (shown_after call seen) seen'
      → (replay s (so_far ++ call ∷ [])).leaves image' × Same (replay s (so_far ++ call ∷ [])).seen seen'
  goes-on may same step shows =
      let r = replay s so_far in
      subst (λ (st : State). st.leaves image' × Same st.seen seen') (sym (replay-push s so_far call)) (
        (image, may, seen-same call.change call.done r.seen seen image image' same step),
        λ n. shows n ∙ shown-same call r.seen seen same n,
      )
