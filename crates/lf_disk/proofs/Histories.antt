-- The history of a record with one call more.
use Rattle.std.proofs.Common.{◌≡◌, ◌⊎◌, inl, inr, ℕ, ◌+◌, ◌^◌, ◌≤◌, Bool, true, false, List, [], ◌∷◌, ◌++◌, length, take, cond, Some, None, Result, Ok, Err, IsErr, OnOk, OnErr, refl, sym, ◌∙◌, ap, subst, arith, length-append}
use Rattle.std.proofs.lemmas.List.{take-append-le}
use Rattle.std.proofs.Math.Seq.{take-length}
use Rattle.lf_disk.specs.declared.record.Call.{Call}
use Rattle.lf_disk.specs.declared.record.Change.{Change}
use Rattle.lf_disk.specs.declared.record.Change.TheVariants.{Write, Cut, Sync, Rename, Remove}
use Rattle.lf_disk.specs.declared.slots.Slot.{Slot}
use Rattle.lf_base.specs.FileBytes.{resized, overwritten}
use Rattle.lf_disk.specs.Folder.{Folder, Same, bytes_of}
use Rattle.lf_disk.specs.Change.{Step, OnFile, Perhaps, Becomes, Writes, Cuts, Renames, Torn, Cropped, Stands}
use Rattle.lf_disk.specs.Slots.{folder_of}
use Rattle.lf_disk.specs.Replay.{State, after, replay, at_rest, changed, CrashStep}
use Rattle.lf_disk.specs.History.{History, now, KeepsPast, Rests, Ticks, Moves}
use Rattle.lf_disk.specs.Tears.{Torn-refl, Cropped-refl}
use Rattle.lf_disk.specs.Laws.{replaced, kept, stands-still}
use Rattle.lf_disk.proofs.Records.{replay-push}
use Rattle.lf_disk.proofs.Moments.{past_stays}

-- the history of a record
abbrev pub told : List Slot → List Call → History
told first calls = record {
  moment = length calls;
  seen = λ t. (replay (at_rest (folder_of first)) (take t calls)).seen;
  leaves = λ t. (replay (at_rest (folder_of first)) (take t calls)).leaves;
}

-- the same record tells the same
pub told-same : (first first' : List Slot) (calls calls' : List Call) → first' ≡ first → calls' ≡ calls → Rests (told first calls) (told first' calls')
told-same first first' calls calls' one two =
    subst (λ (f : List Slot). Rests (told first calls) (told f calls')) (sym one)
    (subst (λ (l : List Call). Rests (told first calls) (told first l)) (sym two) (record { moment = refl; past = past_stays (told first calls) }))

module _ (first : List Slot) (calls : List Call) (call : Call) where
  then : List Call
  then = calls ++ call ∷ []

  state : State
  state = replay (at_rest (folder_of first)) (take (length calls) calls)

  early : (t : ℕ) → t ≤ length calls → replay (at_rest (folder_of first)) (take t (calls ++ call ∷ [])) ≡ replay (at_rest (folder_of first)) (take t calls)
  early t before = ap (λ (l : List Call). replay (at_rest (folder_of first)) l) (take-append-le t calls (call ∷ []) before)

  past : KeepsPast (told first calls) (told first (calls ++ call ∷ []))
  past = record {
    seen = λ t n before. λ i. (early t before i).seen n;
    no_more = λ t c before left. subst (λ (s : State). s.leaves c) (early t before) left;
    no_fewer = λ t c before left. subst (λ (s : State). s.leaves c) (sym (early t before)) left;
  }

  latest : replay (at_rest (folder_of first)) (take (length (calls ++ call ∷ [])) (calls ++ call ∷ [])) ≡ after (replay (at_rest (folder_of first)) (take (length calls) calls)) call
  latest =
      ap (λ (l : List Call). replay (at_rest (folder_of first)) l) (take-length (calls ++ call ∷ []))
      ∙ replay-push (at_rest (folder_of first)) calls call
      ∙ ap (λ (l : List Call). after (replay (at_rest (folder_of first)) l) call) (sym (take-length calls))

  moves : (sees : Step) → sees (now (told first calls)) (cond call.done (changed call.change (now (told first calls))) (now (told first calls)))
      → Moves sees (CrashStep call (now (told first calls))) (told first calls) (told first (calls ++ call ∷ []))
  moves sees is =
      let s = replay (at_rest (folder_of first)) (take (length calls) calls) in
      let new = replay (at_rest (folder_of first)) (take (length (calls ++ call ∷ [])) (calls ++ call ∷ [])) in
      record {
        seen = subst (λ (st : State). sees s.seen st.seen) (sym latest) is;
        left = λ c may. subst (λ (st : State). st.leaves c) latest may;
      }

-- what a read shows of a change that was done, and of one that failed
abbrev pub ShowsDone : Change → Step
ShowsDone (Write name at piece) = OnFile name (Writes at piece)
ShowsDone (Cut name len) = OnFile name (Cuts len)
ShowsDone (Sync name) = Same
ShowsDone (Rename from to) = Renames from to
ShowsDone (Remove name) = OnFile name (Becomes None)

abbrev pub ShowsFailed : Change → Step
ShowsFailed (Write name at piece) = OnFile name (Stands (Torn at (length piece)))
ShowsFailed (Cut name len) = OnFile name (Stands (Cropped len))
ShowsFailed (Sync name) = Same
ShowsFailed (Rename from to) = Perhaps (Renames from to)
ShowsFailed (Remove name) = Perhaps (OnFile name (Becomes None))

shows-done : (change : Change) (f : Folder) → ShowsDone change f (changed change f)
shows-done (Write name at piece) f = replaced name (Some (overwritten at piece (bytes_of (f name)))) (Writes at piece) f _ (λ n. refl) refl
shows-done (Cut name len) f = replaced name (Some (resized len (bytes_of (f name)))) (Cuts len) f _ (λ n. refl) refl
shows-done (Sync name) f = λ n. refl
shows-done (Rename from to) f = λ n. refl
shows-done (Remove name) f = replaced name None (Becomes None) f _ (λ n. refl) refl

shows-failed : (change : Change) (f : Folder) → ShowsFailed change f f
shows-failed (Write name at piece) f = kept name (Stands (Torn at (length piece))) f f (λ n. refl) (stands-still (Torn at (length piece)) (f name) (Torn-refl at (length piece) (bytes_of (f name))))
shows-failed (Cut name len) f = kept name (Stands (Cropped len)) f f (λ n. refl) (stands-still (Cropped len) (f name) (Cropped-refl len (bytes_of (f name))))
shows-failed (Sync name) f = λ n. refl
shows-failed (Rename from to) f = inl (λ n. refl)
shows-failed (Remove name) f = inl (λ n. refl)

-- where a call that failed is not in the record, nothing happened
nothing : (change : Change) (seen d : Folder) → CrashStep (record { change = change; done = false }) seen d d
nothing (Write name at piece) seen d = kept name (Stands (Torn at (length piece))) d d (λ n. refl) (stands-still (Torn at (length piece)) (d name) (Torn-refl at (length piece) (bytes_of (d name))))
nothing (Cut name len) seen d = kept name (Stands (Cropped len)) d d (λ n. refl) (stands-still (Cropped len) (d name) (Cropped-refl len (bytes_of (d name))))
nothing (Sync name) seen d = inl (λ n. refl)
nothing (Rename from to) seen d = inl (λ n. refl)
nothing (Remove name) seen d = inl (λ n. refl)

-- a changing call as its clauses tell it
module _ (first first' : List Slot) (calls calls' : List Call) (change : Change) (same : first' ≡ first) where
  abbrev Noted : Bool → Type 0
  Noted done = calls' ≡ calls ++ record { change = change; done = done } ∷ []

  -- a fact of the history with the call, told of the new record
  told-as : (P : History → Type 0) (done : Bool) → Noted done → P (told first (calls ++ record { change = change; done = done } ∷ [])) → P (told first' calls')
  told-as P done noted fact = subst (λ (f : List Slot). P (told f calls')) (sym same) (subst (λ (l : List Call). P (told first l)) (sym noted) fact)

  one_more : (done : Bool) → Noted done → length calls' ≡ length calls + 1
  one_more done noted = ap length noted ∙ length-append calls (record { change = change; done = done } ∷ [])

  pub done : {E : Type 0} (result : Result (Unit {0}) E) → OnOk result (Noted true)
      → OnOk result (Moves (ShowsDone change) (CrashStep (record { change = change; done = true }) (now (told first calls))) (told first calls) (told first' calls'))
  done (Ok _) noted =
      told-as (λ h. Moves (ShowsDone change) (CrashStep (record { change = change; done = true }) (now (told first calls))) (told first calls) h) true noted
      (moves first calls (record { change = change; done = true }) (ShowsDone change) (shows-done change (now (told first calls))))
  done (Err e) noted = tt

  pub failed : {E : Type 0} (result : Result (Unit {0}) E) → OnErr result ((calls' ≡ calls) ⊎ Noted false)
      → OnErr result (Moves (ShowsFailed change) (CrashStep (record { change = change; done = false }) (now (told first calls))) (told first calls) (told first' calls'))
  failed (Ok _) noted = tt
  failed (Err e) (inl none) =
      subst (λ (f : List Slot). Moves (ShowsFailed change) (CrashStep (record { change = change; done = false }) (now (told first calls))) (told first calls) (told f calls')) (sym same)
      (subst (λ (l : List Call). Moves (ShowsFailed change) (CrashStep (record { change = change; done = false }) (now (told first calls))) (told first calls) (told first l)) (sym none)
      (record { seen = shows-failed change (now (told first calls)); left = λ c may. (c, may, nothing change (now (told first calls)) c) }))
  failed (Err e) (inr noted) =
      told-as (λ h. Moves (ShowsFailed change) (CrashStep (record { change = change; done = false }) (now (told first calls))) (told first calls) h) false noted
      (moves first calls (record { change = change; done = false }) (ShowsFailed change) (shows-failed change (now (told first calls))))

  pub ticks : {E : Type 0} (result : Result (Unit {0}) E) → OnOk result (Noted true) → OnErr result ((calls' ≡ calls) ⊎ Noted false)
      → (2 ^ 62 ≤ length calls → IsErr result × (calls' ≡ calls)) → Ticks result (told first calls) (told first' calls')
  ticks (Ok u) noted none last = record {
    ok = one_more true noted;
    later = omega (arith, one_more true noted);
    by_one = omega (arith, one_more true noted);
    last = λ top. let at_end = last top in (at_end.0, ap length at_end.1);
    past = told-as (λ h. KeepsPast (told first calls) h) true noted (past first calls (record { change = change; done = true }));
  }
  ticks (Err e) noted (inl none) last = record {
    ok = tt;
    later = omega (arith, ap length none);
    by_one = omega (arith, ap length none);
    last = λ top. let at_end = last top in (at_end.0, ap length at_end.1);
    past = (told-same first first' calls calls' same none).past;
  }
  ticks (Err e) noted (inr more) last = record {
    ok = tt;
    later = omega (arith, one_more false more);
    by_one = omega (arith, one_more false more);
    last = λ top. let at_end = last top in (at_end.0, ap length at_end.1);
    past = told-as (λ h. KeepsPast (told first calls) h) false more (past first calls (record { change = change; done = false }));
  }

pub on_err : {T E : Type 0} {P : Type 0} (result : Result T E) → P → OnErr result P
on_err (Ok _) fact = tt
on_err (Err e) fact = fact
