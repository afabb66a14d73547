-- What a record of calls shows is what a crash may leave.
use Rattle.std.specs.Prelude.{ℕ, Bool, true, false, List, [], ◌∷◌, length, take, Option, None, Some, refl}
use Rattle.std.proofs.Common.{inl, cond, sym, ◌∙◌, ap, subst, arith}
use Rattle.lf_disk.specs.declared.name.FileName.{FileName}
use Rattle.lf_disk.specs.declared.record.Call.{Call}
use Rattle.lf_disk.specs.declared.record.Change.{Change}
use Rattle.lf_disk.specs.declared.record.Change.TheVariants.{Write, Cut, Sync, Rename, Remove}
use Rattle.lf_base.specs.FileBytes.{resized, overwritten}
use Rattle.lf_disk.specs.Folder.{Folder, Same, bytes_of, with_file}
use Rattle.lf_disk.specs.Names.{same_name-refl}
use Rattle.lf_disk.specs.Change.{Edit, OnFile, Becomes, Torn, Cropped, Stands}
use Rattle.lf_disk.specs.Replay.{State, after, replay, at_rest, changed, CrashStep}
use Rattle.lf_disk.specs.MemDisk.{Recording, state_at}
use Rattle.lf_disk.specs.Slots.{folder_of}
use Rattle.lf_disk.specs.Tears.{Torn-refl, Torn-overwritten, Cropped-refl, Cropped-resized}

-- a folder in which one file was replaced
pub replaced : (name : FileName) (file : Option (List ℕ)) (edit : Edit) (f g : Folder) → Same (with_file name file f) g → edit (f name) file → OnFile name edit f g
replaced name file edit f g same is = record {
  here = subst (λ (x : Option (List ℕ)). edit (f name) x) (sym (same name ∙ ap (λ (b : Bool). cond b file (f name)) (same_name-refl name))) is;
  elsewhere = λ n other. same n ∙ ap (λ (b : Bool). cond b file (f n)) other;
}

-- and one in which none was
pub kept : (name : FileName) (edit : Edit) (f g : Folder) → Same f g → edit (f name) (f name) → OnFile name edit f g
kept name edit f g same is = record {
  here = subst (λ (x : Option (List ℕ)). edit (f name) x) (sym (same name)) is;
  elsewhere = λ n other. same n;
}

pub stands-still : (bytes : List ℕ → List ℕ → Type 0) (file : Option (List ℕ)) → bytes (bytes_of file) (bytes_of file) → Stands bytes file file
stands-still bytes file is = record { stays = λ some. some; bytes = is }

pub stands-made : (bytes : List ℕ → List ℕ → Type 0) (file : Option (List ℕ)) (new : List ℕ) → bytes (bytes_of file) new → Stands bytes file (Some new)
stands-made bytes file new is = record { stays = λ some. refl; bytes = is }

-- what a read shows after a call is what a crash may make of what it showed before
pub shown : (change : Change) (done : Bool) (s : Folder) → CrashStep (record { change = change; done = done }) s s (cond done (changed change s) s)
shown (Write name at piece) true s =
    replaced name (Some (overwritten at piece (bytes_of (s name)))) (Stands (Torn at (length piece))) s _ (λ n. refl)
    (stands-made (Torn at (length piece)) (s name) _ (Torn-overwritten at (length piece) piece (bytes_of (s name)) (omega arith)))
shown (Write name at piece) false s = kept name (Stands (Torn at (length piece))) s s (λ n. refl) (stands-still (Torn at (length piece)) (s name) (Torn-refl at (length piece) (bytes_of (s name))))
shown (Cut name len) true s =
    replaced name (Some (resized len (bytes_of (s name)))) (Stands (Cropped len)) s _ (λ n. refl)
    (stands-made (Cropped len) (s name) _ (Cropped-resized len len (bytes_of (s name)) (omega arith) (omega arith)))
shown (Cut name len) false s = kept name (Stands (Cropped len)) s s (λ n. refl) (stands-still (Cropped len) (s name) (Cropped-refl len (bytes_of (s name))))
shown (Sync name) true s = kept name (Becomes (s name)) s s (λ n. refl) refl
shown (Sync name) false s = inl (λ n. refl)
shown (Rename from to) true s = λ n. refl
shown (Rename from to) false s = inl (λ n. refl)
shown (Remove name) true s = replaced name None (Becomes None) s _ (λ n. refl) refl
shown (Remove name) false s = inl (λ n. refl)

replays : (s : State) (calls : List Call) → s.leaves s.seen → (replay s calls).leaves (replay s calls).seen
replays s [] may = may
replays s (call ∷ calls) may = replays (after s call) calls (s.seen, may, shown call.change call.done s.seen)

pub as_it_read : (r : Recording) (t : ℕ) → (state_at r t).leaves (state_at r t).seen
as_it_read r t = replays (at_rest (folder_of r.first)) (take t r.calls) (λ n. refl)
