-- A file whose bytes come in pieces.
use Rattle.std.proofs.Common.{◌≡◌, ◌∙◌, inl, inr, ℕ, ◌+◌, ◌<◌, ◌≤◌, List, [], ◌++◌, length, length-append, length-drop, append_assoc, take, drop, refl, sym, ap, subst, arith}
use Rattle.std.proofs.lemmas.List.{take_all, take-append-drop}
use Rattle.std.proofs.Math.Seq.{take-add}
use Rattle.ltx_codec.specs.Fields.{AreBytes}
use Rattle.ltx_codec.specs.Format.{IsLtx}
use Rattle.ltx_codec.specs.Places.{IsRefused}
use Rattle.ltx_codec.specs.Reading.{IsRefusedAt}
use Rattle.ltx_codec.specs.declared.file.Ltx.{Ltx}
use Rattle.ltx_codec.specs.declared.fault.LtxFault.{LtxFault}
use Rattle.ltx_codec.specs.declared.fault.LtxFault.TheVariants as fault
use Rattle.ltx_codec.proofs.AgreeLemmas.{fault_stays_lem}
use Rattle.ltx_codec.proofs.NumberLemmas.{found_inside, found_there}
use Rattle.ltx_codec.proofs.SoundLemmas.{behind_file}
use Rattle.ltx_backup.specs.Coming.{StaysRefused, HasCome, HasComeFrom}
use Rattle.ltx_backup.specs.declared.coming.Coming.{Coming}

-- the bytes behind a fault do not matter
pub stays_on : (bytes piece : List ℕ) (f : LtxFault) → StaysRefused bytes f → StaysRefused (bytes ++ piece) f
stays_on bytes piece f stays more octets =
    let same : (bytes ++ piece) ++ more ≡ bytes ++ (piece ++ more) = append_assoc bytes piece more in
    subst (λ (t : List ℕ). IsRefused t f) (sym same) (stays (piece ++ more) (subst (λ (t : List ℕ). AreBytes t) same octets))

-- a fault that is found stays
pub found_stays : (bytes : List ℕ) (f : LtxFault) → IsRefusedAt bytes f → StaysRefused bytes f
found_stays bytes f refused more octets = elim refused [
  | inl full ↦ inl full
  | inr found ↦ inr (fault_stays_lem bytes more f found.1 (found_there f found.0) (found_inside f found.0))
]

-- bytes behind a file are a fault
pub tail_stays : (bytes piece : List ℕ) (file : Ltx) → IsLtx bytes file → 0 < length piece → StaysRefused (bytes ++ piece) fault.Tail
tail_stays bytes piece file is some more octets =
    let same : (bytes ++ piece) ++ more ≡ bytes ++ (piece ++ more) = append_assoc bytes piece more in
    subst (λ (t : List ℕ). IsRefused t fault.Tail) (sym same)
    (inr (behind_file bytes (piece ++ more) file (subst (λ (t : List ℕ). AreBytes t) same octets) is (omega (arith, some, length-append piece more))))

-- the same within a piece
pub cut_stays : (bytes piece : List ℕ) (used : ℕ) (file : Ltx) → used < length piece → IsLtx (bytes ++ take used piece) file → StaysRefused (bytes ++ piece) fault.Tail
cut_stays bytes piece used file less is =
    let whole : (bytes ++ take used piece) ++ drop used piece ≡ bytes ++ piece =
    append_assoc bytes (take used piece) (drop used piece) ∙ ap (λ (l : List ℕ). bytes ++ l) (take-append-drop used piece) in
    subst (λ (l : List ℕ). StaysRefused l fault.Tail) whole
    (tail_stays (bytes ++ take used piece) (drop used piece) file is (omega (arith, less, length-drop used piece)))

-- a piece more of a file came
pub comes_on : (honest : Type 0) (file : List ℕ) (at len : ℕ) (old new : Coming) (piece : List ℕ) → HasComeFrom honest (take at file) old
    → ((bytes : List ℕ) → HasCome old bytes → HasCome new (bytes ++ piece)) → (honest → piece ≡ take len (drop at file)) → HasComeFrom honest (take (at + len) file) new
comes_on honest file at len old new piece so_far goes_on read = record {
  bytes = so_far.bytes ++ piece;
  come = goes_on so_far.bytes so_far.come;
  are = λ is. ap (λ (l : List ℕ). l ++ piece) (so_far.are is) ∙ ap (λ (l : List ℕ). take at file ++ l) (read is) ∙ sym (take-add at len file);
}

-- all of it came
pub all_came : (honest : Type 0) (file : List ℕ) (at : ℕ) (coming : Coming) → HasComeFrom honest (take at file) coming → (honest → length file ≤ at) → HasComeFrom honest file coming
all_came honest file at coming so_far all = record {
  bytes = so_far.bytes;
  come = so_far.come;
  are = λ is. so_far.are is ∙ take_all at file (all is);
}

-- nothing came yet
pub none_came : (honest : Type 0) (file : List ℕ) (coming : Coming) → HasCome coming [] → HasComeFrom honest (take 0 file) coming
none_came honest file coming come = record { bytes = []; come = come; are = λ is. refl }
