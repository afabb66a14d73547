-- A refusal, and what it says of a file.
use Rattle.std.proofs.Common.{◌≡◌, ◌∙◌, ◌⊎◌, inl, inr, ℕ, ◌≤◌, List, [], ◌∷◌, ◌++◌, length, Result, Ok, Err, IfErr, refl, sym, ap, subst, arith}
use Rattle.lf_disk.specs.declared.name.FileName.TheVariants.{Ltx as LtxName}
use Rattle.lf_disk.specs.Folder.{Folder, bytes_of}
use Rattle.ltx_codec.specs.Fields.{AreBytes}
use Rattle.ltx_codec.specs.Format.{IsLtx}
use Rattle.ltx_codec.specs.Places.{IsBroken, IsEarliest, last_place}
use Rattle.ltx_codec.specs.declared.file.Ltx.{Ltx}
use Rattle.ltx_codec.specs.declared.fault.LtxFault.{LtxFault}
use Rattle.ltx_codec.specs.declared.fault.LtxFault.TheVariants as ltx_fault
use Rattle.ltx_codec.proofs.SoundLemmas.{encoding_sound}
use Rattle.ltx_backup.specs.Causes.{HasCause}
use Rattle.ltx_backup.specs.Judging.{Accuses, Blames, HasNumbers}
use Rattle.ltx_backup.specs.Levels.{Stands}
use Rattle.ltx_backup.specs.declared.entry.Entry.{Entry}
use Rattle.ltx_backup.specs.declared.fault.BackupFault.{BackupFault}
use Rattle.ltx_backup.specs.declared.fault.BackupFault.TheVariants as fault

append_nothing : (xs : List ℕ) → xs ++ [] ≡ xs
append_nothing [] = refl
append_nothing (x ∷ xs) = ap (λ (l : List ℕ). x ∷ l) (append_nothing xs)

-- bytes with a fault are no file
pub not_a_file : (bytes : List ℕ) (why : LtxFault) → AreBytes bytes → IsEarliest bytes why → (file : Ltx) → IsLtx bytes file → ⊥
not_a_file bytes why octets earliest file is =
    let whole : bytes ++ [] ≡ bytes = append_nothing bytes in
    let broken = subst (λ (l : List ℕ). IsBroken l why earliest.place) (sym whole) earliest.broken in
    let at = encoding_sound bytes [] file why earliest.place (subst (λ (l : List ℕ). AreBytes l) (sym whole) octets) is broken in
    let there : earliest.place ≤ length bytes = subst (λ (f : LtxFault). earliest.place ≤ last_place bytes f) at.0 earliest.broken.there in
    absurd (omega (arith, at.1, there))

-- memory didn't run out
pub is_earliest : (bytes : List ℕ) (why : LtxFault) → (why ≡ ltx_fault.NoMemory → ⊥) → (why ≡ ltx_fault.NoMemory) ⊎ IsEarliest bytes why → IsEarliest bytes why
is_earliest bytes why not (inl full) = absurd (not full)
is_earliest bytes why not (inr earliest) = earliest

-- only a disk that failed raises its count, and these refusals are none of a disk
pub accused_cause : (T : Type 0) (before now level min max : ℕ) (reason : Type 0) (why : BackupFault) → now ≡ before → Accuses level min max reason why → HasCause {T = T} before now (Err why)
accused_cause T before now level min max reason fault.Disk same accused = absurd accused
accused_cause T before now level min max reason fault.Broken same accused = same
accused_cause T before now level min max reason (fault.NotNext have want) same accused = same
accused_cause T before now level min max reason (fault.NoSuchTxid txid last) same accused = same
accused_cause T before now level min max reason (fault.SumDiffers want got) same accused = same
accused_cause T before now level min max reason (fault.Damaged at a b) same accused = same
accused_cause T before now level min max reason fault.NoMemory same accused = same

pub result_cause : {T : Type 0} (before now level min max : ℕ) (reason : Type 0) (result : Result T BackupFault) → now ≡ before → IfErr result (Accuses level min max reason) → HasCause before now result
result_cause before now level min max reason (Ok value) same accused = same
result_cause {T = T} before now level min max reason (Err why) same accused = accused_cause T before now level min max reason why same accused

-- what is accused is blamed too, for a reason that follows
pub blamed : (level min max : ℕ) (reason other : Type 0) (why : BackupFault) → (reason → other) → Accuses level min max reason why → Blames level min max other why
blamed level min max reason other fault.Disk follows accused = tt
blamed level min max reason other fault.Broken follows accused = absurd accused
blamed level min max reason other (fault.NotNext have want) follows accused = absurd accused
blamed level min max reason other (fault.NoSuchTxid txid last) follows accused = absurd accused
blamed level min max reason other (fault.SumDiffers want got) follows accused = absurd accused
blamed level min max reason other (fault.Damaged at a b) follows accused = (accused.0, accused.1, accused.2, follows accused.3)
blamed level min max reason other fault.NoMemory follows accused = tt

-- and what is blamed, for a reason that follows
pub blamed_too : (level min max : ℕ) (reason other : Type 0) (why : BackupFault) → (reason → other) → Blames level min max reason why → Blames level min max other why
blamed_too level min max reason other fault.Disk follows accused = tt
blamed_too level min max reason other fault.Broken follows accused = absurd accused
blamed_too level min max reason other (fault.NotNext have want) follows accused = absurd accused
blamed_too level min max reason other (fault.NoSuchTxid txid last) follows accused = absurd accused
blamed_too level min max reason other (fault.SumDiffers want got) follows accused = absurd accused
blamed_too level min max reason other (fault.Damaged at a b) follows accused = (accused.0, accused.1, accused.2, follows accused.3)
blamed_too level min max reason other fault.NoMemory follows accused = tt

-- bytes of a file that are no file
pub unread : (f : Folder) (bytes : List ℕ) (level : ℕ) (entry : Entry) → bytes ≡ bytes_of (f (LtxName entry.min entry.max)) → ((file : Ltx) → IsLtx bytes file → ⊥)
    → (file : Ltx) → HasNumbers file entry → Stands f file → ⊥
unread f bytes level entry are none file numbers stands =
    let name : LtxName file.header.min file.header.max ≡ LtxName entry.min entry.max = λ i. LtxName (numbers.0 i) (numbers.1 i) in
    none file (subst (λ (l : List ℕ). IsLtx l file) ((λ i. bytes_of (f (name i))) ∙ sym are) stands)
