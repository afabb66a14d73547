-- The eight oldest files of a level.
use Rattle.std.proofs.Common.{◌≡◌, ◌∙◌, inl, inr, ℕ, zero, suc, ◌-◌, ◌<◌, ◌≤◌, List, [], ◌∷◌, None, Some, Err, length, take, refl, sym, ap, subst, arith}
use Rattle.std.specs.Prelude.{slice_get}
use Rattle.lf_base.specs.declared.pos.Pos.{Pos}
use Rattle.lf_disk.specs.Folder.{Folder}
use Rattle.lf_disk.specs.declared.name.FileName.TheVariants.{Staged}
use Rattle.lf_disk.specs.History.{History, Rests, IsSettledBut}
use Rattle.ltx_codec.specs.Positions.{before, after}
use Rattle.ltx_codec.specs.declared.file.Ltx.{Ltx}
use Rattle.ltx_compact.specs.Joining.{Joins, AllJoin}
use Rattle.ltx_backup.specs.Causes.{IsBlameless, Counts, AllStay, HasCauses}
use Rattle.ltx_backup.specs.Entries.{entry_of, entries_of}
use Rattle.ltx_backup.specs.Levels.{LeadOn, AllStand}
use Rattle.ltx_backup.specs.Merging.{IsUnmerged}
use Rattle.ltx_backup.specs.Moving.{AreAlike, AreDue, MovesUp, IsUnfolded}
use Rattle.ltx_backup.specs.declared.entry.Entry.{Entry}
use Rattle.ltx_backup.specs.declared.fault.BackupFault.{BackupFault}
use Rattle.ltx_backup.specs.declared.fault.BackupFault.TheVariants as fault
use Rattle.ltx_backup.proofs.Stills.{trims_after}
use Rattle.ltx_backup.proofs.Nths.{as_many}

pub entries_take : (n : ℕ) (files : List Ltx) → take n (entries_of files) ≡ entries_of (take n files)
entries_take zero files = refl
entries_take (suc n) [] = refl
entries_take (suc n) (x ∷ xs) = ap (λ (l : List Entry). entry_of x ∷ l) (entries_take n xs)

pub stand_take : (f : Folder) (n : ℕ) (files : List Ltx) → AllStand f files → AllStand f (take n files)
stand_take f zero files stand = tt
stand_take f (suc n) [] stand = tt
stand_take f (suc n) (x ∷ xs) stand = (stand.0, stand_take f n xs stand.1)

lead_take : (n : ℕ) (here : Pos) (files : List Ltx) → LeadOn here files → LeadOn here (take n files)
lead_take zero here files lead = tt
lead_take (suc n) here [] lead = tt
lead_take (suc n) here (x ∷ xs) lead = (lead.0, lead_take n (after x) xs lead.1)

same_some : (x y : Ltx) → Some x ≡ Some y → x ≡ y
same_some x y same = cc

joins_next : (f : Folder) (here : Pos) (size : ℕ) (x y : Ltx) (ys : List Ltx) → AllStand f (x ∷ (y ∷ ys)) → LeadOn here (x ∷ (y ∷ ys)) → AreAlike size (entries_of (x ∷ (y ∷ ys))) → Joins x y
joins_next f here size x y ys stand lead alike =
    let at : y.header.min - 1 ≡ x.header.max = ap (λ (p : Pos). p.txid) lead.1.0 in
    record {
      transactions = omega (arith, at, stand.1.0.valid.header.min);
      sum = ap (λ (p : Pos). p.sum) lead.1.0;
      page_size = alike.1.0 ∙ sym alike.0;
    }

joins_at : (f : Folder) (here : Pos) (size : ℕ) (files : List Ltx) (k : ℕ) (b file : Ltx) → AllStand f files → LeadOn here files → AreAlike size (entries_of files) → slice_get files k ≡ Some b → slice_get files (suc k) ≡ Some file → Joins b file
joins_at f here size [] k b file stand lead alike one two = absurd (let no : None ≡ Some b = one in cc)
joins_at f here size (x ∷ []) k b file stand lead alike one two = absurd (let no : None ≡ Some file = two in cc)
joins_at f here size (x ∷ (y ∷ ys)) zero b file stand lead alike one two =
    subst (λ (z : Ltx). Joins z file) (same_some x b one) (subst (λ (z : Ltx). Joins x z) (same_some y file two) (joins_next f here size x y ys stand lead alike))
joins_at f here size (x ∷ (y ∷ ys)) (suc k) b file stand lead alike one two = joins_at f (after x) size (y ∷ ys) k b file stand.1 lead.1 alike.1 one two

all_join : (f : Folder) (here : Pos) (size : ℕ) (files : List Ltx) → 0 < length files → AllStand f files → LeadOn here files → AreAlike size (entries_of files) → AllJoin files
all_join f here size files some stand lead alike = record {
  some = some;
  join = λ place b file within at.
      let next : place - 1 ≡ suc (place - 2) = omega (arith, at.second) in
      joins_at f here size files (place - 2) b file stand lead alike at.before_is (subst (λ (k : ℕ). slice_get files k ≡ Some file) next at.file_is);
}

length_take : (n : ℕ) (files : List Ltx) → n ≤ length files → length (take n files) ≡ n
length_take zero files less = refl
length_take (suc n) [] less = absurd (omega arith)
length_take (suc n) (x ∷ xs) less = ap suc (length_take n xs (omega arith))

module _ (f : Folder) (entries : List Entry) (files : List Ltx) (are : entries ≡ entries_of files) (stand : AllStand f files) (due : AreDue entries) where
  pub front_are : take 8 entries ≡ entries_of (take 8 files)
  front_are = ap (λ (es : List Entry). take 8 es) are ∙ entries_take 8 files

  pub eight_join : (here : Pos) → LeadOn here files → AllJoin (take 8 files)
  eight_join here lead =
      let count : length entries ≡ length files = ap length are ∙ as_many files in
      let eight : length (take 8 files) ≡ 8 = length_take 8 files (omega (arith, count, due.eight)) in
      all_join f here due.size (take 8 files) (omega (arith, eight)) (stand_take f 8 files stand) (lead_take 8 here files lead)
      (subst (λ (es : List Entry). AreAlike due.size es) front_are due.alike)

  -- why they don't become one
  pub unfolded : (here : Pos) (read : List Ltx) → LeadOn here files → read ≡ take 8 files → (why : BackupFault) → IsUnmerged read why → IsUnfolded files why
  unfolded here read lead is fault.Disk why = absurd why
  unfolded here read lead is fault.Broken why = absurd why
  unfolded here read lead is (fault.NotNext have want) why = absurd why
  unfolded here read lead is (fault.NoSuchTxid txid last) why = absurd why
  unfolded here read lead is (fault.SumDiffers want got) why = subst (λ (l : List Ltx). IsUnmerged l (fault.SumDiffers want got)) is why
  unfolded here read lead is (fault.Damaged level a b) why = absurd (why (subst (λ (l : List Ltx). AllJoin l) (sym is) (eight_join here lead)))
  unfolded here read lead is fault.NoMemory why = tt

pub blameless_unfolded : (files : List Ltx) (why : BackupFault) → IsBlameless why → IsUnfolded files why
blameless_unfolded files fault.Disk blameless = tt
blameless_unfolded files fault.Broken blameless = absurd blameless
blameless_unfolded files (fault.NotNext have want) blameless = absurd blameless
blameless_unfolded files (fault.NoSuchTxid txid last) blameless = absurd blameless
blameless_unfolded files (fault.SumDiffers want got) blameless = absurd blameless
blameless_unfolded files (fault.Damaged level a b) blameless = absurd blameless
blameless_unfolded files fault.NoMemory blameless = tt

pub unmerged_cause : (T : Type 0) (files : List Ltx) (before now : Counts) (why : BackupFault) → IsUnmerged files why → AllStay before now → HasCauses {T = T} before now (Err why)
unmerged_cause T files before now fault.Disk unmerged stay = absurd unmerged
unmerged_cause T files before now fault.Broken unmerged stay = stay
unmerged_cause T files before now (fault.NotNext have want) unmerged stay = stay
unmerged_cause T files before now (fault.NoSuchTxid txid last) unmerged stay = stay
unmerged_cause T files before now (fault.SumDiffers want got) unmerged stay = stay
unmerged_cause T files before now (fault.Damaged level a b) unmerged stay = stay
unmerged_cause T files before now fault.NoMemory unmerged stay = stay

-- what goes up from a disk that was read before
pub moves_after : (file : Ltx) (from mid to from_now to_now : History) → IsSettledBut Staged from → Rests from mid → MovesUp file mid to from_now to_now → MovesUp file from to from_now to_now
moves_after file from mid to from_now to_now settled rests moves = record {
  publishes = moves.publishes;
  removes = trims_after file.header.max from mid from_now settled rests moves.removes;
  first = elim moves.first [ inl still ↦ inl (still ∙ rests.moment) | inr there ↦ inr there ];
}
