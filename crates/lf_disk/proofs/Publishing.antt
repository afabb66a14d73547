-- The calls that publish a file.
use Rattle.std.proofs.Common.{◌≡◌, inl, inr, ℕ, true, false, List, [], ◌∷◌, Some, Option, None, length, Result, ◌≤◌, ◌+◌, ◌++◌, take, drop, refl, sym, ◌∙◌, ap, subst, arith, option_map, unwrap_or}
use Rattle.std.proofs.lemmas.Bool.{cases_Bool}
use Rattle.std.proofs.lemmas.List.{drop_all, append-nil}
use Rattle.lf_disk.specs.declared.name.FileName.{FileName}
use Rattle.lf_disk.specs.declared.name.FileName.TheVariants.{Staged}
use Rattle.lf_disk.specs.Folder.{Folder, bytes_of, Same, SameBut, same_name, renamed}
use Rattle.lf_disk.specs.Names.{same_name-one}
use Rattle.lf_disk.specs.Change.{Step, OnFile, Perhaps, Writes, SetsFile, Renames}
use Rattle.lf_disk.specs.History.{History, now, may_leave, Ticks, Moves, EachMoment, IsSettledBut}
use Rattle.lf_disk.specs.Publish.{IsTrimmed, IsStaged, IsOldOrPublished, IsPublished, with_bytes}
use Rattle.lf_base.specs.FileBytes.{resized, overwritten}
use Rattle.lf_base.proofs.FileLemmas.{resized-there}
use Rattle.lf_disk.proofs.Moments.{started, goes_on}
use Rattle.lf_disk.proofs.Folders.{LeavesBut, renamed-whole}

-- a file of at most so much length has at most so many bytes
pub within : (file : Option (List ℕ)) (size : Option ℕ) (len : ℕ) → size ≡ option_map length file → unwrap_or size 0 ≤ len → length (bytes_of file) ≤ len
within None size len is fits = omega arith
within (Some bytes) size len is fits = subst (λ (o : Option ℕ). unwrap_or o 0 ≤ len) is fits

-- a piece written over a file that is no longer is the file
overwritten-short : (piece bytes : List ℕ) → length bytes ≤ length piece → overwritten 0 piece bytes ≡ piece
overwritten-short piece bytes short =
    let none_before : resized 0 bytes ≡ take 0 bytes = resized-there 0 bytes (omega arith) in
    let none_behind : drop (0 + length piece) bytes ≡ [] = drop_all (0 + length piece) bytes (omega (arith, short)) in
    ap (λ (l : List ℕ). l ++ piece ++ drop (0 + length piece) bytes) none_before ∙ ap (λ (l : List ℕ). piece ++ l) none_behind ∙ append-nil piece

module _ (h : History) where
  -- a crash at each moment leaves every file but the staged one as before
  abbrev pub Runs : History → Type 0
  Runs new = EachMoment h new (SameBut Staged (now h))

  pub begins : IsSettledBut Staged h → Runs h
  begins settled = started h (SameBut Staged (now h)) settled

  pub here : (mid : History) → Runs mid → LeavesBut Staged (now h) mid
  here mid runs c may = runs.each mid.moment c runs.later (omega arith) may

  -- one call more
  pub stages : {T E : Type 0} (result : Result T E) (mid new : History) → Runs mid → Ticks result mid new → LeavesBut Staged (now h) new → Runs new
  stages result mid new so_far ticks leaves = goes_on result h mid new (SameBut Staged (now h)) so_far ticks leaves

  -- the staged file is written and synced
  pub staged : (mid wrote synced : History) (bytes : List ℕ) (sees : Step) → IsTrimmed (length bytes) (now h) mid → OnFile Staged (Writes 0 bytes) (now mid) (now wrote)
      → Same (now wrote) (now synced) → Moves sees (SetsFile Staged (now wrote Staged)) wrote synced → LeavesBut Staged (now h) synced → IsStaged (now h) bytes synced
  staged mid wrote synced bytes sees trimmed written same moves others =
      let made : now wrote Staged ≡ Some bytes = written.here ∙ ap (λ (b : List ℕ). Some b) (overwritten-short bytes (bytes_of (now mid Staged)) trimmed.short) in
      record {
        seen = λ n other. same n ∙ written.elsewhere n other ∙ trimmed.seen n other;
        here = same Staged ∙ made;
        others = others;
        whole = λ c may. (moves.left c may).2.here ∙ made;
      }

module _ (before : Folder) (name : FileName) (bytes : List ℕ) (h : History) (staged : IsStaged before bytes h) where
  -- the rename publishes it
  pub renames : (new : History) (sees : Step) → Moves sees (Renames Staged name) h new → (c : Folder) → may_leave new c → SameBut Staged (with_bytes name bytes before) c
  renames new sees moves c may =
      let from = moves.left c may in
      renamed-whole Staged name before from.0 c bytes (staged.others from.0 from.1) (staged.whole from.0 from.1) from.2

  pub perhaps_renames : (new : History) (sees : Step) → Moves sees (Perhaps (Renames Staged name)) h new → (c : Folder) → may_leave new c → IsOldOrPublished before name bytes c
  perhaps_renames new sees moves c may =
      let from = moves.left c may in
      elim from.2 [
        | inl same ↦ inl (λ n other. same n ∙ staged.others from.0 from.1 n other)
        | inr done ↦ inr (renamed-whole Staged name before from.0 c bytes (staged.others from.0 from.1) (staged.whole from.0 from.1) done)
      ]

  pub moments : {T E : Type 0} (result : Result T E) (new : History) → Ticks result h new → ((c : Folder) → may_leave new c → IsOldOrPublished before name bytes c)
      → EachMoment h new (IsOldOrPublished before name bytes)
  moments result new ticks left = goes_on result h h new (IsOldOrPublished before name bytes) (started h (IsOldOrPublished before name bytes) (λ c may. inl (staged.others c may))) ticks left

  -- the files as they read then
  pub published : (new : History) (other : same_name name Staged ≡ false) → Moves (Renames Staged name) (Renames Staged name) h new → IsPublished before name bytes new
  published new other moves =
      let seen = renamed-whole Staged name before (now h) (now new) bytes staged.seen staged.here moves.seen in
      record {
        seen = seen;
        staged = moves.seen Staged ∙ gone;
        settled = λ c may n differs. renames new _ moves c may n differs ∙ sym (seen n differs);
      }
    where
      gone : renamed Staged name (now h) Staged ≡ None
      gone = elim (cases_Bool (same_name Staged name)) [
        | inl is ↦ let no : true ≡ false = sym (ap (λ (n : FileName). same_name n Staged) (sym (same_name-one Staged name is))) ∙ other in absurd (cc)
        | inr isnt ↦ rw isnt refl
      ]
