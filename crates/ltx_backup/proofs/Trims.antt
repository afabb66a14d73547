-- Files of a folder are removed, one after another.
use Rattle.std.proofs.Common.{◌≡◌, ◌∙◌, ◌⊎◌, inl, inr, ℕ, ◌+◌, ◌<◌, ◌≤◌, Bool, false, List, [], ◌∷◌, ◌++◌, None, Result, refl, sym, ap, subst, arith, take, get_or, length}
use Rattle.std.specs.Prelude.{◌==◌, ◌&&◌}
use Rattle.std.proofs.lemmas.Bool.{cases_Bool}
use Rattle.std.proofs.lemmas.Bool.Decides.{nat_tests}
use Rattle.std.proofs.lemmas.List.{take_more}
use Rattle.lf_disk.specs.declared.name.FileName.{FileName}
use Rattle.lf_disk.specs.declared.name.FileName.TheVariants.{Staged, Snapshot, Ltx as LtxName}
use Rattle.lf_disk.specs.Folder.{Folder, same_name, SameBut}
use Rattle.lf_disk.specs.Names.{same_name-one}
use Rattle.lf_disk.specs.Change.{Step, Perhaps, SetsFile}
use Rattle.lf_disk.specs.History.{History, now, may_leave, Ticks, Moves, EachMoment, IsSettledBut}
use Rattle.lf_disk.proofs.Moments.{started, goes_on}
use Rattle.ltx_backup.specs.Trimming.{IsTrimmed, HasTrimmed}
use Rattle.ltx_backup.specs.declared.entry.Entry.{Entry}
use Rattle.ltx_backup.proofs.Listings.{lists_cases}

-- a folder that is the same but for what is staged is trimmed as the other
pub trimmed_same : (number : ℕ) (before f c : Folder) → IsTrimmed number before f → SameBut Staged f c → IsTrimmed number before c
trimmed_same number before f c trimmed same = record {
  snapshot = same Snapshot refl ∙ trimmed.snapshot;
  past = λ a b above. same (LtxName a b) refl ∙ trimmed.past a b above;
}

pub not_trimmed : (number : ℕ) (before c : Folder) → SameBut Staged before c → IsTrimmed number before c
not_trimmed number before c same = record { snapshot = same Snapshot refl; past = λ a b above. same (LtxName a b) refl }

-- a disk of which nothing was removed
pub untouched : (number : ℕ) (h : History) → IsSettledBut Staged h → EachMoment h h (IsTrimmed number (now h))
untouched number h settled = started h (IsTrimmed number (now h)) (λ c may. not_trimmed number (now h) c (settled c may))

pub begins : (number : ℕ) (h : History) → IsSettledBut Staged h → HasTrimmed number [] (now h) h
begins number h settled = record {
  trimmed = record { snapshot = refl; past = λ a b above. refl };
  gone = λ a b within lists. absurd lists;
  fewer = λ a b none. none;
  settled = settled;
}

module _ (number : ℕ) (before : Folder) (es : List Entry) (e : Entry) (mid new : History) (so_far : HasTrimmed number es before mid) where
  -- an entry that is past the number is passed over
  pub passed : number < e.min → e.min ≤ 18446744073709551615 → HasTrimmed number (es ++ e ∷ []) before mid
  passed above fits = record {
    trimmed = so_far.trimmed;
    gone = λ a b within lists. elim (lists_cases es e a b lists) [
      | inl old ↦ so_far.gone a b within old
      | inr is ↦ absurd (elim within [ inl low ↦ let no : ⊥ = absurd (omega (arith, is.0, low, above)) in no | inr all ↦ let no : ⊥ = absurd (omega (arith, all, fits, above)) in no ])
    ];
    fewer = so_far.fewer;
    settled = so_far.settled;
  }

  module _ (low : e.min ≤ number) where
    other : (a b : ℕ) → number < a → same_name (LtxName a b) (LtxName e.min e.max) ≡ false
    other a b above =
        let isnt : (a == e.min) ≡ false = grind (arith, nat_tests) in
        ap (λ (x : Bool). x && (b == e.max)) isnt

    trims : (f c : Folder) → IsTrimmed number before f → SetsFile (LtxName e.min e.max) None f c → IsTrimmed number before c
    trims f c trimmed sets = record {
      snapshot = sets.elsewhere Snapshot refl ∙ trimmed.snapshot;
      past = λ a b above. sets.elsewhere (LtxName a b) (other a b above) ∙ trimmed.past a b above;
    }

    -- under each name there is nothing, or what there was
    either : (f c : Folder) → SetsFile (LtxName e.min e.max) None f c → (n : FileName) → (c n ≡ None) ⊎ (c n ≡ f n)
    either f c sets n = elim (cases_Bool (same_name n (LtxName e.min e.max))) [
      | inl is ↦ inl (ap c (same_name-one n (LtxName e.min e.max) is) ∙ sets.here)
      | inr isnt ↦ inr (sets.elsewhere n isnt)
    ]

    none_stays : (f c : Folder) → SetsFile (LtxName e.min e.max) None f c → (n : FileName) → f n ≡ None → c n ≡ None
    none_stays f c sets n none = elim (either f c sets n) [ inl gone ↦ gone | inr same ↦ same ∙ none ]

    settles : Moves (SetsFile (LtxName e.min e.max) None) (SetsFile (LtxName e.min e.max) None) mid new → IsSettledBut Staged new
    settles moves c may n staged =
        let from = moves.left c may in
        elim (cases_Bool (same_name n (LtxName e.min e.max))) [
          | inl is ↦
              let same : n ≡ LtxName e.min e.max = same_name-one n (LtxName e.min e.max) is in
              ap c same ∙ from.2.here ∙ sym (ap (now new) same ∙ moves.seen.here)
          | inr isnt ↦ from.2.elsewhere n isnt ∙ so_far.settled from.0 from.1 n staged ∙ sym (moves.seen.elsewhere n isnt)
        ]

    pub removed : Moves (SetsFile (LtxName e.min e.max) None) (SetsFile (LtxName e.min e.max) None) mid new → HasTrimmed number (es ++ e ∷ []) before new
    removed moves = record {
      trimmed = trims (now mid) (now new) so_far.trimmed moves.seen;
      gone = λ a b within lists. elim (lists_cases es e a b lists) [
        | inl old ↦ none_stays (now mid) (now new) moves.seen (LtxName a b) (so_far.gone a b within old)
        | inr is ↦
            let same : LtxName a b ≡ LtxName e.min e.max = λ i. LtxName (sym is.0 i) (sym is.1 i) in
            ap (now new) same ∙ moves.seen.here
      ];
      fewer = λ a b none. none_stays (now mid) (now new) moves.seen (LtxName a b) (so_far.fewer a b none);
      settled = settles moves;
    }

    pub left_by : (sees : Step) → Moves sees (Perhaps (SetsFile (LtxName e.min e.max) None)) mid new → (c : Folder) → may_leave new c → IsTrimmed number before c
    left_by sees moves c may =
        let from = moves.left c may in
        let kept : IsTrimmed number before from.0 = trimmed_same number before (now mid) from.0 so_far.trimmed (so_far.settled from.0 from.1) in
        elim from.2 [
          | inl same ↦ trimmed_same number before from.0 c kept (λ n differs. same n)
          | inr sets ↦ trims from.0 c kept sets
        ]

-- one removal more
module _ {T E : Type 0} (result : Result T E) (number : ℕ) (h mid new : History) (runs : EachMoment h mid (IsTrimmed number (now h))) (ticks : Ticks result mid new) where
  pub runs_on : ((c : Folder) → may_leave new c → IsTrimmed number (now h) c) → EachMoment h new (IsTrimmed number (now h))
  runs_on left = goes_on result h mid new (IsTrimmed number (now h)) runs ticks left

-- what is trimmed and settled leaves a trimmed folder
pub left_trimmed : (number : ℕ) (es : List Entry) (before : Folder) (h : History) → HasTrimmed number es before h → (c : Folder) → may_leave h c → IsTrimmed number before c
left_trimmed number es before h done c may = trimmed_same number before (now h) c done.trimmed (done.settled c may)

-- the entries so far, with one more
pub one_more : (number : ℕ) (entries : List Entry) (e : Entry) (i : ℕ) (before : Folder) (h : History) → i < length entries
    → HasTrimmed number (take i entries ++ get_or entries i e ∷ []) before h → HasTrimmed number (take (i + 1) entries) before h
one_more number entries e i before h more done =
    subst (λ (es : List Entry). HasTrimmed number es before h) (sym (take_more entries i e more)) done
