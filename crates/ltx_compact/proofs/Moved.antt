-- Files that are taken from the end of a list, and what slots hold of them.
use Rattle.std.proofs.Common.{◌≡◌, ℕ, ◌≤◌, None, List, [], ◌∷◌, ◌++◌, length, min, replicate, sym, ◌∙◌, ap, subst, arith, append_assoc, append-nil, length-append}
use Rattle.std.specs.List.{All}
use Rattle.std.proofs.Math.Seq.{get_or-append_seam}
use Rattle.lf_sqlite_pages.specs.Change.{written}
use Rattle.ltx_codec.specs.declared.file.Ltx.{Ltx}
use Rattle.ltx_compact.specs.Slots.{Slots, AreFilled, cut_page, HoldPages}
use Rattle.ltx_compact.proofs.Filled.{IsTaken, AreLeftPast, AreLeftPast-more, HoldPages-none, HoldPages-more}

-- all but the rest of the files were taken: the slots hold what they leave, and every page past low is there
pub record AreTaken (files rest : List Ltx) (commit low : ℕ) (slots : Slots) : Type 0 where
  pub later : List Ltx
  pub split : files ≡ rest ++ later
  pub held : HoldPages later commit slots
  pub within : low ≤ commit
  pub past : AreLeftPast later low commit

-- none was taken
pub AreTaken-none : (files : List Ltx) (slots : Slots) → slots ≡ replicate (length slots) None → AreTaken files files (length slots) (length slots) slots
AreTaken-none files slots empty = record {
  later = [];
  split = sym (append-nil files);
  held = HoldPages-none (length slots) slots empty;
  within = omega arith;
  past = λ n above within. absurd (omega arith);
}

-- what holds of each file holds of one between others
All-seam : (P : Ltx → Type 0) (files rest later : List Ltx) (file : Ltx) → files ≡ rest ++ file ∷ later → All P files → P file
All-seam P files rest later file split all =
    let here : All P (rest ++ file ∷ later) = subst (All P) split all in
    subst P (get_or-append_seam rest file later file) (here (length rest) file (omega (arith, length-append rest (file ∷ later))))

-- the last of the rest is taken too
pub AreTaken-more : (files old rest : List Ltx) (file : Ltx) (zeros : List ℕ) (commit low : ℕ) (slots cut_slots new_slots : Slots) →
    AreTaken files old commit low slots → old ≡ rest ++ file ∷ [] → All (λ f. zeros ≡ replicate f.change.page_size 0) files →
    AreFilled slots (cut_page file.change.commit low zeros) cut_slots → AreFilled cut_slots (written file.change.pages) new_slots →
    AreTaken files rest commit (min low file.change.commit) new_slots
AreTaken-more files old rest file zeros commit low slots cut_slots new_slots taken popped sized cut wrote =
    let split : files ≡ rest ++ file ∷ taken.later =
    taken.split ∙ ap (λ (fs : List Ltx). fs ++ taken.later) popped ∙ append_assoc rest (file ∷ []) taken.later
    in
    let one : IsTaken file zeros low slots cut_slots new_slots = record {
      zeros_are = All-seam (λ f. zeros ≡ replicate f.change.page_size 0) files rest taken.later file split sized;
      cut = cut;
      wrote = wrote;
    }
    in
    record {
      later = file ∷ taken.later;
      split = split;
      held = HoldPages-more file taken.later zeros commit low slots cut_slots new_slots one taken.held taken.past;
      within = omega (arith, taken.within);
      past = AreLeftPast-more file taken.later commit low taken.past;
    }

-- all were taken
pub HoldPages-taken : (files rest : List Ltx) (commit low : ℕ) (slots : Slots) → AreTaken files rest commit low slots → rest ≡ [] → HoldPages files commit slots
HoldPages-taken files rest commit low slots taken none =
    subst (λ (fs : List Ltx). HoldPages fs commit slots) (sym (taken.split ∙ ap (λ (fs : List Ltx). fs ++ taken.later) none)) taken.held
