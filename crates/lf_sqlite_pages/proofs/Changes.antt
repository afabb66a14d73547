-- One more page at the end of a change.
use Rattle.std.proofs.Common.{◌≡◌, ℕ, ◌<◌, ◌≤◌, List, [], ◌∷◌, ◌++◌, length, subst, sym}
use Rattle.std.specs.List.{fold}
use Rattle.std.proofs.lemmas.List.Elements.{All-push}
use Rattle.lf_sqlite_pages.specs.LockPage.{IsDataPage}
use Rattle.lf_sqlite_pages.specs.Change.{AscendsAbove, PageChange, IsChange, last_number}
use Rattle.lf_sqlite_pages.specs.declared.page_write.PageWrite.{PageWrite}

-- a page above the last one keeps the numbers ascending
pub AscendsAbove-push : (number : ℕ) (w : PageWrite) (ws : List PageWrite) → AscendsAbove number ws →
    fold (λ _ v. v.number) number ws < w.number → AscendsAbove number (ws ++ w ∷ [])
AscendsAbove-push number w [] ascending above = (above, tt)
AscendsAbove-push number w (v ∷ vs) ascending above = (ascending.0, AscendsAbove-push v.number w vs ascending.1 above)

-- a whole page that fits a change
pub record FitsAtEnd (change : PageChange) (w : PageWrite) : Type 0 where
  pub above : last_number change.pages < w.number
  pub within : w.number ≤ change.commit
  pub holds_data : IsDataPage change.page_size w.number
  pub whole : length w.bytes ≡ change.page_size

-- such a page at the end of a change leaves a change
pub IsChange-push : (change seen : PageChange) (w : PageWrite) (pages : List PageWrite) → IsChange change → change ≡ seen →
    FitsAtEnd seen w → pages ≡ change.pages ++ w ∷ [] → IsChange (record change { pages = pages })
IsChange-push change seen w pages valid same fits grown =
    let P : PageChange → Type 0 = λ c. FitsAtEnd c w in
    let here : FitsAtEnd change w = subst P (sym same) fits in
    let Q : List PageWrite → Type 0 = λ ps. IsChange (record change { pages = ps }) in
    subst Q (sym grown)
    record {
      of_a_page_size = valid.of_a_page_size;
      ascending = AscendsAbove-push 0 w change.pages valid.ascending here.above;
      within = All-push (λ v. v.number ≤ change.commit) change.pages w valid.within here.within;
      data_pages = All-push (λ v. IsDataPage change.page_size v.number) change.pages w valid.data_pages here.holds_data;
      whole = All-push (λ v. length v.bytes ≡ change.page_size) change.pages w valid.whole here.whole;
    }
