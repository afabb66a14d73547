-- A transaction file that is staged as its pages come, by the change that these pages make.
use Rattle.std.proofs.Common.{◌≡◌, ℕ, ◌<◌, Option, List, [], ◌∷◌, ◌++◌, fold, refl, sym, ◌∙◌, ap, subst, arith}
use Rattle.lf_disk.specs.Folder.{Folder}
use Rattle.lf_disk.specs.History.{History}
use Rattle.lf_sqlite_pages.specs.Change.{PageChange, IsChange, with_page, last_number}
use Rattle.lf_sqlite_pages.specs.Complete.{completed_page}
use Rattle.lf_sqlite_pages.specs.LockPage.{IsDataPage}
use Rattle.lf_sqlite_pages.specs.Writes.{writes_of}
use Rattle.lf_sqlite_pages.specs.declared.page_write.PageWrite.{PageWrite}
use Rattle.lf_sqlite_pages.proofs.Writes.{writes_of-same}
use Rattle.txn_log.specs.declared.receiving.Receiving.{Receiving}
use Rattle.txn_log.specs.Receiving.{ComesNext, HasPassed, Lacks, lacking_page}
use Rattle.ltx_codec.specs.declared.header.Header.{Header}
use Rattle.txn_log.specs.Staging.{HoldsSoFar, front_encoding}
use Rattle.txn_log.specs.Intake.{HasUpTo, HoldsUpTo}
use Rattle.txn_log.proofs.Growths.{grown-other, comes-next, lacks-past}

module _ (r : Receiving) (sums : List ℕ) (count : ℕ) (change : PageChange) (valid : IsChange change) (up : HasUpTo r sums count change)
    (number : ℕ) (page : List ℕ) (above : r.passed < number) (holds_data : IsDataPage r.header.page_size number) where
  above_last : last_number change.pages < number
  above_last = omega (arith, up.last, above)

  data_page : IsDataPage change.page_size number
  data_page = subst (λ (s : ℕ). IsDataPage s number) up.size holds_data

  -- the page comes next
  pub comes : ComesNext r sums count (completed_page (with_page change number page) count) number page
  comes = comes-next change count valid number page above_last data_page r sums up.last up.size up.passed

  -- and what was staged is the same by the change with it
  pub same_front : (before : Folder) (h : History) → HoldsUpTo before r change count h → HoldsUpTo before r (with_page change number page) count h
  same_front before h holds =
      let old : ℕ → Option (List ℕ) = completed_page change count in
      let new : ℕ → Option (List ℕ) = completed_page (with_page change number page) count in
      subst (λ (ws : List PageWrite). HoldsSoFar before (front_encoding r.header ws) h)
      (writes_of-same old new r.passed (λ n first low. sym (grown-other change count valid number page above_last data_page n (λ is. omega (arith, is, low, above))))) holds

-- behind its last page the file lacks all
pub lacks_rest : (r : Receiving) (sums : List ℕ) (count : ℕ) (change : PageChange) (last : ℕ) → IsChange change → HasUpTo r sums count change → Lacks r count (completed_page change count) last
lacks_rest r sums count change last valid up n past low =
    lacks-past change count valid n (omega (arith, up.last, past)) ∙ ap (λ (s : ℕ). lacking_page s count n) (sym up.size)

-- with it the page is the last one
last_pushed : (below : ℕ) (ws : List PageWrite) (w : PageWrite) → fold (λ _ (v : PageWrite). v.number) below (ws ++ w ∷ []) ≡ w.number
last_pushed below [] w = refl
last_pushed below (v ∷ vs) w = last_pushed v.number vs w

pub up_next : (old new : Receiving) (sums : List ℕ) (count : ℕ) (change : PageChange) (number : ℕ) (page : List ℕ) → HasUpTo old sums count change
    → HasPassed new sums (completed_page (with_page change number page) count) → new.passed ≡ number → new.header ≡ old.header → HasUpTo new sums count (with_page change number page)
up_next old new sums count change number page up passed at header = record {
  passed = passed;
  last = last_pushed 0 change.pages (record { number = number; bytes = page }) ∙ sym at;
  size = ap (λ (h : Header). h.page_size) header ∙ up.size;
}

-- no page came yet
pub no_writes : (page : ℕ → Option (List ℕ)) → writes_of page 0 ≡ []
unfolding writes_of
no_writes page = refl
