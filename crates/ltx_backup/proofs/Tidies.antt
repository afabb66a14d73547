-- What was left staged is removed.
use Rattle.std.proofs.Common.{◌∙◌, inl, inr, ℕ, List, None, Result, refl, sym}
use Rattle.lf_disk.specs.declared.name.FileName.TheVariants.{Staged, Ltx as LtxName}
use Rattle.lf_disk.specs.Folder.{Folder}
use Rattle.lf_disk.specs.Change.{Step, Perhaps, SetsFile}
use Rattle.lf_disk.specs.History.{History, now, may_leave, Ticks, Moves, EachMoment}
use Rattle.lf_disk.proofs.Moments.{goes_on}
use Rattle.ltx_backup.specs.Trimming.{IsTrimmed, HasTrimmed}
use Rattle.ltx_backup.specs.declared.entry.Entry.{Entry}
use Rattle.ltx_backup.proofs.Trims.{trimmed_same, left_trimmed}

module _ (number : ℕ) (es : List Entry) (h mid new : History) where
  pub tidied : HasTrimmed number es (now h) mid → Moves (SetsFile Staged None) (SetsFile Staged None) mid new → HasTrimmed number es (now h) new
  tidied done moves = record {
    trimmed = trimmed_same number (now h) (now mid) (now new) done.trimmed moves.seen.elsewhere;
    gone = λ a b within lists. moves.seen.elsewhere (LtxName a b) refl ∙ done.gone a b within lists;
    fewer = λ a b none. moves.seen.elsewhere (LtxName a b) refl ∙ done.fewer a b none;
    settled = λ c may n differs.
        let from = moves.left c may in
        from.2.elsewhere n differs ∙ done.settled from.0 from.1 n differs ∙ sym (moves.seen.elsewhere n differs);
  }

  module _ {T E : Type 0} (result : Result T E) (runs : EachMoment h mid (IsTrimmed number (now h))) (done : HasTrimmed number es (now h) mid) (ticks : Ticks result mid new) where
    pub staged_gone : Moves (SetsFile Staged None) (SetsFile Staged None) mid new → EachMoment h new (IsTrimmed number (now h))
    staged_gone moves = goes_on result h mid new (IsTrimmed number (now h)) runs ticks (left_trimmed number es (now h) new (tidied done moves))

    left_by : (sees : Step) → Moves sees (Perhaps (SetsFile Staged None)) mid new → (c : Folder) → may_leave new c → IsTrimmed number (now h) c
    left_by sees moves c may =
        let from = moves.left c may in
        let kept : IsTrimmed number (now h) from.0 = left_trimmed number es (now h) mid done from.0 from.1 in
        elim from.2 [
          | inl same ↦ trimmed_same number (now h) from.0 c kept (λ n differs. same n)
          | inr sets ↦ trimmed_same number (now h) from.0 c kept sets.elsewhere
        ]

    pub perhaps_gone : (sees : Step) → Moves sees (Perhaps (SetsFile Staged None)) mid new → EachMoment h new (IsTrimmed number (now h))
    perhaps_gone sees moves = goes_on result h mid new (IsTrimmed number (now h)) runs ticks (left_by sees moves)
