-- The mark of a dropped database is published.
use Rattle.std.proofs.Common.{inl, inr, ℕ, false, Option, IsSome, List, refl, sym, ◌∙◌, subst}
use Rattle.lf_disk.specs.declared.name.FileName.TheVariants.{Staged, Snapshot, Dropped, Ltx}
use Rattle.lf_disk.specs.Folder.{Folder, SameBut}
use Rattle.lf_disk.specs.History.{History, now, EachMoment}
use Rattle.lf_disk.specs.Publish.{IsStaged, IsOldOrPublished, IsPublished, with_bytes}
use Rattle.lf_disk.proofs.Moments.{joined, weakened}
use Rattle.lf_sqlite_pages.specs.Image.{DatabaseImage}
use Rattle.txn_log.specs.declared.entry.Entry.{Entry}
use Rattle.txn_log.specs.Dropping.{NameAll, IsKeptOrDropped, IsMarkReady}
use Rattle.txn_log.specs.Kept.{LogFile, Kept, IsByMark, IsAtRest}
use Rattle.txn_log.specs.Settling.{HasNoOthers}
use Rattle.txn_log.proofs.Naming.{no_others}
use Rattle.txn_log.proofs.Placings.{kept_same}

module _ (h : History) (image : DatabaseImage) (files : List LogFile) (ready : IsMarkReady image files h) where
  pub by_mark : (c : Folder) → SameBut Staged (with_bytes Dropped ready.bytes ready.before) c → IsByMark c
  by_mark c same = record {
    no_snapshot = same Snapshot refl ∙ ready.kept.no_snapshot;
    stands = subst (λ (o : Option (List ℕ)). IsSome o) (sym (same Dropped refl)) refl;
  }

  pub first : (c : Folder) → IsOldOrPublished ready.before Dropped ready.bytes c → IsKeptOrDropped image files c
  first c is = elim is [
    | inl old ↦ inl (kept_same image files false ready.before c ready.kept old)
    | inr new ↦ inr (by_mark c new)
  ]

  pub moments : (mid new : History) → EachMoment h mid (IsOldOrPublished ready.before Dropped ready.bytes) → EachMoment mid new IsByMark → EachMoment h new (IsKeptOrDropped image files)
  moments mid new before after =
      joined h mid new (IsKeptOrDropped image files)
      (weakened h mid (IsOldOrPublished ready.before Dropped ready.bytes) (IsKeptOrDropped image files) before first)
      (weakened mid new IsByMark (IsKeptOrDropped image files) after (λ c by. inr by))

  pub none_other : (mid : History) (entries : List Entry) → IsPublished ready.before Dropped ready.bytes mid → NameAll entries files → HasNoOthers entries (now mid)
  none_other mid entries published all = no_others entries files (now mid) all.named all.count (λ a b. published.seen (Ltx a b) refl ∙ ready.kept.log a b)

module _ (h mid : History) (image : DatabaseImage) (files : List LogFile) (rest : IsAtRest image files false h) where
  pub stays : EachMoment h mid (SameBut Staged (now h)) → EachMoment h mid (Kept image files false)
  stays runs = weakened h mid (SameBut Staged (now h)) (Kept image files false) runs (λ c same. kept_same image files false (now h) c rest.kept same)

  pub mark_ready : (bytes : List ℕ) → IsStaged (now h) bytes mid → IsMarkReady image files mid
  mark_ready bytes staged = record { before = now h; bytes = bytes; staged = staged; kept = rest.kept }

  pub runs : (new : History) → EachMoment h mid (SameBut Staged (now h)) → EachMoment mid new (IsKeptOrDropped image files) → EachMoment h new (IsKeptOrDropped image files)
  runs new first second =
      joined h mid new (IsKeptOrDropped image files)
      (weakened h mid (Kept image files false) (IsKeptOrDropped image files) (stays first) (λ c kept. inl kept)) second
