-- A folder in which something was found to decide is not damaged.
use Rattle.std.proofs.Common.{◌≡◌, inl, inr, ℕ, List, [], length, None, Some, sym, ◌∙◌, ap, subst, arith}
use Rattle.std.proofs.lemmas.Option.{same_Some}
use Rattle.lf_disk.specs.declared.name.FileName.{FileName}
use Rattle.lf_disk.specs.declared.name.FileName.TheVariants.{Database, Snapshot, Dropped}
use Rattle.lf_disk.specs.Folder.{Folder, bytes_of}
use Rattle.ltx_codec.specs.declared.file.Ltx.{Ltx}
use Rattle.txn_log.specs.declared.entry.Entry.{Entry}
use Rattle.txn_log.specs.Kept.{LogFile, file_of}
use Rattle.txn_log.specs.Durable.{IsLog}
use Rattle.txn_log.specs.Store.{files_in}
use Rattle.node_recovery.specs.declared.found.Decider.{Decider}
use Rattle.node_recovery.specs.declared.found.Decider.TheVariants as decider
use Rattle.node_recovery.specs.declared.found.Found.{Found}
use Rattle.node_recovery.specs.declared.outline.Outline.{Outline}
use Rattle.node_recovery.specs.declared.tally.Tally.{Tally}
use Rattle.node_recovery.specs.Agreeing.{IsSummed, IsSummedOtherwise}
use Rattle.node_recovery.specs.Damage.{last_file, IsFirstRefused}
use Rattle.node_recovery.specs.Finding.{FindsBy, FindsSnapshot, FindsLog, Finds, IsSnapshotRefused, IsLogSummedOtherwise, IsDamaged, HasDamage}
use Rattle.node_recovery.specs.Listing.{AreListed}
use Rattle.node_recovery.specs.Outline.{encoding_under}
use Rattle.node_recovery.proofs.Ascending.{ascends_listed}
use Rattle.node_recovery.proofs.Finishings.{clash}
use Rattle.node_recovery.proofs.Listed.{log_listed}
use Rattle.node_recovery.proofs.Undamaged.{not_unread, not_first}
use Rattle.node_recovery.proofs.Unique.{one_log}

-- pages that have the sum that the file says have no other
not_summed : (file : Ltx) (bytes : List ℕ) (tally : Tally) (want got : ℕ) → IsSummed file bytes tally → IsSummedOtherwise file bytes want got → ⊥
not_summed file bytes tally want got is other = other.differ (other.want_is ∙ sym is.total ∙ sym other.got_is)

-- a snapshot that decides
not_refused : (f : Folder) (outline : Outline) (entries : List Entry) (tally : Tally) (want got : ℕ) → FindsSnapshot f outline entries tally → IsSnapshotRefused (bytes_of (f Snapshot)) (bytes_of (f Database)) want got → ⊥
not_refused f outline entries tally want got finds refused =
    let encoding = bytes_of (f Snapshot) in
    elim refused [
      | inl unread ↦ not_unread encoding want got ∣ finds.read.is ∣₁ unread
      | inr other ↦ elim other.1 [
        | inl later ↦ later.2 (later.0 ∙ sym finds.first ∙ ap (λ (o : Outline). o.header.min) finds.read.tells ∙ sym later.1)
        | inr sum ↦ not_summed (file_of encoding) (bytes_of (f Database)) tally want got finds.summed sum.1
      ]
    ]

-- names that list the same folder name the same files
same_files : (names others : List Entry) (f : Folder) → AreListed names f → AreListed others f → IsLog (files_in names f) → files_in others f ≡ files_in names f
same_files names others f listed also sound =
    one_log 0 0 (files_in others f) (files_in names f)
    (ascends_listed others f (files_in names f) also sound (log_listed names f listed)) sound.ascends
    (λ a b. sym (log_listed others f also a b) ∙ log_listed names f listed a b)

-- a log that decides
module _ (names : List Entry) (f : Folder) (listed : AreListed names f) (others : List Entry) (also : AreListed others f) (file : FileName) (want got : ℕ) where
  not_otherwise : (outline : Outline) (entries : List Entry) (tally : Tally) → FindsLog f outline names entries tally → IsLogSummedOtherwise others f file want got → ⊥
  not_otherwise outline entries tally finds other =
      let here = file_of (encoding_under outline f) in
      let same = same_files names others f listed also finds.entries_are.log in
      let last : other.last ≡ here = same_Some other.last here (other.last_is ∙ ap last_file same ∙ sym finds.last_is) in
      not_summed here (bytes_of (f Database)) tally want got finds.summed (subst (λ (g : Ltx). IsSummedOtherwise g (bytes_of (f Database)) want got) last other.sum)

  not_before : IsLog (files_in names f) → IsFirstRefused others f file want got → ⊥
  not_before sound refused =
      not_first others f (subst (λ (fs : List LogFile). IsLog fs) (sym (same_files names others f listed also sound)) sound) file want got refused

-- nothing that decides
no_log : (names : List Entry) (f : Folder) → names ≡ [] → IsLog (files_in names f)
no_log names f none =
    subst (λ (ns : List Entry). IsLog (files_in ns f)) (sym none)
    record {
      ascends = tt;
      encodings = λ k d within. absurd (omega (arith, within));
      min = λ k d within. absurd (omega (arith, within));
      max = λ k d within. absurd (omega (arith, within));
      follow = λ k d within. absurd (omega (arith, within));
    }

whole_by : (f : Folder) (names entries : List Entry) (tally : Tally) → AreListed names f → (d : Decider) → FindsBy f d names entries tally → (file : FileName) (want got : ℕ) → IsDamaged f file want got → ⊥
whole_by f names entries tally listed (decider.Snapshot outline) finds file want got (inl snapshot) = not_refused f outline entries tally want got finds snapshot.2
whole_by f names entries tally listed (decider.Snapshot outline) finds file want got (inr log) = clash (f Snapshot) log.0 finds.there
whole_by f names entries tally listed decider.Mark finds file want got (inl snapshot) = clash (f Snapshot) finds.no_snapshot snapshot.0
whole_by f names entries tally listed decider.Mark finds file want got (inr log) = clash (f Dropped) log.1 finds.there
whole_by f names entries tally listed (decider.Last outline) finds file want got (inl snapshot) = clash (f Snapshot) finds.no_snapshot snapshot.0
whole_by f names entries tally listed (decider.Last outline) finds file want got (inr log) = elim log.4 [
  | inl first ↦ not_before names f listed log.2 log.3 file want got finds.entries_are.log first
  | inr more ↦ elim more [
    | inl last ↦ not_otherwise names f listed log.2 log.3 file want got outline entries tally finds last
    | inr lost ↦
        let none : files_in names f ≡ [] = sym (same_files names log.2 f listed log.3 finds.entries_are.log) ∙ ap (λ (ns : List Entry). files_in ns f) lost.no_names in
        let no : Some (file_of (encoding_under outline f)) ≡ None = finds.last_is ∙ ap last_file none in
        absurd (cc)
  ]
]
whole_by f names entries tally listed decider.Nothing finds file want got (inl snapshot) = clash (f Snapshot) finds.no_snapshot snapshot.0
whole_by f names entries tally listed decider.Nothing finds file want got (inr log) =
    let sound = no_log names f finds.no_names in
    let none : files_in log.2 f ≡ [] = same_files names log.2 f listed log.3 sound ∙ ap (λ (ns : List Entry). files_in ns f) finds.no_names in
    elim log.4 [
      | inl first ↦ not_before names f listed log.2 log.3 file want got sound first
      | inr more ↦ elim more [
        | inl last ↦ let no : Some last.last ≡ None = last.last_is ∙ ap last_file none in absurd (cc)
        | inr lost ↦ omega (arith, lost.some, lost.got_is ∙ ap length finds.no_bytes)
      ]
    ]

pub whole_found : (f : Folder) (found : Found) → Finds f found → HasDamage f → ⊥
whole_found f found finds damage =
    whole_by f found.names.items found.entries.items found.tally finds.names found.decider finds.by damage.0 damage.1 damage.2 damage.3
