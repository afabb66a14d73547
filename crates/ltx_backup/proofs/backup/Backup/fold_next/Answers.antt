use Rattle.std.proofs.Common.{◌≡◌, List, sym, subst}
use Rattle.ltx_codec.specs.declared.file.Ltx.{Ltx}
use Rattle.ltx_backup.specs.Entries.{entries_of}
use Rattle.ltx_backup.specs.Folding.{IsDue}
use Rattle.ltx_backup.specs.Moving.{AreDue}
use Rattle.ltx_backup.specs.declared.entry.Entry.{Entry}
use Rattle.ltx_backup.proofs.Refusals.{low_refused, middle_refused}
use Rattle.ltx_backup.proofs.Settlings.{is_due, are_due}
use Rattle.ltx_backup.proofs.backup.Backup.fold_next.Goals as goal

-- of the entries that were asked
due_of : (asked entries : List Entry) (files : List Ltx) → asked ≡ entries → entries ≡ entries_of files → AreDue asked → IsDue files
due_of asked entries files same are due = is_due entries files are (subst (λ (es : List Entry). AreDue es) same due)

not_due_of : (asked entries : List Entry) (files : List Ltx) → asked ≡ entries → entries ≡ entries_of files → (AreDue asked → ⊥) → IsDue files → ⊥
not_due_of asked entries files same are not due = not (subst (λ (es : List Entry). AreDue es) (sym same) (are_due entries files are due))

pub returns-in-Err-clause-goes_on : goal.returns-in-Err-clause-goes_on
returns-in-Err-clause-goes_on g c honest levels kept =
    low_refused levels c.fold_low.new.self.index (g.D.Disk.history c.fold_low.new.self.low) (g.D.Disk.history c.fold_low.new.self.middle) (g.D.Disk.history c.fold_low.new.self.high) (Unit {0}) c.in-Err.why
    (due_of c.as_slice.result.now c.args.self.now.index.entries.lows.items levels.lows c.as_slice.ensures.value kept.lows.entries_are (c.is_due.ensures.due c.if-is_due.true))
    (c.in-Err.ensures.folds honest levels kept)

pub returns-in-Err-fold_middle-clause-goes_on : goal.returns-in-Err-fold_middle-clause-goes_on
returns-in-Err-fold_middle-clause-goes_on g c honest levels kept =
    middle_refused levels c.fold_middle.new.self.index (g.D.Disk.history c.fold_middle.new.self.low) (g.D.Disk.history c.fold_middle.new.self.middle) (g.D.Disk.history c.fold_middle.new.self.high) (Unit {0}) c.in-Err-fold_middle.why
    (not_due_of c.as_slice.result.now c.args.self.now.index.entries.lows.items levels.lows c.as_slice.ensures.value kept.lows.entries_are (c.is_due.ensures.not_due c.if-is_due.false))
    (due_of c.as_slice-2.result.now c.args.self.now.index.entries.middles.items levels.middles c.as_slice-2.ensures.value kept.middles.entries_are (c.is_due-2.ensures.due c.if-is_due-2.true))
    (c.in-Err-fold_middle.ensures.folds honest levels kept)

pub returns-clause-goes_on : goal.returns-clause-goes_on
returns-clause-goes_on g c honest levels kept = (
  kept,
  record {
    low = not_due_of c.as_slice.result.now c.args.self.now.index.entries.lows.items levels.lows c.as_slice.ensures.value kept.lows.entries_are (c.is_due.ensures.not_due c.if-is_due.false);
    middle = not_due_of c.as_slice-2.result.now c.args.self.now.index.entries.middles.items levels.middles c.as_slice-2.ensures.value kept.middles.entries_are (c.is_due-2.ensures.not_due c.if-is_due-2.false);
  },
)
