use Rattle.std.proofs.Common.{◌≡◌, ℕ, ◌≤◌, List, length, take, subst, arith}
use Rattle.ltx_backup.specs.Moving.{AreAlike, AreDue}
use Rattle.ltx_backup.specs.declared.entry.Entry.{Entry}
use Rattle.ltx_backup.proofs.folding.is_due.Goals as goal

due_by : (size : ℕ) (entries front : List Entry) → 8 ≤ length entries → front ≡ take 8 entries → AreAlike size front → AreDue entries
due_by size entries front eight is alike = record { eight = eight; size = size; alike = subst (λ (es : List Entry). AreAlike size es) is alike }

pub returns-clause-due : goal.returns-clause-due
returns-clause-due c alike = due_by _ c.args.entries.now c.oldest-front.result.now (omega arith) c.oldest-front.ensures (c.are_alike.ensures.0 alike)
