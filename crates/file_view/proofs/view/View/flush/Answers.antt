-- A node has one file.
use Rattle.std.proofs.Common.{◌≡◌, Some, sym, ◌∙◌, subst}
use Rattle.byte_locks.specs.declared.lock_bytes.FileKind.{FileKind}
use Rattle.file_view.specs.HandleRules.{flushed}
use Rattle.file_view.proofs.view.View.flush.Goals as goal

pub returns-clause-done : goal.returns-clause-done
returns-clause-done c file at =
    let both : Some c.in_ok-file.file ≡ Some file = sym c.in_ok-file.ensures.found ∙ at in
    let same : c.in_ok-file.file ≡ file = cc in
    subst (λ (f : FileKind). c.release_file.new.self ≡ flushed c.args.self.now c.args.owner f) same c.release_file.ensures
