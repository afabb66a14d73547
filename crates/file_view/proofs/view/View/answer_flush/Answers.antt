-- The node is that of a file, since the session has it open.
use Rattle.std.proofs.Common.{◌≡◌, refl, subst}
use Rattle.byte_locks.specs.declared.owner.Owner.{Owner}
use Rattle.file_handles.specs.Handles.{is_open}
use Rattle.file_handles.specs.Nodes.{file_at}
use Rattle.file_view.specs.HandleRules.{closing_rows, flushed}
use Rattle.file_view.proofs.DatabaseLemmas.{opposite}
use Rattle.file_view.proofs.RequestLemmas.{of-each, tested-file}
use Rattle.file_view.proofs.RowLemmas.{none-holds}
use Rattle.file_view.proofs.view.View.answer_flush.Goals as goal

pub returns-clause-done : goal.returns-clause-done
returns-clause-done c =
    let s = c.args.self.now in
    let scene = c.args.scene.now in
    let rows = none-holds (closing_rows s scene c.args.node c.args.fh) c.in_ok-flush.ensures.allowed in
    of-each (file_at c.args.node) _ (tested-file (file_at c.args.node) (is_open s.handles scene.session c.args.fh) (opposite _ rows.1.0))
    (λ f is. record {
      reply = refl;
      files_are = subst (λ (o : Owner). c.flush.new.self ≡ flushed s o f) c.owner.ensures (c.in_ok-flush.ensures.done f is);
    })
