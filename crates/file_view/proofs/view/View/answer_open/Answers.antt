-- The node is that of a file, since it is served.
use Rattle.std.proofs.Common.{refl}
use Rattle.file_handles.specs.Nodes.{file_at}
use Rattle.file_view.specs.HandleRules.{open_rows}
use Rattle.file_view.specs.Served.{exists}
use Rattle.file_view.proofs.DatabaseLemmas.{opposite}
use Rattle.file_view.proofs.RequestLemmas.{of-each, tested-file}
use Rattle.file_view.proofs.RowLemmas.{none-holds}
use Rattle.file_view.proofs.view.View.answer_open.Goals as goal

pub returns-clause-done : goal.returns-clause-done
returns-clause-done c =
    let s = c.args.self.now in
    let scene = c.args.scene.now in
    let rows = none-holds (open_rows s scene c.args.node) c.in_ok-fh.ensures.allowed in
    of-each (file_at c.args.node) _ (tested-file (file_at c.args.node) (exists s scene.role) (opposite _ rows.0))
    (λ f is. (c.in_ok-fh.fh, record { reply = refl; opened = c.in_ok-fh.ensures.done f is }))
