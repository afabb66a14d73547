use Rattle.std.proofs.Common.{◌≡◌, IsTrue, length}
use Rattle.std.specs.List.{All}
use Rattle.lf_disk.specs.History.{Rests}
use Rattle.ltx_codec.specs.Format.{IsFile}
use Rattle.node_core.specs.Hello.{IsLookedInto}
use Rattle.node_core.specs.Running.{files_at}
use Rattle.node_core.specs.Stores.{fields_of, history_of, state}
use Rattle.node_core.proofs.running.gather.Given as goal

abbrev pub invariant-loop-at : goal.invariant-loop-at
invariant-loop-at g l = record {
  count : length l.gathered.files.items ≡ l.at;
  valid : All IsFile l.gathered.files.items;
  files : IsTrue (g.D.Disk.honest l.initial.store.disk) → l.gathered.files.items ≡ files_at (state (history_of l.initial.store) (fields_of l.initial.store)).log l.first l.at;
  looked : IsLookedInto (history_of l.initial.store) (fields_of l.initial.store) (history_of l.store) (fields_of l.store);
  rests : IsTrue (g.D.Disk.honest l.initial.store.disk) → Rests (history_of l.initial.store) (history_of l.store);
}
