use Rattle.std.proofs.Common.{◌≡◌, ◌-◌, ◌≤◌, IsTrue, length}
use Rattle.std.specs.Io.KnownBytes.{Appends}
use Rattle.lf_disk.specs.History.{now, Rests}
use Rattle.lf_sqlite_pages.specs.Writes.{data_page_at, writes_of}
use Rattle.page_checksum.specs.Crc.{after_bytes}
use Rattle.ltx_codec.specs.Format.{pages_encoding}
use Rattle.txn_log.specs.Store.{image_in}
use Rattle.snapshot.specs.Output.{AppendsSome}
use Rattle.snapshot.specs.Pages.{HasPages}
use Rattle.snapshot.proofs.writing.write_pages.Given as goal

-- the data pages up to the number were written, and nothing failed
abbrev pub invariant-loop-number : goal.invariant-loop-number
invariant-loop-number g l = record {
  within : l.number ≤ l.commit;
  size : length l.page ≡ length l.fn.page;
  taken : IsTrue (g.D.Disk.honest l.fn.disk) → HasPages (length l.fn.page) l.commit (now (g.D.Disk.history l.fn.disk))
      → Appends (g.K.Sink.taken l.fn.sink) (g.K.Sink.taken l.sink) (pages_encoding (writes_of (data_page_at (image_in (length l.fn.page) l.commit (now (g.D.Disk.history l.fn.disk)))) l.number));
  register : IsTrue (g.D.Disk.honest l.fn.disk) → HasPages (length l.fn.page) l.commit (now (g.D.Disk.history l.fn.disk))
      → l.register ≡ after_bytes l.fn.register (pages_encoding (writes_of (data_page_at (image_in (length l.fn.page) l.commit (now (g.D.Disk.history l.fn.disk)))) l.number));
  grows : AppendsSome (g.K.Sink.taken l.fn.sink) (g.K.Sink.taken l.sink);
  rests : Rests (g.D.Disk.history l.fn.disk) (g.D.Disk.history l.disk);
  honest : g.D.Disk.honest l.disk ≡ g.D.Disk.honest l.fn.disk;
  faults : g.D.Disk.faults l.disk ≡ g.D.Disk.faults l.fn.disk;
  sink_faults : g.K.Sink.faults l.sink ≡ g.K.Sink.faults l.fn.sink;
}

abbrev pub decreases-loop-number : goal.decreases-loop-number
decreases-loop-number g l = l.commit - l.number
