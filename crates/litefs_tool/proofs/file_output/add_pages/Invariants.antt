use Rattle.std.proofs.Common.{◌≡◌, ◌++◌, ◌≤◌, drop, vec_capacity}
use Rattle.page_checksum.specs.Crc.{after_bytes}
use Rattle.ltx_codec.specs.Format.{pages_encoding}
use Rattle.litefs_tool.proofs.GatherLemmas.{HasAdded}
use Rattle.litefs_tool.proofs.file_output.add_pages.Given as goal

-- the pages before this one were added, and the register is that after them
abbrev pub invariant-loop-page : goal.invariant-loop-page
invariant-loop-page g l = record {
  added : HasAdded (g.S.Sink.taken l.fn.sink) (g.S.Sink.taken l.sink) (l.fn.buffer.items ++ pages_encoding l.pages) (pages_encoding (drop l.page-index l.pages)) l.buffer.items;
  register : after_bytes l.register (pages_encoding (drop l.page-index l.pages)) ≡ after_bytes l.fn.register (pages_encoding l.pages);
  room : 131072 ≤ vec_capacity l.buffer;
  faults : g.S.Sink.faults l.sink ≡ g.S.Sink.faults l.fn.sink;
}
