-- What the parts of a list in blocks keep between its calls.
use Rattle.std.specs.Prelude.{◌≡◌, ◌+◌, ◌-◌, ◌/◌, ◌<◌, ◌≤◌, true, Some, None, vec_len, vec_capacity, if◌then◌else◌}
use Rattle.lf_base.specs.FileBytes.{overwritten, resized}
use Rattle.lf_sqlite_pages.specs.BlockTable.{bytes_in, blocks_in, kept_in, IsTable, AreKept, AreReady}
use Rattle.lf_sqlite_pages.specs.Blocks.{BlockList}
use Rattle.lf_sqlite_pages.specs.declared.blocks.Blocks.TheInside.{Inside}

-- the list that the parts stand for
abbrev pub list_of : Inside → BlockList
list_of b = record {
  bytes = bytes_in b.len b.blocks.items;
  held = kept_in b.blocks.items;
  before = if b.can_undo then Some (resized b.old_len (overwritten b.saved_at b.saved.items (bytes_in b.len b.blocks.items))) else None;
  room = record { from = b.from; to = b.to };
}

-- the bytes lie in the blocks, those of the room have theirs, and what was saved goes back into blocks that are kept
pub record IsKept (b : Inside) : Type 0 where
  pub table : IsTable b.blocks.items b.len
  pub limit : b.len ≤ 268435456
  pub room_limit : b.to ≤ 268435456
  pub places : b.from < b.to → blocks_in b.to - b.from / 4096 ≤ vec_len b.ready
  pub ready : AreReady b.blocks.items (b.from / 4096) b.ready.items b.from b.to
  pub capacity : b.from < b.to → blocks_in b.to ≤ vec_capacity b.blocks
  pub spare : b.to - b.from ≤ vec_capacity b.saved
  pub shorter : b.can_undo ≡ true → b.old_len ≤ b.len
  pub saved : b.can_undo ≡ true → b.saved_at + vec_len b.saved ≤ b.old_len
  pub kept : b.can_undo ≡ true → AreKept b.blocks.items b.saved_at (b.saved_at + vec_len b.saved)
