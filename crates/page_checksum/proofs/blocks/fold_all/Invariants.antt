use Rattle.std.proofs.Common.{◌≡◌, ◌++◌, take}
use Rattle.std.specs.List.{concat}
use Rattle.page_checksum.specs.Crc.{after_bytes}
use Rattle.page_checksum.proofs.blocks.fold_all.Given as goal

-- the state has taken in the blocks before this one
abbrev pub invariant-loop-block : goal.invariant-loop-block
invariant-loop-block l = after_bytes 0 l.state ≡ after_bytes 0 (l.fn.state ++ concat (take l.block-index l.blocks))
