use Rattle.std.proofs.Common.{◌≡◌, drop}
use Rattle.page_checksum.specs.Crc.{after_bytes}
use Rattle.page_checksum.proofs.words.feed_bytes.Given as goal

-- the bytes left bring the register to where all bytes bring the first one
abbrev pub invariant-loop-byte : goal.invariant-loop-byte
invariant-loop-byte l = after_bytes l.register (drop l.byte-index l.bytes) ≡ after_bytes l.fn.register l.bytes
