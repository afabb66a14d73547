use Rattle.page_checksum.proofs.CrcLemmas.{after_bytes-append}
use Rattle.page_checksum.proofs.crc.pieces_join.Goals as goal

pub returns : goal.returns
returns c = after_bytes-append
